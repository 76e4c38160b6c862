-- A worker runs a window.
use Rattle.std.proofs.Common.{◌≡◌, ℕ, suc, ◌+◌, ◌-◌, ◌*◌, ◌<◌, ◌≤◌, ◌^◌, List, [], ◌∷◌, Bool, true, false, ◌||◌, cond, Option, Some, None, sym, ap, ◌∙◌, subst, arith, ◌⊎◌, inl, inr, length, add-one, slice_index_or}
use Rattle.std.specs.Prelude.{slice_index, replicate, ◌==◌}
use Rattle.std.proofs.lemmas.List.{length-set}
use Rattle.std.specs.List.{filter, AllByRecursion as Each}
use Rattle.std.proofs.lemmas.Bool.{cases_Bool, cases_eq, eq-eqb, ne_eqb}
use Rattle.ss_model.specs.declared.Key.{Key}
use Rattle.ss_model.specs.declared.Event.{Event}
use Rattle.ss_model.specs.declared.Line.{Line}
use Rattle.ss_model.specs.Order.{key_before, NoneBefore, IsSorted}
use Rattle.ss_model.specs.Wiring.{Wiring}
use Rattle.ss_model.specs.Step.{State}
use Rattle.ss_element.specs.Kind.{Kind}
use Rattle.ss_element.specs.Saving.{Saving}
use Rattle.ss_window.specs.declared.Cuts.{Cuts}
use Rattle.ss_element.specs.World as element
use Rattle.ss_theory.specs.Queue.{IsOrdered, is_at, has}
use Rattle.ss_theory.specs.World.{World, before, HasBelow, dst_of, take_in, part_last, IsPartUntil}
use Rattle.ss_theory.specs.Rounds.{Moment, low, first_time}
use Rattle.ss_theory.proofs.Sorted.{ordered_filter}
use Rattle.ss_theory.proofs.Steps.{by_order}
use Rattle.ss_theory.proofs.Rounds as on
use Rattle.ss_parts.specs.Division.{part_idle}
use Rattle.ss_piece.specs.Pieces.{Slip}
use Rattle.ss_parts.proofs.Laws.{keys_in_order}
use Rattle.ss_parts.proofs.Windows as windows
use Rattle.ss_run.specs.declared.RunSpec.{RunSpec}
use Rattle.ss_run.specs.Meaning.{Meaning, MeaningLaws}
use Rattle.ss_run.specs.Run.{division, wires_of, start_of, view, PartState, IsFitting, IsAt, window_end, known, IsPartAt, IsPartDone, HasWindows}
use Rattle.ss_worker.specs.declared.known.Known.{Known}
use Rattle.ss_worker.specs.Knowing.{behind}
use Rattle.ss_worker.specs.Place.{all_set, only}
use Rattle.ss_worker.specs.Standing.{Standing, CanRunTo, RunsTo}
use Rattle.ss_worker.specs.Batched.{AreBatches}
use Rattle.ss_worker.specs.Told.{Tells, IsLeft, IsNext, IsLast, AreSent}
use Rattle.ss_worker.specs.declared.stage.Window.{Window}
use Rattle.ss_worker.specs.Sound.{Name, named, heard, KnowsEnd, HasBatches, HasSent, IsSound}
use Rattle.ss_worker.specs.Outgoing.{Leaves, AreNamed, HasFirst}
use Rattle.ss_worker.proofs.Flags.{heard_all, only_own, only_others, soonest_one, all_one, length_flags}
use Rattle.ss_worker.proofs.Knows.{KnowsAt, StandsWhole, stands}
use Rattle.ss_worker.proofs.Outgoings.{if_same}
use Rattle.ss_worker.proofs.Course as course

module _ {S L : Type 0} (kind : Kind S L) (Safe : Wiring → ℕ → State S L → Type 0) (rests : element.World kind Safe) (m : Meaning S L) (laws : MeaningLaws Safe m) (r : RunSpec) (f : IsFitting kind m r) where
  abbrev V : World (List S) (List (ℕ × S)) Key (Event L) Line
  V = view kind m r

  none_back : (k : Key) (xs : List (Event L)) → Each (λ y. key_before y.key k ≡ false) xs → NoneBefore k xs
  none_back k [] h = tt
  none_back k (x ∷ xs) h = (h.0, none_back k xs h.1)

  sorted_back : (xs : List (Event L)) → IsOrdered (before V) xs → IsSorted xs
  sorted_back [] h = tt
  sorted_back (x ∷ xs) h = (none_back x.key xs h.0, sorted_back xs h.1)

  pub ordered : (k : ℕ) (h : Moment (List S) (Event L)) → IsAt kind m r k h → IsOrdered (before V) h.whole.pending
  ordered k h o =
      let w = wires_of m r in
      let d = division r in
      let s = start_of m r in
      let may = course.may kind Safe rests m laws r f in
      (on.opened_ready V (windows.SafeIn kind Safe rests w d s may) d.look (2 ^ 62) (windows.the_laws kind Safe rests w d s may) (windows.idle kind Safe rests w d s may) (windows.C kind Safe rests w d s may) (windows.the_cuts kind Safe rests w d s may) (windows.start kind Safe rests w d s may) (windows.ready kind Safe rests w d s may) k h o).1.ordered

  part_sorted : (p k : ℕ) (l : PartState kind m r) → IsPartAt kind m r p k l → IsSorted l.pending
  part_sorted p k l at =
      let o = ordered_filter (before V) (by_order (λ (e : Event L). e.key) key_before keys_in_order) (is_at (dst_of V) p) at.moment.whole.pending (ordered k at.moment at.opened) in
      subst (λ (y : PartState kind m r). IsSorted y.pending) (sym at.is) (sorted_back (filter (is_at (dst_of V) p) at.moment.whole.pending) o)

  -- a part may run to the end of the window that begins
  pub can_run_to : (p k t z : ℕ) (l : PartState kind m r) (at : IsPartAt kind m r p k l) → t ≡ window_end kind m r at.moment → CanRunTo kind (wires_of m r) r.partition.list p t (record { part = l; last = z })
  can_run_to p k t z l at e =
      let may = course.may kind Safe rests m laws r f in
      let c = (course.alone kind Safe rests m laws r f).comes p k l at in
      record {
        wires = rests.wires (wires_of m r) may.safe.now (record { components = (start_of m r).components; pending = (start_of m r).pending; last = may.safe.last }) may.safe.safe;
        sorted = part_sorted p k l at;
        steps = c.0;
        until = subst (λ b. IsPartUntil V p b c.0 l) (sym e) c.1;
        each = c.2;
      }

  pub end_early : (k : ℕ) (h : Moment (List S) (Event L)) → window_end kind m r h ≤ 2 ^ 62
  end_early k h =
      let w = wires_of m r in
      let d = division r in
      let s = start_of m r in
      let may = course.may kind Safe rests m laws r f in
      on.end_limit V (windows.SafeIn kind Safe rests w d s may) d.look (2 ^ 62) (windows.the_laws kind Safe rests w d s may) (windows.idle kind Safe rests w d s may) (windows.C kind Safe rests w d s may) (windows.the_cuts kind Safe rests w d s may) (windows.start kind Safe rests w d s may) (windows.ready kind Safe rests w d s may) h

  -- where the whole has an event before the bound in each window up to k, the run has more than k windows
  abbrev Went : ℕ → Type 0
  Went k = (j : ℕ) (h : Moment (List S) (Event L)) → j < k → IsAt kind m r j h → HasBelow V (known kind m r h) h.whole.pending

  pub went_on : (k : ℕ) → Went k → IsLeft kind m r k → Went (suc k)
  went_on k went left j h lt o =
      elim (cases_eq j k) [
        | inl e ↦
            let same : left.moment ≡ h = course.one_moment kind Safe rests m laws r f k left.moment h left.opened (subst (λ n. IsAt kind m r n h) e o) in
            subst (λ (g : Moment (List S) (Event L)). HasBelow V (known kind m r g) g.whole.pending) same left.some
        | inr ne ↦ went j h (omega (arith, lt, ne)) o
      ]

  pub real : (k : ℕ) → Went (suc k) → (count : ℕ) → HasWindows kind m r count → k < count
  real k went count has = go (order k count) where
    order : (x y : ℕ) → (x < y) ⊎ (y ≤ x)
    order x y = grind arith

    go : (k < count) ⊎ (count ≤ k) → k < count
    go (inl h) = h
    go (inr h) = absurd (on.not_both V (known kind m r has.last) has.last.whole.pending has.over (went count has.last (omega (arith, h)) has.opened))

  pub few : (k : ℕ) → Went (suc k) → k < 2 ^ 62
  few k went = let c = course.counted kind Safe rests m laws r f in let a = real k went c.count c.is in let b = c.few in omega (arith, a, b)

  -- ---- what it comes to

  module _ (p : ℕ) (within : p < r.partition.parts) (k : ℕ) (old ends : Standing S L) (t : ℕ) (at : IsPartAt kind m r p k old.part) (e : t ≡ window_end kind m r at.moment) (runs : RunsTo kind (wires_of m r) r.partition.list p t old ends) where
    until_end : IsPartUntil V p (window_end kind m r at.moment) runs.steps old.part
    until_end = subst (λ b. IsPartUntil V p b runs.steps old.part) e runs.until

    pub done : IsPartDone kind m r p k ends.part
    done = subst (λ (s : Standing S L). IsPartDone kind m r p k s.part) (sym runs.is) ((course.alone kind Safe rests m laws r f).done p k runs.steps old.part at until_end)

    pub last : IsLast kind m r p k old.last → IsLast kind m r p (suc k) ends.last
    last h =
        let w = wires_of m r in
        let d = division r in
        let s = start_of m r in
        let may = course.may kind Safe rests m laws r f in
        let x = on.opened_last V (windows.SafeIn kind Safe rests w d s may) d.look (2 ^ 62) (windows.the_laws kind Safe rests w d s may) (windows.idle kind Safe rests w d s may) (windows.C kind Safe rests w d s may) (windows.the_cuts kind Safe rests w d s may) (windows.start kind Safe rests w d s may) (windows.ready kind Safe rests w d s may) k at.moment at.opened in
        let u = subst (λ (y : PartState kind m r). IsPartUntil V p (window_end kind m r at.moment) runs.steps y) at.is until_end in (
          at.moment,
          at.opened,
          x.0,
          x.1,
          old.last,
          h,
          ap (λ (s : Standing S L). s.last) runs.is ∙ ap (λ (y : PartState kind m r). part_last V p runs.steps y old.last) at.is ∙ x.2 p runs.steps u old.last,
        )

    pub told : Went (suc k) → (q : ℕ) (n : Option ℕ) (b : Bool) (es : List (Event L)) (ls : List Line) → n ≡ low V ends.part → b ≡ part_idle kind ends.part.state → es ≡ filter (is_at (dst_of V) q) ends.part.out → ls ≡ cond (q == 0) ends.part.says [] → Tells kind m r p q k n b es ls
    told went q n b es ls en eb ee el =
        let one : (l : PartState kind m r) → IsPartDone kind m r p k l → ends.part ≡ l = λ l d. course.one_end kind Safe rests m laws r f p k ends.part l done d in
        record {
          real = real k went;
          next = λ l d. en ∙ ap (low V) (one l d);
          done = λ l d. eb ∙ ap (λ (y : PartState kind m r). part_idle kind y.state) (one l d);
          events = λ l d. ee ∙ ap (λ (y : PartState kind m r). filter (is_at (dst_of V) q) y.out) (one l d);
          lines = λ l d. el ∙ ap (λ (y : PartState kind m r). cond (q == 0) y.says []) (one l d);
        }

    -- ---- what the worker knows then

    E : ℕ → PartState kind m r
    E j = (course.end_of kind Safe rests m laws r f j k).0

    own : ends.part ≡ (course.end_of kind Safe rests m laws r f p k).0
    own = course.one_end kind Safe rests m laws r f p k ends.part (course.end_of kind Safe rests m laws r f p k).0 done (course.end_of kind Safe rests m laws r f p k).1

    flags : List Bool
    flags = only r.partition.parts p

    told_by : (j : ℕ) → j < r.partition.parts → heard (only r.partition.parts p) j ≡ has (p ∷ []) j
    told_by j lt = elim (cases_eq j p) [
      | inl q ↦ ap (heard (only r.partition.parts p)) q ∙ only_own r.partition.parts p within ∙ ap (λ b. b || false) (sym (eq-eqb p j (sym q)))
      | inr ne ↦ only_others r.partition.parts p j lt ne ∙ ap (λ b. b || false) (sym (ne_eqb p j (λ q. ne (sym q))))
    ]

    pub knows : (gathered : Bool) (n : Known) (least : Option ℕ) (b : Bool) (new : PartState kind m r) (lists : List (List Line)) → KnowsAt kind Safe rests m laws r f k n → least ≡ low V ends.part → b ≡ part_idle kind ends.part.state → new ≡ take_in V [] ends.part → (p ≡ 0 → HasFirst r.partition.parts ends.part.says lists) →
        KnowsEnd kind m r p k (only r.partition.parts p) gathered lists new (behind n least b)
    knows gathered n least b new lists x en eb es el = record {
      ends = λ j. (course.end_of kind Safe rests m laws r f j k).0;
      are = λ j lt. (course.end_of kind Safe rests m laws r f j k).1;
      givers = [];
      once = tt;
      real = λ j h. absurd cc;
      told = told_by;
      state = es ∙ ap (take_in V []) own;
      begun = λ h o. x.next ∙ ap (λ (g : Moment (List S) (Event L)). first_time V g.whole.pending) (course.one_moment kind Safe rests m laws r f k x.moment h x.opened o);
      since = λ h o. x.since ∙ ap (λ (g : Moment (List S) (Event L)). g.since) (course.one_moment kind Safe rests m laws r f k x.moment h x.opened o);
      next = en ∙ ap (low V) own ∙ ap (λ c. cond c (low V (course.end_of kind Safe rests m laws r f p k).0) None) (sym (only_own r.partition.parts p within))
          ∙ sym (soonest_one r.partition.parts p (λ j. cond (heard (only r.partition.parts p) j) (low V (course.end_of kind Safe rests m laws r f j k).0) None) within (λ j lt ne. ap (λ c. cond c (low V (course.end_of kind Safe rests m laws r f j k).0) None) (only_others r.partition.parts p j lt ne)));
      idle = eb ∙ ap (λ (y : PartState kind m r). part_idle kind y.state) own ∙ ap (λ c. cond c (part_idle kind (course.end_of kind Safe rests m laws r f p k).0.state) true) (sym (only_own r.partition.parts p within))
          ∙ sym (all_one r.partition.parts p (λ j. cond (heard (only r.partition.parts p) j) (part_idle kind (course.end_of kind Safe rests m laws r f j k).0.state) true) within (λ j lt ne. ap (λ c. cond c (part_idle kind (course.end_of kind Safe rests m laws r f j k).0.state) true) (only_others r.partition.parts p j lt ne)));
      counted = λ z g. (el z).count;
      lines = λ z g j lt. elim (cases_eq j p) [
        | inl q ↦
            ap (λ i. slice_index_or lists i []) (q ∙ z) ∙ (el z).own ∙ ap (λ (y : PartState kind m r). y.says) own
            ∙ ap (λ c. cond c (course.end_of kind Safe rests m laws r f p k).0.says []) (sym (only_own r.partition.parts p within))
            ∙ ap (λ i. cond (heard (only r.partition.parts p) i) (course.end_of kind Safe rests m laws r f i k).0.says []) (sym q)
        | inr ne ↦ (el z).others j (λ y. ne (y ∙ sym z)) ∙ ap (λ c. cond c (course.end_of kind Safe rests m laws r f j k).0.says []) (sym (only_others r.partition.parts p j lt ne))
      ];
    }

  flagged : (p : ℕ) → length (only r.partition.parts p) ≡ r.partition.parts
  flagged p = length-set (replicate r.partition.parts false) p true ∙ length_flags r.partition.parts false

  -- ---- batches and counts behind a window

  pub has_batches : (p k : ℕ) (names : List (Option Name)) → p < r.partition.parts → AreNamed r p k r.partition.parts names → HasBatches kind m r p (k + 1) (only r.partition.parts p) names
  has_batches p k names within a = record {
    there = λ j lt h. elim (cases_eq j p) [
      | inl q ↦ let t : true ≡ false = sym (only_own r.partition.parts p within) ∙ ap (heard (only r.partition.parts p)) (sym q) ∙ h in absurd cc
      | inr ne ↦ a.each j lt ne ∙ ap (λ n. Some (Some (named r p j n))) (let e : k ≡ k + 1 - 1 = omega arith in e)
    ];
    ran = λ j lt h. omega arith;
  }

  pub has_sent : (p k : ℕ) (hs : List Bool) (sent : List ℕ) → p < r.partition.parts → all_set hs ≡ true → HasSent kind m r p k hs sent → HasSent kind m r p (k + 1) (only r.partition.parts p) sent
  has_sent p k hs sent within whole x = record {
    count = x.count;
    each = λ j lt ne.
        let a = subst (λ b. AreSent kind m r p j (cond b k (k - 1)) (slice_index sent j)) (heard_all hs whole j) (x.each j lt ne) in
        subst (λ b. AreSent kind m r p j (cond b (k + 1) (k + 1 - 1)) (slice_index sent j)) (sym (only_others r.partition.parts p j lt ne))
        (subst (λ n. AreSent kind m r p j n (slice_index sent j)) (let e : k ≡ k + 1 - 1 = omega arith in e) a);
    few = λ j lt.
        let a = subst (λ b. slice_index sent j ≤ cond b k (k - 1) * 2 ^ 64) (heard_all hs whole j) (x.few j lt) in
        elim (cases_Bool (heard (only r.partition.parts p) j)) [
          | inl y ↦ subst (λ b. slice_index sent j ≤ cond b (k + 1) (k + 1 - 1) * 2 ^ 64) (sym y) (omega (arith, a))
          | inr y ↦ subst (λ b. slice_index sent j ≤ cond b (k + 1) (k + 1 - 1) * 2 ^ 64) (sym y) (omega (arith, a))
        ];
  }

  -- ---- of a worker whose last window has nothing missing

  module _ (p k : ℕ) (hs ts : List Bool) (gathered : Bool) (w : Wiring) (ahead : ℕ) (body : Standing S L) (n : Known) (ls : List (List Line)) (i : IsSound kind m r p k hs ts gathered w ahead body n ls) (whole : all_set ts ≡ true) (x : Window) (next : IsNext kind m r k x) where
    pub now : StandsWhole kind Safe rests m laws r f p k body.part n
    now = stands kind Safe rests m laws r f p i.part k ts gathered ls body.part n i.knows whole

    pub upto : x.upto ≡ window_end kind m r now.part.moment
    upto = next.upto ∙ ap (window_end kind m r) (course.one_moment kind Safe rests m laws r f k next.left.moment now.part.moment next.left.opened now.part.opened)

    pub can_run : CanRunTo kind w r.partition.list p x.upto body
    can_run = subst (λ y. CanRunTo kind y r.partition.list p x.upto body) (sym i.wires) (can_run_to p k x.upto body.last body.part now.part upto)

    pub early : x.upto ≤ 2 ^ 62
    early = let a = end_early k now.part.moment in omega (arith, a, upto)

    pub went_then : Went (suc k)
    went_then = went_on k i.went next.left

    module _ (saving : Saving S L) (new : Standing S L) (least : Option ℕ) (b : Bool) (lines : List Line) (bs : List (List (Event L))) (o : Option Slip) (left : Leaves kind saving w r.partition.list p r.cuts r.partition.parts x.upto body new least b lines bs o) where
      runs : RunsTo kind (wires_of m r) r.partition.list p x.upto body left.ends
      runs = subst (λ y. RunsTo kind y r.partition.list p x.upto body left.ends) i.wires left.runs

      pub ends_done : IsPartDone kind m r p k left.ends.part
      ends_done = done p i.part k body left.ends x.upto now.part upto runs

      pub ends_last : IsLast kind m r p (suc k) left.ends.last
      ends_last = last p i.part k body left.ends x.upto now.part upto runs i.last

      sent_to : (q : ℕ) → q < r.partition.parts → slice_index_or bs q [] ≡ filter (is_at (dst_of V) q) left.ends.part.out
      sent_to q lt = let a = subst (λ y. AreBatches y r.partition.list r.partition.parts left.ends.part.out bs) i.wires left.batches in a.each q lt

      pub tells_each : (kept : List Line) → ((p ≡ 0 → ⊥) → kept ≡ lines) → (q : ℕ) → q < r.partition.parts → (q ≡ p → ⊥) → Tells kind m r p q k least b (slice_index_or bs q []) (cond (q == 0) kept [])
      tells_each kept same q lt ne =
          told p i.part k body left.ends x.upto now.part upto runs went_then q least b (slice_index_or bs q []) (cond (q == 0) kept []) left.next left.idle (sent_to q lt)
          (if_same q kept left.ends.part.says (λ z. same (λ y. ne (z ∙ sym y)) ∙ left.lines))

      pub sound_then : (lists : List (List Line)) → (p ≡ 0 → HasFirst r.partition.parts lines lists) → IsSound kind m r p (k + 1) (only r.partition.parts p) (only r.partition.parts p) false w ahead new (behind n least b) lists
      sound_then lists first = subst (λ j. IsSound kind m r p j (only r.partition.parts p) (only r.partition.parts p) false w ahead new (behind n least b) lists) (sym (add-one k)) (record {
        fits = i.fits;
        part = i.part;
        wires = i.wires;
        look = i.look;
        handed = flagged p;
        taken = flagged p;
        knows = knows p i.part k body left.ends x.upto now.part upto runs false n least b new.part lists now.knows left.next left.idle (ap (λ (s : Standing S L). s.part) left.rest) (λ z. subst (λ y. HasFirst r.partition.parts y lists) left.lines (first z));
        went = went_then;
        last = subst (λ z. IsLast kind m r p (suc k) z) (sym (ap (λ (s : Standing S L). s.last) left.rest)) (last p i.part k body left.ends x.upto now.part upto runs i.last);
      })

pub leaves_same : {S L : Type 0} (kind : Kind S L) (saving : Saving S L) (w w' : Wiring) (os os' : List ℕ) (c c' : Cuts) (p n n' t : ℕ) (old new : Standing S L) (least : Option ℕ) (b : Bool) (ls : List Line) (bs : List (List (Event L))) (o : Option Slip) → w ≡ w' → os ≡ os' → c ≡ c' → n ≡ n' → Leaves kind saving w os p c n t old new least b ls bs o → Leaves kind saving w' os' p c' n' t old new least b ls bs o
leaves_same kind saving w w' os os' c c' p n n' t old new least b ls bs o ew eo ec en x =
    subst (λ y. Leaves kind saving y os' p c' n' t old new least b ls bs o) ew (subst (λ y. Leaves kind saving w y p c' n' t old new least b ls bs o) eo (subst (λ y. Leaves kind saving w os p y n' t old new least b ls bs o) ec (subst (λ y. Leaves kind saving w os p c y t old new least b ls bs o) en x)))

pub not_over : {S L : Type 0} (kind : Kind S L) (Safe : Wiring → ℕ → State S L → Type 0) (rests : element.World kind Safe) (m : Meaning S L) (laws : MeaningLaws Safe m) (r : RunSpec) (f : IsFitting kind m r) (k : ℕ) → IsLeft kind m r k → HasWindows kind m r k → ⊥
not_over {S} {L} kind Safe rests m laws r f k left over =
    let same = course.one_moment kind Safe rests m laws r f k left.moment over.last left.opened over.opened in
    on.not_both (view kind m r) (known kind m r over.last) over.last.whole.pending over.over (subst (λ (g : Moment (List S) (Event L)). HasBelow (view kind m r) (known kind m r g) g.whole.pending) same left.some)
