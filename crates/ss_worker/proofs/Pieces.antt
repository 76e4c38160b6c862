-- The pieces that parts hand over, and the checkpoint times between a run's windows.
use Rattle.std.proofs.Common.{◌≡◌, ℕ, zero, suc, ◌+◌, ◌-◌, ◌<◌, ◌≤◌, ◌^◌, inl, inr, List, [], ◌∷◌, ◌++◌, length, Bool, true, false, cond, eqb, Option, Some, None, refl, sym, ap, ◌∙◌, subst, arith, add-one}
use Rattle.std.specs.Prelude.{slice_get, slice_index, slice_set, is_some, ◌==◌}
use Rattle.std.specs.List.{All, AllByRecursion as Each}
use Rattle.std.proofs.lemmas.Bool.{cases_Bool, cases_eq, eq-eqb, ne_eqb, eqb-true}
use Rattle.std.proofs.lemmas.List.Elements.{All-nil, All-cons, All-weaker}
use Rattle.ss_model.specs.declared.Key.{Key}
use Rattle.ss_model.specs.declared.Event.{Event}
use Rattle.ss_model.specs.declared.Line.{Line}
use Rattle.ss_model.specs.Order.{begins_before}
use Rattle.ss_model.specs.Wiring.{Wiring}
use Rattle.ss_model.specs.Step.{State}
use Rattle.ss_element.specs.Kind.{Kind}
use Rattle.ss_element.specs.Saving.{Saving}
use Rattle.ss_element.specs.World as element
use Rattle.ss_window.specs.Least.{IsFirst}
use Rattle.ss_window.specs.Cuts.{IsTime}
use Rattle.ss_theory.specs.World.{World, Global, HasBelow, NoneBelow, IsUntil, step, after, last_for, projection}
use Rattle.ss_theory.specs.Rounds.{Moment, end_at, first_time, low, sooner, soonest}
use Rattle.ss_theory.proofs.Rounds as on
use Rattle.ss_parts.specs.Parts.{components_of, glob}
use Rattle.ss_parts.specs.Division.{IsSafe, all_idle, cut as division_cut}
use Rattle.ss_parts.proofs.Bridge.{begins_not}
use Rattle.ss_parts.proofs.Windows as windows
use Rattle.ss_piece.specs.Pieces.{Slip, piece_slip}
use Rattle.ss_run.specs.declared.RunSpec.{RunSpec}
use Rattle.ss_run.specs.declared.Origin.{Origin}
use Rattle.ss_run.specs.declared.Origin.TheVariants as origin
use Rattle.ss_run.specs.Meaning.{Meaning, MeaningLaws, IsLater}
use Rattle.ss_run.specs.Run.{division, begins, wires_of, start_of, view, PartState, IsFitting, IsAt, window_end, known, IsPartDone}
use Rattle.ss_worker.specs.declared.known.Known.{Known}
use Rattle.ss_worker.specs.Knowing.{bound_of}
use Rattle.ss_worker.specs.Place.{all_set, only}
use Rattle.ss_worker.specs.declared.stage.Window.{Window}
use Rattle.ss_worker.specs.Standing.{Standing, RunsTo}
use Rattle.ss_worker.specs.Outgoing.{Leaves}
use Rattle.ss_worker.specs.Told.{IsLast, IsNext}
use Rattle.ss_worker.specs.Sound.{Knows, IsSound}
use Rattle.ss_worker.specs.Saves.{IsUpTo, IsBy, IsDue, AreFirst, IsKnownSave, IsHanded, IsSaved, MayOpen, IsBehind, IsSaveTime, IsEnded, IsPieceOf, IsFirstPieceOf, IsPieceIfDue, Hands, AreAllPieces, ArePieces, HasSaves}
use Rattle.ss_worker.proofs.Flags.{heard_all, heard_other, only_others}
use Rattle.ss_worker.proofs.Knows.{KnowsAt}
use Rattle.ss_worker.proofs.Goes.{end_early, now, upto, done, ends_done, ends_last}
use Rattle.ss_worker.proofs.Course as course

-- what is so of all components is so of a part's
module _ {S : Type 0} (P : S → Type 0) (part_of : ℕ → ℕ) (p : ℕ) where
  of_components : (k : ℕ) (xs : List S) → ((c : ℕ) (x : S) → slice_get xs c ≡ Some x → P x) → All (λ (x : ℕ × S). P x.1) (components_of part_of p k xs)
  of_components k [] h = All-nil (λ (x : ℕ × S). P x.1)
  of_components k (x ∷ xs) h =
      let rest = of_components (k + 1) xs (λ c y g. h (suc c) y g) in
      elim (cases_Bool (eqb (part_of k) p)) [
        | inl y ↦ subst (λ b. All (λ (x : ℕ × S). P x.1) (cond b ((k, x) ∷ components_of part_of p (k + 1) xs) (components_of part_of p (k + 1) xs))) (sym y) (All-cons (λ (x : ℕ × S). P x.1) (k, x) (components_of part_of p (k + 1) xs) (h 0 x refl) rest)
        | inr y ↦ subst (λ b. All (λ (x : ℕ × S). P x.1) (cond b ((k, x) ∷ components_of part_of p (k + 1) xs) (components_of part_of p (k + 1) xs))) (sym y) rest
      ]

-- what isn't after the least isn't after any
by_sooner : (a b : Option ℕ) (t : ℕ) → IsBy (sooner a b) t → IsUpTo a t × IsUpTo b t
by_sooner None None t h = absurd h
by_sooner None (Some y) t h = (tt, h)
by_sooner (Some x) None t h = (h, tt)
by_sooner (Some x) (Some y) t h = (omega (arith, h), omega (arith, h))

upto_sooner : (a b : Option ℕ) (t : ℕ) → IsUpTo (sooner a b) t → IsUpTo a t × IsUpTo b t
upto_sooner None b t h = (tt, h)
upto_sooner (Some x) None t h = (h, tt)
upto_sooner (Some x) (Some y) t h = (omega (arith, h), omega (arith, h))

upto_by : (a : Option ℕ) (t : ℕ) → IsBy a t → IsUpTo a t
upto_by None t h = tt
upto_by (Some x) t h = h

upto_soonest : (n : ℕ) (f : ℕ → Option ℕ) (t : ℕ) → IsUpTo (soonest n f) t → (j : ℕ) → j < n → IsUpTo (f j) t
upto_soonest zero f t h j lt = absurd (omega (arith, lt))
upto_soonest (suc n) f t h j lt =
    let both = upto_sooner (soonest n f) (f n) t h in
    elim (cases_eq j n) [
      | inl e ↦ subst (λ i. IsUpTo (f i) t) (sym e) both.1
      | inr ne ↦ upto_soonest n f t both.0 j (omega (arith, lt, ne))
    ]

none_if : {A : Type 0} (q : ℕ) (a : Option A) → (q ≡ 0 → a ≡ None) → cond (q == 0) a None ≡ None
none_if {A} q a h = go (eqb q 0) refl where
  go : (t : Bool) → eqb q 0 ≡ t → cond t a None ≡ None
  go true e = h (eqb-true q 0 e)
  go false e = refl

later_one : (o : Origin) (t : ℕ) → IsSaved o → IsLater o t → 1 ≤ t
later_one origin.Start t s h = absurd s
later_one (origin.Saved bytes) t s h = h

-- a worker that has run no window stands at the run's beginning
module _ {S L : Type 0} (kind : Kind S L) (m : Meaning S L) (r : RunSpec) (p : ℕ) where
  pub stands_first : (k : ℕ) (fs : List Bool) (gathered : Bool) (ls : List (List Line)) (l : PartState kind m r) (n : Known) → k ≡ 0 → Knows kind m r p k fs gathered ls l n → l ≡ projection (view kind m r) (glob (start_of m r)) p
  stands_first zero fs gathered ls l n e x = x.state
  stands_first (suc k) fs gathered ls l n e x = absurd cc

  pub last_first : (k z : ℕ) → k ≡ 0 → IsLast kind m r p k z → z ≡ (start_of m r).last
  last_first zero z e x = x
  last_first (suc k) z e x = absurd cc

module _ {S L : Type 0} (kind : Kind S L) (Safe : Wiring → ℕ → State S L → Type 0) (rests : element.World kind Safe) (m : Meaning S L) (laws : MeaningLaws Safe m) (r : RunSpec) (f : IsFitting kind m r) where
  abbrev V : World (List S) (List (ℕ × S)) Key (Event L) Line
  V = view kind m r

  -- ---- start events

  safe_begun : (xs : List S) (es : List (Event L)) → IsSafe Safe (wires_of m r) xs es → begins_before 1 es ≡ false → (p : ℕ) → All (λ (x : ℕ × S). kind.begun x.1 ≡ true) (components_of (slice_index r.partition.list) p 0 xs)
  safe_begun xs es safe none p = of_components (λ x. kind.begun x ≡ true) (slice_index r.partition.list) p 0 xs (λ c x g. rests.begun (wires_of m r) safe.now (record { components = xs; pending = es; last = safe.last }) c x safe.safe none g)

  none_to : (t : ℕ) (xs : List (Event L)) → 1 ≤ t → NoneBelow V t xs → NoneBelow V 1 xs
  none_to t [] h n = tt
  none_to t (e ∷ xs) h n = omega (arith, h, n)

  none_then : (t n : ℕ) (s : Global (List S) (Event L)) → IsUntil V t n s → NoneBelow V t (after V n s).pending
  none_then t zero s u = u
  none_then t (suc n) s u = none_then t n (step V s) u.1

  -- a window that has an event ends after time 0
  late_end : (o : Option ℕ) (xs : List (Event L)) → HasBelow V ((division_cut kind (wires_of m r) (division r) (start_of m r)).known o) xs → 1 ≤ end_at V (all_idle kind) (division_cut kind (wires_of m r) (division r) (start_of m r)) o xs
  late_end o [] h = absurd h
  late_end o (e ∷ xs) h =
      let cuts = windows.the_cuts kind Safe rests (wires_of m r) (division r) (start_of m r) (course.may kind Safe rests m laws r f) in
      let a = cuts.later e.key.time ((division_cut kind (wires_of m r) (division r) (start_of m r)).known o) h in
      omega (arith, a)

  -- a part that has done a window of the run has handled all its start events
  pub begun_then : (p k : ℕ) (h : Moment (List S) (Event L)) (l : PartState kind m r) → IsAt kind m r k h → HasBelow V (known kind m r h) h.whole.pending → IsPartDone kind m r p k l → All (λ (x : ℕ × S). kind.begun x.1 ≡ true) l.state
  begun_then p k h l o some d =
      let w = wires_of m r in
      let d' = division r in
      let s = start_of m r in
      let may = course.may kind Safe rests m laws r f in
      let g = (course.counted kind Safe rests m laws r f).moments (suc k) in
      let at = g.1 in
      let same : h ≡ at.0 = course.one_moment kind Safe rests m laws r f k h at.0 o at.1 in
      let late : 1 ≤ window_end kind m r at.0 = subst (λ (x : Moment (List S) (Event L)). 1 ≤ window_end kind m r x) same (late_end h.since h.whole.pending some) in
      let none : NoneBelow V 1 g.0.whole.pending = subst (λ (x : Moment (List S) (Event L)). NoneBelow V 1 x.whole.pending) (sym at.2.is) (none_to (window_end kind m r at.0) (after V at.2.steps at.0.whole).pending late (none_then (window_end kind m r at.0) at.2.steps at.0.whole at.2.until)) in
      let ready = on.opened_ready V (windows.SafeIn kind Safe rests w d' s may) d'.look (2 ^ 62) (windows.the_laws kind Safe rests w d' s may) (windows.idle kind Safe rests w d' s may) (windows.C kind Safe rests w d' s may) (windows.the_cuts kind Safe rests w d' s may) (windows.start kind Safe rests w d' s may) (windows.ready kind Safe rests w d' s may) (suc k) g.0 at in
      subst (λ xs. All (λ (x : ℕ × S). kind.begun x.1 ≡ true) xs) (sym (course.next_elements kind Safe rests m laws r f p k l g.0 d at))
      (safe_begun g.0.whole.state g.0.whole.pending ready.1.safe (begins_not kind.handled w d'.part_of 1 g.0.whole.pending none) p)

  none_first : (t : ℕ) (xs : List (Event L)) → 1 ≤ t → Each (λ e. t ≤ e.key.time) xs → NoneBelow V 1 xs
  none_first t [] h e = tt
  none_first t (x ∷ xs) h e = let a = e.0 in omega (arith, h, a)

  none_by : (t : ℕ) (xs : List (Event L)) → 1 ≤ t → IsBy (first_time V xs) t → NoneBelow V 1 xs
  none_by t [] h e = absurd e
  none_by t (x ∷ xs) h e = omega (arith, h, e)

  opens_late : MayOpen kind m r → NoneBelow V 1 (start_of m r).pending
  opens_late (inl saved) = let opening = laws r.graph r.origin f.accepted in none_first (begins m r).time (start_of m r).pending (later_one r.origin (begins m r).time saved opening.later) opening.begun
  opens_late (inr (t, y)) =
      let after = y.save.1 in
      none_by t (start_of m r).pending (omega (arith, after)) (subst (λ (g : Moment (List S) (Event L)). IsBy (first_time V g.whole.pending) t) y.opened y.by)

  -- so it is at a beginning of which pieces may be made
  pub begun_first : (p : ℕ) (xs : List (ℕ × S)) → MayOpen kind m r → xs ≡ V.part (start_of m r).components p → All (λ (x : ℕ × S). kind.begun x.1 ≡ true) xs
  begun_first p xs may e =
      subst (λ ys. All (λ (x : ℕ × S). kind.begun x.1 ≡ true) ys) (sym e)
      (safe_begun (start_of m r).components (start_of m r).pending (course.may kind Safe rests m laws r f).safe (begins_not kind.handled (wires_of m r) (division r).part_of 1 (start_of m r).pending (opens_late may)) p)

  -- ---- one piece

  pub one_last : (p k a b : ℕ) → IsLast kind m r p k a → IsLast kind m r p k b → a ≡ b
  one_last p zero a b x y = x ∙ sym y
  one_last p (suc k) a b x y =
      let e : x.0 ≡ y.0 = course.one_moment kind Safe rests m laws r f k x.0 y.0 x.1 y.1 in
      let u : IsUntil V (window_end kind m r y.0) x.2 y.0.whole = subst (λ (h : Moment (List S) (Event L)). IsUntil V (window_end kind m r h) x.2 h.whole) e x.3 in
      let n : x.2 ≡ y.2 = on.one_until V (window_end kind m r y.0) x.2 y.2 y.0.whole u y.3 in
      let z : x.4 ≡ y.4 = one_last p k x.4 y.4 x.5 y.5 in
      x.6 ∙ ap (λ (h : Moment (List S) (Event L)). last_for V p x.2 h.whole x.4) e ∙ ap (λ n. last_for V p n y.0.whole x.4) n ∙ ap (λ z. last_for V p y.2 y.0.whole z) z ∙ sym y.6

  module _ (saving : Saving S L) where
    piece_is : (p k : ℕ) (ends : Standing S L) (o : Option Slip) → IsPartDone kind m r p k ends.part → IsLast kind m r p (suc k) ends.last → o ≡ Some (piece_slip saving ends.part.state (ends.part.pending ++ ends.part.out) ends.last) → IsPieceOf kind saving m r p k o
    piece_is p k ends o done last e l z d x =
        e ∙ ap (λ (y : PartState kind m r). Some (piece_slip saving y.state (y.pending ++ y.out) ends.last)) (course.one_end kind Safe rests m laws r f p k ends.part l done d)
        ∙ ap (λ y. Some (piece_slip saving l.state (l.pending ++ l.out) y)) (one_last p (suc k) ends.last z last x)

    -- ---- what a part hands over that has done its window k, which ended at a time

    module _ (p k t : ℕ) (least : Option ℕ) (ends : Standing S L) (o : Option Slip) (at : Moment (List S) (Event L)) (opened : IsAt kind m r k at) (upto : t ≡ window_end kind m r at) (next : least ≡ low V ends.part)
        (done : IsPartDone kind m r p k ends.part) (last : IsLast kind m r p (suc k) ends.last) (handed : IsHanded saving r.cuts t least ends o) where
      end_is : (h : Moment (List S) (Event L)) → IsAt kind m r k h → window_end kind m r h ≡ t
      end_is h oh = ap (window_end kind m r) (course.one_moment kind Safe rests m laws r f k h at oh opened) ∙ sym upto

      low_is : (l : PartState kind m r) → IsPartDone kind m r p k l → low V l ≡ least
      low_is l d = ap (low V) (course.one_end kind Safe rests m laws r f p k l ends.part d done) ∙ sym next

      pub given_if_due : IsPieceIfDue kind saving m r p k o
      given_if_due h l u oh d x =
          let y = subst (λ a. IsDue r.cuts t a u) (low_is l d) (subst (λ a. IsDue r.cuts a (low V l) u) (end_is h oh) x) in
          piece_is p k ends o done last (handed.due u y)

      given_no_more : (h : Moment (List S) (Event L)) (l : PartState kind m r) → IsAt kind m r k h → IsPartDone kind m r p k l → ((u : ℕ) → IsDue r.cuts (window_end kind m r h) (low V l) u → ⊥) → o ≡ None
      given_no_more h l oh d none = handed.not_due (λ u x. none u (subst (λ a. IsDue r.cuts a (low V l) u) (sym (end_is h oh)) (subst (λ a. IsDue r.cuts t a u) (sym (low_is l d)) x)))

      pub hands_each : (kept : Option Slip) → ((p ≡ 0 → ⊥) → kept ≡ o) → (q : ℕ) → (q ≡ p → ⊥) → Hands kind saving m r p q k (cond (q == 0) kept None)
      hands_each kept same q ne = record {
        to_first = λ z. subst (IsPieceIfDue kind saving m r p k) (sym (same (λ y. ne (z ∙ sym y))) ∙ ap (λ b. cond b kept None) (sym (eq-eqb q 0 z))) given_if_due;
        to_others = λ other. ap (λ b. cond b kept None) (ne_eqb q 0 other);
        not_due = λ h l oh d none. none_if q kept (λ z. same (λ y. ne (z ∙ sym y)) ∙ given_no_more h l oh d none);
      }

      -- ---- what its worker then keeps

      pub saves_then : p < r.partition.parts → (own : Option Slip) → own ≡ cond (p == 0) o None → (mid ps : List Slip) → (p ≡ 0 → length mid ≡ r.partition.parts) → length ps ≡ length mid → ((s : Slip) → p < length mid → own ≡ Some s → slice_get ps p ≡ Some s) →
          HasSaves kind saving m r p (k + 1) (only r.partition.parts p) false t ps
      saves_then within own eo mid ps room count there = subst (λ j. HasSaves kind saving m r p j (only r.partition.parts p) false t ps) (sym (add-one k)) (record {
        ended_at = λ h oh. sym (end_is h oh);
        count = λ z g. count ∙ room z;
        pieces = λ z g j lt flag. elim (cases_eq j p) [
          | inl e ↦
              subst (λ i. IsPieceIfDue kind saving m r i (suc k - 1) (slice_get ps i)) (sym e)
              (subst (λ i. IsPieceIfDue kind saving m r p i (slice_get ps p)) (let n : k ≡ suc k - 1 = omega arith in n)
              (λ h l u oh d x y a b c. there _ (omega (arith, within, room z)) (eo ∙ ap (λ b. cond b o None) (eq-eqb p 0 z) ∙ given_if_due h l u oh d x y a b c)))
          | inr ne ↦ let bad : true ≡ false = sym flag ∙ only_others r.partition.parts p j lt ne in absurd cc
        ];
      })

    -- ---- with what another part hands over

    pub saves_in : (p k g : ℕ) (fs : List Bool) (gathered : Bool) (ended : ℕ) (o : Option Slip) (old new : List Slip) → g < r.partition.parts → Hands kind saving m r g p (k - 1) o → length new ≡ length old → ((s : Slip) → g < length old → o ≡ Some s → slice_get new g ≡ Some s) → ((j : ℕ) → (j ≡ g → ⊥) → slice_get new j ≡ slice_get old j) →
        HasSaves kind saving m r p k fs gathered ended old → HasSaves kind saving m r p k (slice_set fs g true) gathered ended new
    saves_in p k g fs gathered ended o old new lt hands count there others x = record {
      ended_at = x.ended_at;
      count = λ z a. count ∙ x.count z a;
      pieces = λ z a j ltj flag. elim (cases_eq j g) [
        | inl e ↦
            subst (λ i. IsPieceIfDue kind saving m r i (k - 1) (slice_get new i)) (sym e)
            (λ h l u oh d y w b c v. there _ (omega (arith, lt, x.count z a)) (hands.to_first z h l u oh d y w b c v))
        | inr ne ↦ subst (IsPieceIfDue kind saving m r j (k - 1)) (sym (others j ne)) (x.pieces z a j ltj (sym (heard_other fs g j ne) ∙ flag))
      ];
    }

    pub saves_gathered : (p k : ℕ) (fs : List Bool) (gathered : Bool) (ended : ℕ) (old new : List Slip) → HasSaves kind saving m r p k fs gathered ended old → HasSaves kind saving m r p k fs true ended new
    saves_gathered p k fs gathered ended old new x = record { ended_at = x.ended_at; count = λ z a. absurd cc; pieces = λ z a. absurd cc }

    pub saves_first : (p : ℕ) (fs : List Bool) (ended : ℕ) (ps : List Slip) → ended ≡ r.cuts.origin → HasSaves kind saving m r p 0 fs true ended ps
    saves_first p fs ended ps e = record { ended_at = e; count = λ z a. absurd cc; pieces = λ z a. absurd cc }

    -- ---- all pieces

    -- a checkpoint time before the next window is due for each part
    due_for_each : (k t : ℕ) (h : Moment (List S) (Event L)) → IsAt kind m r k h → IsSaveTime kind m r (suc k) t → (j : ℕ) (l : PartState kind m r) → j < r.partition.parts → IsPartDone kind m r j k l → IsDue r.cuts (window_end kind m r h) (low V l) t
    due_for_each k t h oh x j l lt d =
        let tells = course.tells kind Safe rests m laws r f in
        let ends : ℕ → PartState kind m r = λ i. (course.end_of kind Safe rests m laws r f i k).0 in
        let are : (i : ℕ) → i < r.partition.parts → IsPartDone kind m r i k (ends i) = λ i li. (course.end_of kind Safe rests m laws r f i k).1 in
        let o = x.opened in
        let least : first_time V x.moment.whole.pending ≡ soonest r.partition.parts (λ i. low V (ends i)) = tells.least k ends o.0 x.moment o.1 o.2 are in
        let by : IsUpTo (soonest r.partition.parts (λ i. low V (ends i))) t = subst (λ a. IsUpTo a t) least (upto_by (first_time V x.moment.whole.pending) t x.by) in
        record {
          save = x.save;
          from = x.behind h oh;
          upto = subst (λ (y : PartState kind m r). IsUpTo (low V y) t) (course.one_end kind Safe rests m laws r f j k (ends j) l (are j lt) d) (upto_soonest r.partition.parts (λ i. low V (ends i)) t by j lt);
        }

    all_pieces : (p k t : ℕ) (fs : List Bool) (ended : ℕ) (ps : List Slip) → p ≡ 0 → all_set fs ≡ true → HasSaves kind saving m r p (suc k) fs false ended ps → IsSaveTime kind m r (suc k) t → AreAllPieces kind saving m r k ps
    all_pieces p k t fs ended ps z whole x save = record {
      count = x.count z refl;
      each = λ j lt l y d last.
          let h = save.opened in
          let due = due_for_each k t h.0 h.1 save j l lt d in
          let given = subst (λ i. IsPieceIfDue kind saving m r j i (slice_get ps j)) (let n : suc k - 1 ≡ k = omega arith in n) (x.pieces z refl j lt (heard_all fs whole j)) in
          given h.0 l t h.1 d due l y d last;
    }

    pieces_some : (p k : ℕ) (fs : List Bool) (ended : ℕ) (ps : List Slip) (t : ℕ) → p ≡ 0 → 1 ≤ k → all_set fs ≡ true → HasSaves kind saving m r p k fs false ended ps → IsSaveTime kind m r k t → ArePieces kind saving m r (k - 1) ps
    pieces_some p zero fs ended ps t z some whole x save = absurd (omega (arith, some))
    pieces_some p (suc k) fs ended ps t z some whole x save =
        subst (λ j. ArePieces kind saving m r j ps) (let n : k ≡ suc k - 1 = omega arith in n)
        (record { some = λ u y. all_pieces p k u fs ended ps z whole x y; none = λ never. absurd (never t save) })

    pieces_none : (k : ℕ) (ps : List Slip) → 1 ≤ k → ps ≡ [] → ((t : ℕ) → IsSaveTime kind m r k t → ⊥) → ArePieces kind saving m r (k - 1) ps
    pieces_none zero ps some e none = absurd (omega (arith, some))
    pieces_none (suc k) ps some e none =
        subst (λ j. ArePieces kind saving m r j ps) (let n : k ≡ suc k - 1 = omega arith in n)
        (record { some = λ u y. absurd (none u y); none = λ never. e })

    -- what part 0 kept is given where there is a first checkpoint time
    pub pieces_are : (p k : ℕ) (fs : List Bool) (ended : ℕ) (ps new : List Slip) → p ≡ 0 → 1 ≤ k → all_set fs ≡ true → HasSaves kind saving m r p k fs false ended ps → (o : Option ℕ) → IsFirst (IsSaveTime kind m r k) o → (is_some o ≡ true → new ≡ ps) → (is_some o ≡ false → new ≡ []) → ArePieces kind saving m r (k - 1) new
    pieces_are p k fs ended ps new z some whole x None first is isnt = pieces_none k new some (isnt refl) first
    pieces_are p k fs ended ps new z some whole x (Some t) first is isnt = subst (ArePieces kind saving m r (k - 1)) (sym (is refl)) (pieces_some p k fs ended ps t z some whole x first.member)

    pub first_piece : (p : ℕ) (body : Standing S L) (s : Slip) → body.part ≡ projection V (glob (start_of m r)) p → body.last ≡ (start_of m r).last → s ≡ piece_slip saving body.part.state (body.part.pending ++ body.part.out) body.last → IsFirstPieceOf kind saving m r p (Some s)
    first_piece p body s h e is l at =
        let same : body.part ≡ l = h ∙ sym (at.is ∙ ap (λ (g : Moment (List S) (Event L)). projection V g.whole p) at.opened) in
        ap (λ y. Some y) is
        ∙ ap (λ (y : PartState kind m r). Some (piece_slip saving y.state (y.pending ++ y.out) body.last)) same
        ∙ ap (λ y. Some (piece_slip saving l.state (l.pending ++ l.out) y)) e

  -- ---- times

  pub ended_early : (k ended : ℕ) → IsEnded kind m r k ended → IsTime ended
  ended_early zero ended e = let a = (course.may kind Safe rests m laws r f).cuts.origin in omega (arith, a, e)
  ended_early (suc k) ended e =
      let g = (course.counted kind Safe rests m laws r f).moments k in
      let a = end_early kind Safe rests m laws r f k g.0 in
      let b = e g.0 g.1 in
      omega (arith, a, b)

  module _ (k : ℕ) (n : Known) (ended : ℕ) (x : KnowsAt kind Safe rests m laws r f k n) (e : IsEnded kind m r k ended) where
    bound_is : bound_of r.cuts n ≡ known kind m r x.moment
    bound_is = ap (λ o. (division_cut kind (wires_of m r) (division r) (start_of m r)).known o) x.since

    is_behind : (t : ℕ) → ended ≤ t → IsBehind kind m r k t
    is_behind t le = go k e where
      go : (j : ℕ) → IsEnded kind m r j ended → IsBehind kind m r j t
      go zero q = tt
      go (suc j) q = λ h oh. let a = q h oh in omega (arith, a, le)

    is_after : (t : ℕ) → r.cuts.origin < t → IsBehind kind m r k t → ended ≤ t
    is_after t lt b = go k e b where
      go : (j : ℕ) → IsEnded kind m r j ended → IsBehind kind m r j t → ended ≤ t
      go zero q c = omega (arith, q, lt)
      go (suc j) q c =
          let g = (course.counted kind Safe rests m laws r f).moments j in
          let a = q g.0 g.1 in
          let d = c g.0 g.1 in
          omega (arith, a, d)

    to_time : (t : ℕ) → IsKnownSave r.cuts n ended t → IsSaveTime kind m r k t
    to_time t y = record {
      save = y.save;
      behind = is_behind t y.from;
      moment = x.moment;
      opened = x.opened;
      by = subst (λ o. IsBy o t) x.next y.by;
      below = subst (λ b. t < b) bound_is y.below;
    }

    from_time : (t : ℕ) → IsSaveTime kind m r k t → IsKnownSave r.cuts n ended t
    from_time t y =
        let same : y.moment ≡ x.moment = course.one_moment kind Safe rests m laws r f k y.moment x.moment y.opened x.opened in
        record {
          save = y.save;
          from = is_after t y.save.1 y.behind;
          by = subst (λ o. IsBy o t) (ap (λ (g : Moment (List S) (Event L)). first_time V g.whole.pending) same ∙ sym x.next) y.by;
          below = subst (λ b. t < b) (ap (λ (g : Moment (List S) (Event L)). known kind m r g) same ∙ sym bound_is) y.below;
        }

    pub first_is : (o : Option ℕ) → IsFirst (IsKnownSave r.cuts n ended) o → IsFirst (IsSaveTime kind m r k) o
    first_is None h = λ t y. h t (from_time t y)
    first_is (Some s) h = record { member = to_time s h.member; least = λ t y. h.least t (from_time t y) }

    pub times_are : (ts : List ℕ) → AreFirst (IsKnownSave r.cuts n ended) 1025 ts → AreFirst (IsSaveTime kind m r k) 1025 ts
    times_are ts h = record {
      each = All-weaker (IsKnownSave r.cuts n ended) (IsSaveTime kind m r k) to_time ts h.each;
      ascending = h.ascending;
      few = h.few;
      all = λ t y. h.all t (from_time t y);
    }

  -- ---- a worker whose last window has nothing missing runs its next one

  module _ (p k : ℕ) (hs ts : List Bool) (gathered : Bool) (w : Wiring) (ahead : ℕ) (body : Standing S L) (n : Known) (ls : List (List Line)) (i : IsSound kind m r p k hs ts gathered w ahead body n ls) (whole : all_set ts ≡ true) (x : Window) (next : IsNext kind m r k x) where
    pub begun_ends : (ends : Standing S L) → RunsTo kind w r.partition.list p x.upto body ends → All (λ (y : ℕ × S). kind.begun y.1 ≡ true) ends.part.state
    begun_ends ends runs =
        let stands = now kind Safe rests m laws r f p k hs ts gathered w ahead body n ls i whole x next in
        let end = upto kind Safe rests m laws r f p k hs ts gathered w ahead body n ls i whole x next in
        begun_then p k next.left.moment ends.part next.left.opened next.left.some
        (done kind Safe rests m laws r f p i.part k body ends x.upto stands.part end (subst (λ y. RunsTo kind y r.partition.list p x.upto body ends) i.wires runs))

    module _ (saving : Saving S L) (new : Standing S L) (least : Option ℕ) (b : Bool) (lines : List Line) (bs : List (List (Event L))) (o : Option Slip) (left : Leaves kind saving w r.partition.list p r.cuts r.partition.parts x.upto body new least b lines bs o) where
      pub hands_then : (kept : Option Slip) → ((p ≡ 0 → ⊥) → kept ≡ o) → (q : ℕ) → (q ≡ p → ⊥) → Hands kind saving m r p q k (cond (q == 0) kept None)
      hands_then =
          let stands = now kind Safe rests m laws r f p k hs ts gathered w ahead body n ls i whole x next in
          hands_each saving p k x.upto least left.ends o stands.part.moment stands.part.opened (upto kind Safe rests m laws r f p k hs ts gathered w ahead body n ls i whole x next) left.next
          (ends_done kind Safe rests m laws r f p k hs ts gathered w ahead body n ls i whole x next saving new least b lines bs o left)
          (ends_last kind Safe rests m laws r f p k hs ts gathered w ahead body n ls i whole x next saving new least b lines bs o left) left.piece

      pub window_saves : (own : Option Slip) → own ≡ cond (p == 0) o None → (mid ps : List Slip) → (p ≡ 0 → length mid ≡ r.partition.parts) → length ps ≡ length mid → ((s : Slip) → p < length mid → own ≡ Some s → slice_get ps p ≡ Some s) →
          HasSaves kind saving m r p (k + 1) (only r.partition.parts p) false x.upto ps
      window_saves =
          let stands = now kind Safe rests m laws r f p k hs ts gathered w ahead body n ls i whole x next in
          saves_then saving p k x.upto least left.ends o stands.part.moment stands.part.opened (upto kind Safe rests m laws r f p k hs ts gathered w ahead body n ls i whole x next) left.next
          (ends_done kind Safe rests m laws r f p k hs ts gathered w ahead body n ls i whole x next saving new least b lines bs o left)
          (ends_last kind Safe rests m laws r f p k hs ts gathered w ahead body n ls i whole x next saving new least b lines bs o left) left.piece i.part
