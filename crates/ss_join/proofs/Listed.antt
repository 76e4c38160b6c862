-- The windows of a run, and the run of its one list.
use Rattle.std.proofs.Common.{◌≡◌, ℕ, zero, suc, ◌+◌, ◌^◌, ◌<◌, ◌≤◌, List, [], ◌∷◌, ◌++◌, length, max, cond, eqb, Option, refl, sym, ap, ◌∙◌, subst, arith, inl, inr, ◌⊎◌}
use Rattle.std.specs.Prelude.{slice_index_or}
use Rattle.std.specs.List.{flat_map, list_any}
use Rattle.std.proofs.lemmas.Bool.{lt-ltb, cases_eq, eq-eqb, ne_eqb}
use Rattle.ss_model.specs.declared.Key.{Key}
use Rattle.ss_model.specs.declared.Event.{Event}
use Rattle.ss_model.specs.declared.Line.{Line}
use Rattle.ss_model.specs.Order.{key_before}
use Rattle.ss_model.specs.Wiring.{Wiring}
use Rattle.ss_model.specs.Step.{State}
use Rattle.ss_model.specs.Step as run
use Rattle.ss_model.specs.End.{Outcome, ended}
use Rattle.ss_model.proofs.Runs.{until_one}
use Rattle.ss_element.specs.Kind.{Kind, behaviour}
use Rattle.ss_element.specs.World as element
use Rattle.ss_theory.specs.Queue.{insert_all, batches, range_from, top, IsKeyOrder}
use Rattle.ss_theory.specs.World.{World, Global, before, line_before, time_of, HasBelow, NoneBelow, step, after, IsUntil, lines, last, last_at, last_for, Laws, Ready}
use Rattle.ss_theory.specs.Rounds.{Moment, CuttingLaws, end_at}
use Rattle.ss_theory.proofs.Stable.{stable_sort, ordered_by_index}
use Rattle.ss_theory.proofs.Steps.{by_order, ready_step}
use Rattle.ss_theory.proofs.Theorems.{none_left, after_append, lines_append, last_top}
use Rattle.ss_theory.proofs.Ranges.{range_order}
use Rattle.ss_theory.proofs.Rounds as on
use Rattle.ss_theory.proofs.Bounds as bounds
use Rattle.ss_parts.specs.Parts.{glob}
use Rattle.ss_parts.specs.Division.{beginning, Leads, IsCutBy}
use Rattle.ss_parts.specs.Windows.{KeepsBound}
use Rattle.ss_parts.specs.Cutting.{cutting}
use Rattle.ss_parts.proofs.Laws.{keys_in_order}
use Rattle.ss_parts.proofs.Bridge.{until_same, until_back, lines_same, last_same}
use Rattle.ss_parts.proofs.Windows as windows
use Rattle.ss_run.specs.declared.RunSpec.{RunSpec}
use Rattle.ss_run.specs.Meaning.{Meaning, MeaningLaws}
use Rattle.ss_run.specs.Run.{division, wires_of, start_of, limits, view, PartState, IsFitting, IsAt, window_end, known, IsPartDone, HasWindows}
use Rattle.ss_worker.specs.Told.{IsLeft, IsLast}
use Rattle.ss_worker.specs.Saves.{IsBehind}
use Rattle.ss_worker.proofs.Course as course
use Rattle.ss_join.specs.Joined.{IsOutcome, run_lines}
use Rattle.ss_join.specs.Between.{AreWindowLines, IsGreatestLast}

-- ---- steps before a bound

module _ {W X K E T : Type 0} (v : World W X K E T) where
  abbrev pub AllBelow : ℕ → ℕ → Global W E → Type 0
  AllBelow q zero s = Unit {0}
  AllBelow q (suc n) s = HasBelow v q s.pending × AllBelow q n (step v s)

  pub below_append : (q n m : ℕ) (s : Global W E) → AllBelow q n s → AllBelow q m (after v n s) → AllBelow q (n + m) s
  below_append q zero m s a b = subst (λ k. AllBelow q k s) {x = m} {y = 0 + m} (omega arith) b
  below_append q (suc n) m s a b = subst (λ k. AllBelow q k s) {x = suc (n + m)} {y = suc n + m} (omega arith) (a.0, below_append q n m (step v s) a.1 b)

  has_later : (b q : ℕ) (xs : List E) → b ≤ q → HasBelow v b xs → HasBelow v q xs
  has_later b q [] le h = h
  has_later b q (x ∷ xs) le h = let k : time_of v x < b = h in omega arith

  pub of_until : (b q n : ℕ) (s : Global W E) → b ≤ q → IsUntil v b n s → AllBelow q n s
  of_until b q zero s le u = tt
  of_until b q (suc n) s le u = (has_later b q s.pending le u.0, of_until b q n (step v s) le u.1)

  pub until_end : (q n : ℕ) (s : Global W E) → AllBelow q n s → NoneBelow v q (after v n s).pending → IsUntil v q n s
  until_end q zero s a none = none
  until_end q (suc n) s a none = (a.0, until_end q n (step v s) a.1 none)

  pub within : (q n t : ℕ) (s : Global W E) → AllBelow q n s → IsUntil v q t s → (more : ℕ) × (t ≡ n + more)
  within q zero t s a u = (t, omega arith)
  within q (suc n) zero s a u = absurd (on.not_both v q s.pending u a.0)
  within q (suc n) (suc t) s a u = let r = within q n t (step v s) a.1 u.1 in let e : t ≡ n + r.0 = r.1 in (r.0, omega (arith, e))

  pub last_append : (n m : ℕ) (s : Global W E) (z : ℕ) → last v (n + m) s z ≡ last v m (after v n s) (last v n s z)
  last_append zero m s z = let e : 0 + m ≡ m = omega arith in ap (λ x. last v x s z) e
  last_append (suc n) m s z = let e : suc n + m ≡ suc (n + m) = omega arith in ap (λ x. last v x s z) e ∙ last_append n m (step v s) (last_at v s.pending z)

  -- no event to come is earlier than the last one handled
  module _ (Safe : W → List E → Type 0) (look limit : ℕ) (laws : Laws v Safe look limit) where
    pub last_ready : (bound n : ℕ) (w : W) (pending : List E) (t : ℕ) → bound ≤ limit → Ready v Safe t w pending → IsUntil v bound n (record { state = w; pending = pending }) →
        Ready v Safe (last v n (record { state = w; pending = pending }) t) (after v n (record { state = w; pending = pending })).state (after v n (record { state = w; pending = pending })).pending
    last_ready bound zero w pending t under r u = r
    last_ready bound (suc n) w [] t under r u = absurd u.0
    last_ready bound (suc n) w (e ∷ rest) t under r u =
        let below : time_of v e < bound = u.0 in
        let now : Ready v Safe (time_of v e) w (e ∷ rest) = record { safe = r.safe; ordered = r.ordered; none_before = none_left v Safe look limit laws (time_of v e) (e ∷ rest) r.ordered (omega arith) } in
        last_ready bound n (v.act w e).after (insert_all (before v) (v.act w e).sends rest) (time_of v e) under (ready_step v Safe look limit laws (time_of v e) w e rest now (omega arith)) u.1

-- ---- lists

joined : (lists : List (List Line)) (f : ℕ → List Line) (k n : ℕ) → length lists ≡ n → ((p : ℕ) → p < n → slice_index_or lists p [] ≡ f (k + p)) → flat_map (λ ls. ls) lists ≡ batches f (range_from k n)
joined [] f k zero e h = refl
joined [] f k (suc n) e h = absurd (omega arith)
joined (x ∷ xs) f k zero e h = absurd (omega arith)
joined (x ∷ xs) f k (suc n) e h =
    ap (λ l. l ++ flat_map (λ ls. ls) xs) (h 0 (omega arith) ∙ ap f {x = k + 0} {y = k} (omega arith))
    ∙ ap (λ l. f k ++ l) (joined xs f (k + 1) n (omega arith) (λ p lt. h (suc p) (omega arith) ∙ ap f {x = k + suc p} {y = k + 1 + p} (omega arith)))

top_of_one : (n z : ℕ) (f : ℕ → ℕ) → 1 ≤ n → ((p : ℕ) → p < n → f p ≡ z) → top n f ≡ z
top_of_one zero z f h all = absurd (omega arith)
top_of_one (suc zero) z f h all = let e : f 0 ≡ z = all 0 (omega arith) in omega arith
top_of_one (suc (suc n)) z f h all =
    let a : top (suc n) f ≡ z = top_of_one (suc n) z f (omega arith) (λ p lt. all p (omega arith)) in
    let e : f (suc n) ≡ z = all (suc n) (omega arith) in
    omega arith

tops : (n : ℕ) (y z : ℕ → ℕ) → ((p : ℕ) → p < n → y p ≡ z p) → top n y ≡ top n z
tops zero y z h = refl
tops (suc n) y z h = ap (λ a. max a (y n)) (tops n y z (λ p lt. h p (omega arith))) ∙ ap (λ b. max (top n z) b) (h n (omega arith))

pub greatest_more : {S L : Type 0} (kind : Kind S L) (m : Meaning S L) (r : RunSpec) (k n greatest y total : ℕ) → IsGreatestLast kind m r k n greatest → IsLast kind m r n k y → total ≡ max greatest y → IsGreatestLast kind m r k (n + 1) total
greatest_more kind m r k n greatest y total i h e =
    let z = λ (p : ℕ). cond (eqb p n) y (i.lasts p) in
    let now : z n ≡ y = ap (λ b. cond b y (i.lasts n)) (eq-eqb n n refl) in
    let before : (p : ℕ) → p < n → z p ≡ i.lasts p = λ p lt. ap (λ b. cond b y (i.lasts p)) (ne_eqb p n (λ q. omega (arith, lt, q))) in
    record {
      lasts = z;
      are = λ p lt. elim (cases_eq p n) [
        | inl q ↦ subst (λ j. IsLast kind m r j k (z j)) (sym q) (subst (λ x. IsLast kind m r n k x) (sym now) h)
        | inr ne ↦ subst (λ x. IsLast kind m r p k x) (sym (before p (omega (arith, lt, ne)))) (i.are p (omega (arith, lt, ne)))
      ];
      is = e ∙ ap (λ x. max x y) (i.is ∙ sym (tops n z i.lasts before)) ∙ ap (λ x. max (top n z) x) (sym now) ∙ ap (λ j. top j z) {x = suc n} {y = n + 1} (omega arith);
    }

-- ---- before a window

module _ {S L : Type 0} (kind : Kind S L) (m : Meaning S L) (r : RunSpec) where
  -- an event was to come in each window before one
  abbrev pub Lefts : ℕ → Type 0
  Lefts k = (j : ℕ) (x : Moment (List S) (Event L)) → j < k → IsAt kind m r j x → HasBelow (view kind m r) (known kind m r x) x.whole.pending

  -- the lines of the windows before one
  pub record IsBefore (o : Outcome) (k : ℕ) (ls : List Line) : Type 0 where
    pub moment : Moment (List S) (Event L)
    pub opened : IsAt kind m r k moment
    pub steps : ℕ
    pub below : AllBelow (view kind m r) o.bound steps (glob (start_of m r))
    pub whole : moment.whole ≡ after (view kind m r) steps (glob (start_of m r))
    pub printed : ls ≡ lines (view kind m r) steps (glob (start_of m r))
    -- they are before each time that isn't before the end of the last of them
    pub behind : (t : ℕ) → IsBehind kind m r k t → AllBelow (view kind m r) t steps (glob (start_of m r))

-- ---- a run that fits

module _ {S L : Type 0} (kind : Kind S L) (Safe : Wiring → ℕ → State S L → Type 0) (rests : element.World kind Safe) (m : Meaning S L) (laws : MeaningLaws Safe m) (r : RunSpec) (f : IsFitting kind m r) where
  pub lefts_more : (k : ℕ) → Lefts kind m r k → IsLeft kind m r k → Lefts kind m r (k + 1)
  lefts_more k before left j x lt o = elim (cases_eq j k) [
    | inl e ↦
        let q : left.moment ≡ x = course.one_moment kind Safe rests m laws r f k left.moment x left.opened (subst (λ i. IsAt kind m r i x) e o) in
        subst (λ (y : Moment (List S) (Event L)). HasBelow (view kind m r) (known kind m r y) y.whole.pending) q left.some
    | inr ne ↦ before j x (omega (arith, lt, ne)) o
  ]

  pub few : (k : ℕ) → Lefts kind m r (k + 1) → k < 2 ^ 62
  few k left = go (cases (course.counted kind Safe rests m laws r f).count (k + 1)) where
    cases : (x y : ℕ) → (x < y) ⊎ (y ≤ x)
    cases x y = grind arith

    go : ((course.counted kind Safe rests m laws r f).count < k + 1) ⊎ (k + 1 ≤ (course.counted kind Safe rests m laws r f).count) → k < 2 ^ 62
    go (inl lt) =
        let c = course.counted kind Safe rests m laws r f in
        absurd (on.not_both (view kind m r) (known kind m r c.is.last) c.is.last.whole.pending c.is.over (left c.count c.is.last lt c.is.opened))
    go (inr le) = let h = (course.counted kind Safe rests m laws r f).few in omega (arith, le, h)

-- ---- and its outcome

module _ {S L : Type 0} (kind : Kind S L) (Safe : Wiring → ℕ → State S L → Type 0) (rests : element.World kind Safe) (m : Meaning S L) (laws : MeaningLaws Safe m) (r : RunSpec) (f : IsFitting kind m r) (o : Outcome) (ran : IsOutcome kind m r o) where
  abbrev V : World (List S) (List (ℕ × S)) Key (Event L) Line
  V = view kind m r

  abbrev G : Global (List S) (Event L)
  G = glob (start_of m r)

  abbrev P : ℕ
  P = r.partition.parts

  abbrev SafeIn : List S → List (Event L) → Type 0
  SafeIn = windows.SafeIn kind Safe rests (wires_of m r) (division r) (start_of m r) (course.may kind Safe rests m laws r f)

  the_laws : Laws (view kind m r) (windows.SafeIn kind Safe rests (wires_of m r) (division r) (start_of m r) (course.may kind Safe rests m laws r f)) (division r).look (2 ^ 62)
  the_laws = windows.the_laws kind Safe rests (wires_of m r) (division r) (start_of m r) (course.may kind Safe rests m laws r f)

  cut_by : IsCutBy (limits m r) r.cuts (list_any kind.primary (start_of m r).components)
  cut_by = record { origin = f.origin; stop = omega (arith, f.stop_from); exit = f.exit }

  pub keeps : KeepsBound kind (wires_of m r) (division r) (start_of m r) o.bound
  keeps = windows.keeps_bounds kind Safe rests (wires_of m r) (division r) (start_of m r) (course.may kind Safe rests m laws r f) (limits m r) o.agreed o.bound cut_by ran.bound

  abbrev Before : ℕ → List Line → Type 0
  Before = IsBefore kind m r o

  pub at_first : Before 0 []
  at_first = record { moment = beginning kind (wires_of m r) (division r) (start_of m r); opened = refl; steps = 0; below = tt; whole = refl; printed = refl; behind = λ t late. tt }

  ends : ℕ → ℕ → PartState kind m r
  ends k p = (course.end_of kind Safe rests m laws r f p k).0

  are_ends : (k p : ℕ) → IsPartDone kind m r p k (ends k p)
  unfolding ends
  are_ends k p = (course.end_of kind Safe rests m laws r f p k).1

  lines_in_order : IsKeyOrder (line_before (view kind m r))
  lines_in_order = by_order (λ (t : Line). t.key) key_before keys_in_order

  window_lines : (k : ℕ) (h g : Moment (List S) (Event L)) → IsAt kind m r k h → (l : Leads kind (wires_of m r) (division r) (start_of m r) h g) → (new : List Line) → AreWindowLines kind m r k new → new ≡ lines (view kind m r) l.steps h.whole
  window_lines k h g oh l new ws =
      stable_sort (line_before (view kind m r)) lines_in_order (flat_map (λ ls. ls) ws.lists) new (ordered_by_index (line_before (view kind m r)) lines_in_order new ws.is.sorted) ws.is.stable
      ∙ ap (λ xs. insert_all (line_before (view kind m r)) xs []) (joined ws.lists (λ p. (ends k p).says) 0 r.partition.parts ws.are.count (λ p lt. ws.are.each p (ends k p) lt (are_ends k p) ∙ ap (λ q. (ends k q).says) {x = p} {y = 0 + p} (omega arith)))
      ∙ on.prints V SafeIn (division r).look (2 ^ 62) the_laws (windows.idle kind Safe rests (wires_of m r) (division r) (start_of m r) (course.may kind Safe rests m laws r f)) (windows.C kind Safe rests (wires_of m r) (division r) (start_of m r) (course.may kind Safe rests m laws r f))
      (windows.the_cuts kind Safe rests (wires_of m r) (division r) (start_of m r) (course.may kind Safe rests m laws r f)) (windows.start kind Safe rests (wires_of m r) (division r) (start_of m r) (course.may kind Safe rests m laws r f))
      (windows.ready kind Safe rests (wires_of m r) (division r) (start_of m r) (course.may kind Safe rests m laws r f)) k (ends k) (range_from 0 r.partition.parts) h g oh l (range_order r.partition.parts).0
      (λ q. (range_order r.partition.parts).1 (V.dst q) ∙ lt-ltb (V.dst q) r.partition.parts (windows.to kind Safe rests (wires_of m r) (division r) (start_of m r) (course.may kind Safe rests m laws r f) q))
      (λ p h. are_ends k p)

  C : CuttingLaws (cutting (division r).look (division r).cuts) (division r).look (2 ^ 62)
  C = windows.the_cuts kind Safe rests (wires_of m r) (division r) (start_of m r) (course.may kind Safe rests m laws r f)

  -- a window doesn't end before the one before it
  ends_grow : (h g : Moment (List S) (Event L)) → Leads kind (wires_of m r) (division r) (start_of m r) h g → window_end kind m r h ≤ window_end kind m r g
  ends_grow h g l =
      let up = bounds.up_known V SafeIn (division r).look (2 ^ 62) the_laws (windows.idle kind Safe rests (wires_of m r) (division r) (start_of m r) (course.may kind Safe rests m laws r f)) (windows.C kind Safe rests (wires_of m r) (division r) (start_of m r) (course.may kind Safe rests m laws r f)) C
      (windows.start kind Safe rests (wires_of m r) (division r) (start_of m r) (course.may kind Safe rests m laws r f)) (windows.ready kind Safe rests (wires_of m r) (division r) (start_of m r) (course.may kind Safe rests m laws r f)) h g l in
      go g.since g.whole.pending (subst (λ (x : Moment (List S) (Event L)). NoneBelow V (window_end kind m r h) x.whole.pending) (sym l.is) (none_then (window_end kind m r h) l.steps h.whole l.until)) up
    where
      none_then : (t n : ℕ) (s : Global (List S) (Event L)) → IsUntil V t n s → NoneBelow V t (after V n s).pending
      none_then t zero s u = u
      none_then t (suc n) s u = none_then t n (step V s) u.1

      go : (x : Option ℕ) (xs : List (Event L)) → NoneBelow V (window_end kind m r h) xs → window_end kind m r h ≤ (cutting (division r).look (division r).cuts).known x → window_end kind m r h ≤ end_at V (windows.idle kind Safe rests (wires_of m r) (division r) (start_of m r) (course.may kind Safe rests m laws r f)) (cutting (division r).look (division r).cuts) x xs
      go x [] none up = up
      go x (e ∷ rest) none up = C.least (window_end kind m r h) e.key.time ((cutting (division r).look (division r).cuts).known x) none up

  pub behind_back : (k t : ℕ) → IsBehind kind m r (suc k) t → IsBehind kind m r k t
  behind_back zero t late = tt
  behind_back (suc k) t late = λ h oh.
      let next = (course.counted kind Safe rests m laws r f).moments (suc k) in
      let e : h ≡ next.1.0 = course.one_moment kind Safe rests m laws r f k h next.1.0 oh next.1.1 in
      let a = ends_grow next.1.0 next.0 next.1.2 in
      let b = late next.0 next.1 in
      subst (λ (x : Moment (List S) (Event L)). window_end kind m r x ≤ t) (sym e) (omega (arith, a, b))

  -- a window more
  pub one_more : (k : ℕ) (ls new : List Line) → Before k ls → IsLeft kind m r k → AreWindowLines kind m r k new → Before (suc k) (ls ++ new)
  one_more k ls new b left ws =
      let next = (course.counted kind Safe rests m laws r f).moments (suc k) in
      let g = next.0 in
      let h = next.1.0 in
      let oh = next.1.1 in
      let l = next.1.2 in
      let e : b.moment ≡ h = course.one_moment kind Safe rests m laws r f k b.moment h b.opened oh in
      let some : HasBelow V (known kind m r h) h.whole.pending = subst (λ (x : Moment (List S) (Event L)). HasBelow V (known kind m r x) x.whole.pending) (course.one_moment kind Safe rests m laws r f k left.moment h left.opened oh) left.some in
      let upto : window_end kind m r h ≤ o.bound = keeps.not_past k h oh some in
      let whole : h.whole ≡ after V b.steps G = ap (λ (x : Moment (List S) (Event L)). x.whole) (sym e) ∙ b.whole in
      record {
        moment = g;
        opened = next.1;
        steps = b.steps + l.steps;
        below = below_append V o.bound b.steps l.steps G b.below (subst (λ (x : Global (List S) (Event L)). AllBelow V o.bound l.steps x) whole (of_until V (window_end kind m r h) o.bound l.steps h.whole upto l.until));
        whole = ap (λ (x : Moment (List S) (Event L)). x.whole) l.is ∙ ap (after V l.steps) whole ∙ sym (after_append V SafeIn (division r).look (2 ^ 62) the_laws b.steps l.steps G);
        behind = λ t late. below_append V t b.steps l.steps G (b.behind t (behind_back k t late)) (subst (λ (x : Global (List S) (Event L)). AllBelow V t l.steps x) whole (of_until V (window_end kind m r h) t l.steps h.whole (late h oh) l.until));
        printed = ap (λ x. x ++ new) b.printed ∙ ap (λ x. lines V b.steps G ++ x) (window_lines k h g oh l new ws ∙ ap (lines V l.steps) whole) ∙ sym (lines_append V SafeIn (division r).look (2 ^ 62) the_laws b.steps l.steps G);
      }

  -- where the run is over
  all_steps : (k n : ℕ) (h : Moment (List S) (Event L)) → IsAt kind m r k h → AllBelow (view kind m r) o.bound n (glob (start_of m r)) → h.whole ≡ after (view kind m r) n (glob (start_of m r)) → HasWindows kind m r k → n ≡ o.steps
  all_steps k n h oh below whole w =
      let e : w.last ≡ h = course.one_moment kind Safe rests m laws r f k w.last h w.opened oh in
      let over : NoneBelow V o.bound w.last.whole.pending = subst (λ t. NoneBelow V t w.last.whole.pending) (keeps.known k w) w.over in
      let none : NoneBelow V o.bound (after V n G).pending = subst (λ (x : Global (List S) (Event L)). NoneBelow V o.bound x.pending) (ap (λ (x : Moment (List S) (Event L)). x.whole) e ∙ whole) over in
      until_one kind.handled (wires_of m r) o.bound n o.steps (start_of m r) (until_same kind.handled (wires_of m r) (division r).part_of o.bound n (start_of m r) (until_end V o.bound n G below none)) ran.until

  pub all_lines : (k : ℕ) (ls : List Line) → Before k ls → HasWindows kind m r k → ls ≡ run_lines kind m r o
  all_lines k ls b w =
      b.printed ∙ ap (λ n. lines V n G) (all_steps k b.steps b.moment b.opened b.below b.whole w) ∙ sym (lines_same kind.handled (wires_of m r) (division r).part_of o.steps (start_of m r))

  pub some_lines : (k : ℕ) (ls : List Line) → Before k ls → (rest : List Line) × (ls ++ rest ≡ run_lines kind m r o)
  some_lines k ls b =
      let t = within V o.bound b.steps o.steps G b.below (until_back kind.handled (wires_of m r) (division r).part_of o.bound o.steps (start_of m r) ran.until) in (
        lines V t.0 (after V b.steps G),
        ap (λ x. x ++ lines V t.0 (after V b.steps G)) b.printed ∙ sym (lines_append V SafeIn (division r).look (2 ^ 62) the_laws b.steps t.0 G) ∙ ap (λ n. lines V n G) (sym t.1) ∙ sym (lines_same kind.handled (wires_of m r) (division r).part_of o.steps (start_of m r)),
      )

  -- ---- the times of last events

  pub record Lasts (k : ℕ) (h : Moment (List S) (Event L)) (z : ℕ → ℕ) : Type 0 where
    pub steps : ℕ
    pub below : AllBelow (view kind m r) o.bound steps (glob (start_of m r))
    pub behind : (t : ℕ) → IsBehind kind m r k t → AllBelow (view kind m r) t steps (glob (start_of m r))
    pub whole : h.whole ≡ after (view kind m r) steps (glob (start_of m r))
    pub is : top r.partition.parts z ≡ last (view kind m r) steps (glob (start_of m r)) (start_of m r).last
    pub ready : Ready (view kind m r) (windows.SafeIn kind Safe rests (wires_of m r) (division r) (start_of m r) (course.may kind Safe rests m laws r f)) (top r.partition.parts z) h.whole.state h.whole.pending

  cases_below : (p : ℕ) → (p < r.partition.parts) ⊎ (r.partition.parts ≤ p)
  cases_below p = cases p r.partition.parts where
    cases : (x y : ℕ) → (x < y) ⊎ (y ≤ x)
    cases x y = grind arith

  lasts : (start_of m r).last ≤ r.cuts.origin → (k : ℕ) (h : Moment (List S) (Event L)) → IsAt kind m r k h → Lefts kind m r k → (z : ℕ → ℕ) → ((p : ℕ) → p < r.partition.parts → IsLast kind m r p k (z p)) → Lasts k h z
  lasts early zero h oh left z all =
      let t : top r.partition.parts z ≡ (start_of m r).last = top_of_one r.partition.parts (start_of m r).last z f.some all in
      let begun = windows.begins kind Safe rests (wires_of m r) (division r) (start_of m r) (course.may kind Safe rests m laws r f) in
      record {
        steps = 0;
        below = tt;
        behind = λ q late. tt;
        whole = ap (λ (x : Moment (List S) (Event L)). x.whole) oh;
        is = t;
        ready = subst (λ (x : Moment (List S) (Event L)). Ready V SafeIn (top P z) x.whole.state x.whole.pending) (sym oh)
            (bounds.from_less V SafeIn (division r).look (2 ^ 62) the_laws (top P z) r.cuts.origin (start_of m r).components (start_of m r).pending (omega (arith, t, early)) begun);
      }
  lasts early (suc k) h oh left z all = go (λ p. (choose p (cases_below p)).0) (λ p lt. (choose p (cases_below p)).1 lt) (lasts early k oh.0 oh.1 (λ j q lt oq. left j q (omega arith) oq) (λ p. (choose p (cases_below p)).0) (λ p lt. ((choose p (cases_below p)).1 lt).0)) where
    choose : (p : ℕ) → (p < r.partition.parts) ⊎ (r.partition.parts ≤ p) → (y : ℕ) × (p < r.partition.parts → IsLast kind m r p k y × (z p ≡ last_for (view kind m r) p oh.2.steps oh.0.whole y))
    choose p (inr ge) = (0, λ lt. absurd (omega (arith, ge, lt)))
    choose p (inl q) =
        let a = all p q in
        let e : a.0 ≡ oh.0 = course.one_moment kind Safe rests m laws r f k a.0 oh.0 a.1 oh.1 in
        let u : IsUntil V (window_end kind m r oh.0) a.2 oh.0.whole = subst (λ (x : Moment (List S) (Event L)). IsUntil V (window_end kind m r x) a.2 x.whole) e a.3 in
        let n : a.2 ≡ oh.2.steps = on.one_until V (window_end kind m r oh.0) a.2 oh.2.steps oh.0.whole u oh.2.until in
        (a.4, λ lt. (a.5, a.6 ∙ ap (λ (x : Moment (List S) (Event L)). last_for V p a.2 x.whole a.4) e ∙ ap (λ c. last_for V p c oh.0.whole a.4) n))

    go : (y : ℕ → ℕ) → ((p : ℕ) → p < r.partition.parts → IsLast kind m r p k (y p) × (z p ≡ last_for (view kind m r) p oh.2.steps oh.0.whole (y p))) → Lasts k oh.0 y → Lasts (suc k) h z
    go y fits i =
        let l = oh.2 in
        let x = oh.0 in
        let some : HasBelow V (known kind m r x) x.whole.pending = left k x (omega arith) oh.1 in
        let upto : window_end kind m r x ≤ o.bound = keeps.not_past k x oh.1 some in
        let under : window_end kind m r x ≤ 2 ^ 62 = on.end_limit V SafeIn (division r).look (2 ^ 62) the_laws (windows.idle kind Safe rests (wires_of m r) (division r) (start_of m r) (course.may kind Safe rests m laws r f)) (windows.C kind Safe rests (wires_of m r) (division r) (start_of m r) (course.may kind Safe rests m laws r f))
        (windows.the_cuts kind Safe rests (wires_of m r) (division r) (start_of m r) (course.may kind Safe rests m laws r f)) (windows.start kind Safe rests (wires_of m r) (division r) (start_of m r) (course.may kind Safe rests m laws r f))
        (windows.ready kind Safe rests (wires_of m r) (division r) (start_of m r) (course.may kind Safe rests m laws r f)) x in
        let t : top P z ≡ last V l.steps x.whole (top P y)
        = tops P z (λ p. last_for V p l.steps x.whole (y p)) (λ p lt. (fits p lt).1)
        ∙ last_top V SafeIn (division r).look (2 ^ 62) the_laws P (window_end kind m r x) l.steps x.whole.state x.whole.pending y (windows.to kind Safe rests (wires_of m r) (division r) (start_of m r) (course.may kind Safe rests m laws r f)) under i.ready l.until in
        let ready = last_ready V SafeIn (division r).look (2 ^ 62) the_laws (window_end kind m r x) l.steps x.whole.state x.whole.pending (top P y) under i.ready l.until in
        let now : h.whole ≡ after V l.steps x.whole = ap (λ (q : Moment (List S) (Event L)). q.whole) l.is in
        record {
          steps = i.steps + l.steps;
          below = below_append V o.bound i.steps l.steps G i.below (subst (λ (q : Global (List S) (Event L)). AllBelow V o.bound l.steps q) i.whole (of_until V (window_end kind m r x) o.bound l.steps x.whole upto l.until));
          behind = λ q late. below_append V q i.steps l.steps G (i.behind q (behind_back k q late)) (subst (λ (g : Global (List S) (Event L)). AllBelow V q l.steps g) i.whole (of_until V (window_end kind m r x) q l.steps x.whole (late x oh.1) l.until));
          whole = now ∙ ap (after V l.steps) i.whole ∙ sym (after_append V SafeIn (division r).look (2 ^ 62) the_laws i.steps l.steps G);
          is = t ∙ ap (last V l.steps x.whole) i.is ∙ ap (λ (q : Global (List S) (Event L)). last V l.steps q (last V i.steps G (start_of m r).last)) i.whole ∙ sym (last_append V i.steps l.steps G (start_of m r).last);
          ready = subst (λ (q : Global (List S) (Event L)). Ready V SafeIn (top P z) q.state q.pending) (sym now)
              (subst (λ n. Ready V SafeIn n (after V l.steps x.whole).state (after V l.steps x.whole).pending) (sym t) ready);
        }

  start_early : (start_of m r).last ≤ r.cuts.origin
  start_early = let opens = laws r.graph r.origin f.accepted in subst (λ t. (start_of m r).last ≤ t) (sym f.origin) opens.past

  pub last_is : (k : ℕ) → HasWindows kind m r k → (greatest : ℕ) → IsGreatestLast kind m r k r.partition.parts greatest → greatest ≡ (ended (behaviour kind) (wires_of m r) (start_of m r) o).last
  last_is k w greatest x =
      let i = lasts start_early k w.last w.opened w.first x.lasts x.are in
      x.is ∙ i.is ∙ ap (λ n. last V n G (start_of m r).last) (all_steps k i.steps w.last w.opened i.below i.whole w) ∙ sym (last_same kind.handled (wires_of m r) (division r).part_of o.steps (start_of m r))

  -- the same of a time between two windows: behind the window before, and with no event left before it
  pub last_then : (k n t greatest : ℕ) (h : Moment (List S) (Event L)) → IsAt kind m r k h → Lefts kind m r k → IsGreatestLast kind m r k r.partition.parts greatest → IsBehind kind m r k t → NoneBelow (view kind m r) t h.whole.pending →
      run.IsUntil kind.handled (wires_of m r) t n (start_of m r) → greatest ≡ (run.after kind.handled (wires_of m r) n (start_of m r)).last
  last_then k n t greatest h oh left x late none u =
      let i = lasts start_early k h oh left x.lasts x.are in
      let at_end : NoneBelow V t (after V i.steps G).pending = subst (λ (g : Global (List S) (Event L)). NoneBelow V t g.pending) i.whole none in
      let steps : i.steps ≡ n = until_one kind.handled (wires_of m r) t i.steps n (start_of m r) (until_same kind.handled (wires_of m r) (division r).part_of t i.steps (start_of m r) (until_end V t i.steps G (i.behind t late) at_end)) u in
      x.is ∙ i.is ∙ ap (λ j. last V j G (start_of m r).last) steps ∙ sym (last_same kind.handled (wires_of m r) (division r).part_of n (start_of m r))
