-- What a run has left at a time is the run from its state then.
use Rattle.std.proofs.Common.{◌≡◌, ℕ, zero, suc, ◌+◌, ◌-◌, ◌<◌, ◌≤◌, inl, inr, Bool, true, false, max, List, [], ◌∷◌, ◌++◌, map, Option, Some, None, refl, sym, ap, ◌∙◌, subst, arith, append_assoc, append-nil}
use Rattle.std.specs.Prelude.{slice_get}
use Rattle.std.proofs.lemmas.Bool.{cases_Bool, false≢true, cases_lt}
use Rattle.std.proofs.lemmas.Bool.Decides.{nat_tests}
use Rattle.std.proofs.Math.Nat.{le-max_left, max-le}
use Rattle.ss_model.specs.declared.Event.{Event}
use Rattle.ss_model.specs.declared.Cause.{Cause}
use Rattle.ss_model.specs.Order.{begins_before}
use Rattle.ss_model.specs.Wiring.{Wiring, told}
use Rattle.ss_model.specs.Step.{State, Reaction, reaction, step_reacted, step_told, step_from, step_lines, after, lines, IsUntil}
use Rattle.ss_model.specs.End.{Behaviour, Limits, end_of, Outcome, agree, IsAsked, AgreesAt, IsBound, IsRun, ended, told_time, text_of, final_line, printed_texts}
use Rattle.ss_model.proofs.Runs.{after_add, until_both}
use Rattle.ss_model.proofs.Ends.{run_one}
use Rattle.ss_window.specs.declared.Cuts.{Cuts}
use Rattle.ss_rest.specs.Rest.{going_on, IsCheckpoint, StandsAt, IsRest, GoesOn}

begins_sooner : {L : Type 0} (t u : ℕ) (es : List (Event L)) → t ≤ u → begins_before t es ≡ true → begins_before u es ≡ true
begins_sooner t u [] h b = b
begins_sooner t u (e ∷ es) h b = grind (arith, nat_tests)

module _ {S L : Type 0} (handled : S → ℕ → Cause L → Reaction S L) (w : Wiring) where
  -- the lines of steps after steps
  lines_add : (m n : ℕ) (s : State S L) → lines handled w (m + n) s ≡ lines handled w m s ++ lines handled w n (after handled w m s)
  lines_add m zero s = ap (λ k. lines handled w k s) {x = m + 0} {y = m} (omega arith) ∙ sym (append-nil (lines handled w m s))
  lines_add m (suc n) s =
      ap (λ k. lines handled w k s) {x = m + suc n} {y = suc (m + n)} (omega arith)
      ∙ ap (λ ls. ls ++ step_lines handled w (after handled w (m + n) s)) (lines_add m n s)
      ∙ ap (λ a. (lines handled w m s ++ lines handled w n (after handled w m s)) ++ step_lines handled w a) (after_add handled w m n s)
      ∙ append_assoc (lines handled w m s) (lines handled w n (after handled w m s)) (step_lines handled w (after handled w n (after handled w m s)))

  module _ (t u m n : ℕ) (s : State S L) (h : t ≤ u) (a : IsUntil handled w t n s) (x : IsUntil handled w u m s) where
    -- a run to a later time has no fewer steps
    until_more : n ≤ m
    until_more = elim (cases_lt m n) [
      | inl l ↦ absurd (false≢true (sym x.done ∙ begins_sooner t u (after handled w m s).pending h (a.each m l)))
      | inr g ↦ g
    ]

    there : (k : ℕ) → after handled w k (after handled w n s) ≡ after handled w (n + k) s
    there k = sym (after_add handled w n k s)

    -- and what it has left after the sooner time is a run from there
    pub until_rest : IsUntil handled w u (m - n) (after handled w n s)
    until_rest = record {
      each = λ k l. subst (λ (z : State S L). begins_before u z.pending ≡ true) (sym (there k)) (x.each (n + k) (let g = until_more in omega arith));
      done = subst (λ (z : State S L). begins_before u z.pending ≡ false) (sym (all_there (m - n) (let g = until_more in omega arith))) x.done;
    }
      where
        all_there : (k : ℕ) → n + k ≡ m → after handled w k (after handled w n s) ≡ after handled w m s
        all_there k e = there k ∙ ap (λ i. after handled w i s) e

-- steps before a time handle events before it
module _ {S L : Type 0} (handled : S → ℕ → Cause L → Reaction S L) (w : Wiring) (t : ℕ) where
  last_told : (xs : List S) (rest : List (Event L)) (now : ℕ) (o : Option (ℕ × Cause L)) → (step_told handled w xs rest now o).last ≡ now
  last_told xs rest now None = refl
  last_told xs rest now (Some (c, why)) = at_component (slice_get xs c)
    where
      at_component : (o : Option S) → (step_reacted w xs rest now c why (reaction handled now why o)).last ≡ now
      at_component None = refl
      at_component (Some x) = refl

  step_before : (s : State S L) (p : List (Event L)) → begins_before t p ≡ true → (step_from handled w s p).last < t
  step_before s [] h = absurd (false≢true h)
  step_before s (e ∷ rest) h =
      let early : e.key.time < t = grind (arith, nat_tests) in
      subst (λ k. k < t) (sym (last_told s.components rest e.key.time (told w e))) early

  last_before : (n : ℕ) (s : State S L) → IsUntil handled w t n s → s.last < t → (after handled w n s).last < t
  last_before zero s x h = h
  last_before (suc n) s x h = step_before (after handled w n s) (after handled w n s).pending (x.each n (omega arith))

module _ {S L : Type 0} (b : Behaviour S L) (w : Wiring) (l : Limits) (s : State S L) (t n : ℕ) (until : IsUntil b.handled w t n s) (above : l.origin < t) where
  abbrev mid : State S L
  mid = after b.handled w n s

  abbrev rest_limits : Limits
  rest_limits = going_on t l

  -- the primaries agree at a later time in the one run where they do in the other
  agrees_then : (q : ℕ) → t ≤ q → AgreesAt b w s q → AgreesAt b w mid q
  agrees_then q h x =
      let m = until_more b.handled w t q x.steps n s h until x.until in
      let e : n + (x.steps - n) ≡ x.steps = omega arith in
      record {
        steps = x.steps - n;
        until = until_rest b.handled w t q x.steps n s h until x.until;
        agree = ap (λ (z : State S L). agree b z.components) (sym (after_add b.handled w n (x.steps - n) s) ∙ ap (λ i. after b.handled w i s) e) ∙ x.agree;
      }

  agreed_before : (q : ℕ) → t ≤ q → AgreesAt b w mid q → AgreesAt b w s q
  agreed_before q h x = record {
    steps = n + x.steps;
    until = until_both b.handled w t q n x.steps s h until x.until;
    agree = ap (λ (z : State S L). agree b z.components) (after_add b.handled w n x.steps s) ∙ x.agree;
  }

  -- where the end is later than the time, it is the stop time in both runs
  module _ (low : t < end_of l) where
    stop_later : t < l.stop
    stop_later = elim (cases_lt t l.stop) [ inl h ↦ h | inr h ↦ let m : max l.stop l.origin ≤ t = max-le h (omega arith) in absurd (omega arith) ]

    end_is : end_of l ≡ l.stop
    end_is = let e = stop_later in let x = le-max_left l.stop l.origin in let y : max l.stop l.origin ≤ l.stop = max-le (omega arith) (omega arith) in omega arith

    rest_end_is : end_of rest_limits ≡ l.stop
    rest_end_is = let e = stop_later in let x = le-max_left l.stop t in let y : max l.stop t ≤ l.stop = max-le (omega arith) (omega arith) in omega arith

    -- the primaries are asked at the same times
    asked_then : (q : ℕ) → t < q → IsAsked l q → IsAsked rest_limits q
    asked_then q h x = let e = end_is in let f = rest_end_is in record { times = x.times; multiple = x.multiple; above = h; within = omega (arith, x.within) }

    asked_before : (q : ℕ) → IsAsked rest_limits q → IsAsked l q
    asked_before q x = let e = end_is in let f = rest_end_is in record { times = x.times; multiple = x.multiple; above = omega (arith, x.above); within = omega (arith, x.within) }

    asked_above : (q : ℕ) → IsAsked rest_limits q → t < q
    asked_above q x = x.above

    -- and the bound is the same
    rest_bound : (f : Bool) (q : ℕ) → t < q → IsBound b w l s f q → IsBound b w rest_limits mid f q
    rest_bound true q h x = record {
      asked = asked_then q h x.asked;
      agrees = agrees_then q (omega arith) x.agrees;
      first = λ r a k y. x.first r (asked_before r a) k (agreed_before r (let g = asked_above r a in omega arith) y);
    }
    rest_bound false q h x = (x.0 ∙ end_is ∙ sym rest_end_is, λ r a y. x.1 r (asked_before r a) (agreed_before r (let g = asked_above r a in omega arith) y))

-- a bound is no later than the end
pub bound_within : {S L : Type 0} (b : Behaviour S L) (w : Wiring) (l : Limits) (s : State S L) (f : Bool) (q : ℕ) → IsBound b w l s f q → q ≤ end_of l
bound_within b w l s true q x = x.asked.within
bound_within b w l s false q x = let e = x.0 in omega arith

map_append : {A B : Type 0} (f : A → B) (xs ys : List A) → map f (xs ++ ys) ≡ map f xs ++ map f ys
map_append f [] ys = refl
map_append f (x ∷ xs) ys = ap (λ zs. f x ∷ zs) (map_append f xs ys)

module _ {S L : Type 0} (b : Behaviour S L) (w : Wiring) (l : Limits) (s : State S L) (o : Outcome) (t n : ℕ) (run : IsRun b w l s o) (at : StandsAt b w l s o t n) where
  abbrev state : State S L
  state = after b.handled w n s

  low : t < end_of l
  low = let e = bound_within b w l s o.agreed o.bound run.bound in omega (arith, at.below)

  steps_more : n ≤ o.steps
  steps_more = until_more b.handled w t o.bound o.steps n s (omega (arith, at.below)) at.until run.until

  abbrev left : Outcome
  left = record { steps = o.steps - n; bound = o.bound; agreed = o.agreed }

  left_runs : IsRun b w (going_on t l) state left
  left_runs = record {
    bound = rest_bound b w l s t n at.until at.above low o.agreed o.bound at.below run.bound;
    until = until_rest b.handled w t o.bound o.steps n s (omega (arith, at.below)) at.until run.until;
  }

  steps_are : n + (o.steps - n) ≡ o.steps
  steps_are = let m = steps_more in omega arith

  ends_same : ended b w state left ≡ ended b w s o
  ends_same = sym (after_add b.handled w n (o.steps - n) s) ∙ ap (λ i. after b.handled w i s) steps_are

  told_same : told_time left (ended b w state left) ≡ told_time o (ended b w s o)
  told_same = ap (told_time o) ends_same

  said_both : lines b.handled w o.steps s ≡ lines b.handled w n s ++ lines b.handled w (o.steps - n) state
  said_both = ap (λ i. lines b.handled w i s) (sym steps_are) ∙ lines_add b.handled w n (o.steps - n) s

  prints_both : printed_texts b w s o ≡ map text_of (lines b.handled w n s) ++ printed_texts b w state left
  prints_both =
      let last = final_line (told_time o (ended b w s o)) ∷ [] in
      let before = map text_of (lines b.handled w n s) in
      let behind = map text_of (lines b.handled w (o.steps - n) state) in
      ap (λ ls. map text_of ls ++ last) said_both
      ∙ ap (λ ts. ts ++ last) (map_append text_of (lines b.handled w n s) (lines b.handled w (o.steps - n) state))
      ∙ append_assoc before behind last
      ∙ ap (λ time. before ++ (behind ++ final_line time ∷ [])) (sym told_same)

  module _ (c : Cuts) (u : ℕ) (x : State S L) where
    checkpoint_then : t < u → IsCheckpoint b w c l s o u x → IsCheckpoint b w c (going_on t l) state left u x
    checkpoint_then h p =
        let m = until_more b.handled w t u p.steps n s (omega arith) at.until p.until in
        let e : n + (p.steps - n) ≡ p.steps = omega arith in
        record {
          asked = p.asked;
          above = h;
          below = p.below;
          steps = p.steps - n;
          until = until_rest b.handled w t u p.steps n s (omega arith) at.until p.until;
          is = p.is ∙ ap (λ i. after b.handled w i s) (sym e) ∙ after_add b.handled w n (p.steps - n) s;
          some = p.some;
        }

    checkpoint_before : IsCheckpoint b w c (going_on t l) state left u x → (t < u) × IsCheckpoint b w c l s o u x
    checkpoint_before p = (
      p.above,
      record {
        asked = p.asked;
        above = omega (arith, at.above, p.above);
        below = p.below;
        steps = n + p.steps;
        until = until_both b.handled w t u n p.steps s (omega (arith, p.above)) at.until p.until;
        is = p.is ∙ sym (after_add b.handled w n p.steps s);
        some = p.some;
      },
    )

  left_is_rest : IsRest b w l s o t n left
  left_is_rest = record {
    steps = steps_are;
    bound = refl;
    agreed = refl;
    ends = ends_same;
    told = told_same;
    said = said_both;
    prints = prints_both;
    still = λ c u x h p. checkpoint_then c u x h p;
    only = λ c u x p. checkpoint_before c u x p;
  }

  pub goes_on : GoesOn b w l s o t n
  goes_on = record {
    past = λ h. last_before b.handled w t n s at.until (omega (arith, at.above));
    early = stop_later b w l s t n at.until at.above low;
    rest = left;
    run = left_runs;
    each = λ r x. subst (IsRest b w l s o t n) (run_one b w (going_on t l) state left r left_runs x) left_is_rest;
  }

-- at each time before its bound a run stands
module _ {S L : Type 0} (handled : S → ℕ → Cause L → Reaction S L) (w : Wiring) (t u m : ℕ) (s : State S L) (h : t ≤ u) (x : IsUntil handled w u m s) where
  abbrev AllBefore : ℕ → Type 0
  AllBefore j = (i : ℕ) → i < j → begins_before t (after handled w i s).pending ≡ true

  one_more : (j : ℕ) → AllBefore j → begins_before t (after handled w j s).pending ≡ true → AllBefore (suc j)
  one_more j before now i l = elim (cases_lt i j) [
    | inl k ↦ before i k
    | inr k ↦ subst (λ a. begins_before t (after handled w a s).pending ≡ true) {x = j} {y = i} (omega arith) now
  ]

  here : (j : ℕ) → AllBefore j → begins_before t (after handled w j s).pending ≡ false → (n : ℕ) × IsUntil handled w t n s
  here j before d = (j, record { each = before; done = d })

  -- so many steps before the last
  until_from : (k j : ℕ) → k + j ≡ m → AllBefore j → (n : ℕ) × IsUntil handled w t n s
  until_from zero j e before =
      let late : j ≡ m = omega arith in
      let none : begins_before u (after handled w j s).pending ≡ false = subst (λ i. begins_before u (after handled w i s).pending ≡ false) (sym late) x.done in
      elim (cases_Bool (begins_before t (after handled w j s).pending)) [
        | inl c ↦ absurd (false≢true (sym none ∙ begins_sooner t u (after handled w j s).pending h c))
        | inr c ↦ here j before c
      ]
  until_from (suc k) j e before = elim (cases_Bool (begins_before t (after handled w j s).pending)) [
    | inl c ↦ until_from k (suc j) (omega arith) (one_more j before c)
    | inr c ↦ here j before c
  ]

  until_sooner : (n : ℕ) × IsUntil handled w t n s
  until_sooner = until_from m 0 (omega arith) (λ i l. absurd (omega arith))

pub stands : {S L : Type 0} (b : Behaviour S L) (w : Wiring) (l : Limits) (s : State S L) (o : Outcome) (t : ℕ) → IsRun b w l s o → l.origin < t → t < o.bound → (n : ℕ) × StandsAt b w l s o t n
stands b w l s o t run above below = let u = until_sooner b.handled w t o.bound o.steps s (omega arith) run.until in (u.0, record { above = above; below = below; until = u.1 })
