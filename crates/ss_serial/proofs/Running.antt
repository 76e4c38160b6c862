-- Runs of several steps.
use Rattle.std.proofs.Common.{◌≡◌, ℕ, zero, suc, ◌+◌, ◌-◌, ◌<◌, ◌≤◌, ◌⊎◌, inl, inr, true, false, List, [], ◌∷◌, ◌++◌, Some, None, refl, sym, ap, ◌∙◌, subst, arith, append_assoc, append-nil}
use Rattle.std.proofs.lemmas.Bool.{cases_lt}
use Rattle.std.proofs.lemmas.Bool.Decides.{nat_tests}
use Rattle.ss_model.specs.declared.Event.{Event}
use Rattle.ss_model.specs.declared.Cause.{Cause}
use Rattle.ss_model.specs.declared.Line.{Line}
use Rattle.ss_model.specs.Order.{next_time, begins_before}
use Rattle.ss_model.specs.Wiring.{Wiring}
use Rattle.ss_model.specs.Step.{State, Reaction, step_lines, after, lines}
use Rattle.ss_model.proofs.Runs.{after_add}
use Rattle.ss_serial.specs.Serial.{Standing, stepped, ran, Runs, RunsUntil, time_left}

pub begins_sooner : {L : Type 0} (t u : ℕ) (es : List (Event L)) → t ≤ u → begins_before t es ≡ true → begins_before u es ≡ true
begins_sooner t u [] h b = b
begins_sooner t u (e ∷ es) h b = grind (arith, nat_tests)

module _ {S L : Type 0} (handled : S → ℕ → Cause L → Reaction S L) where
  -- the lines of steps after steps
  lines_add : (w : Wiring) (m n : ℕ) (s : State S L) → lines handled w (m + n) s ≡ lines handled w m s ++ lines handled w n (after handled w m s)
  lines_add w m zero s = ap (λ k. lines handled w k s) {x = m + 0} {y = m} (omega arith) ∙ sym (append-nil (lines handled w m s))
  lines_add w m (suc n) s =
      ap (λ k. lines handled w k s) {x = m + suc n} {y = suc (m + n)} (omega arith)
      ∙ ap (λ ls. ls ++ step_lines handled w (after handled w (m + n) s)) (lines_add w m n s)
      ∙ ap (λ a. (lines handled w m s ++ lines handled w n (after handled w m s)) ++ step_lines handled w a) (after_add handled w m n s)
      ∙ append_assoc (lines handled w m s) (lines handled w n (after handled w m s)) (step_lines handled w (after handled w n (after handled w m s)))

  ran_none : (s : Standing S L) → s ≡ ran handled 0 s
  ran_none s = ap (λ (ls : List Line). record { wires = s.wires; state = s.state; lines = ls }) (sym (append-nil s.lines))

  ran_add : (m n : ℕ) (s : Standing S L) → ran handled n (ran handled m s) ≡ ran handled (m + n) s
  ran_add m n s =
      let put : State S L → List Line → Standing S L = λ a ls. record { wires = s.wires; state = a; lines = ls } in
      ap (λ a. put a ((s.lines ++ lines handled s.wires m s.state) ++ lines handled s.wires n (after handled s.wires m s.state))) (sym (after_add handled s.wires m n s.state))
      ∙ ap (put (after handled s.wires (m + n) s.state)) (append_assoc s.lines (lines handled s.wires m s.state) (lines handled s.wires n (after handled s.wires m s.state)) ∙ ap (λ ls. s.lines ++ ls) (sym (lines_add s.wires m n s.state)))

  ran_more : (n : ℕ) (s : Standing S L) → stepped handled (ran handled n s) ≡ ran handled (suc n) s
  ran_more n s =
      let put : List Line → Standing S L = λ ls. record { wires = s.wires; state = after handled s.wires (suc n) s.state; lines = ls } in
      ap put (append_assoc s.lines (lines handled s.wires n s.state) (step_lines handled s.wires (after handled s.wires n s.state)))

  module _ (t : ℕ) where
    pub runs_none : (s : Standing S L) → Runs handled t s s
    runs_none s = record { steps = 0; each = λ k h. absurd (omega arith); is = ran_none s }

    pub runs_more : (old mid : Standing S L) → Runs handled t old mid → begins_before t mid.state.pending ≡ true → Runs handled t old (stepped handled mid)
    runs_more old mid r b = record {
      steps = suc r.steps;
      each = λ k h. by_last k (cases_lt k r.steps) h;
      is = ap (stepped handled) r.is ∙ ran_more r.steps old;
    }
      where
        by_last : (k : ℕ) → (k < r.steps) ⊎ (r.steps ≤ k) → k < suc r.steps → begins_before t (after handled old.wires k old.state).pending ≡ true
        by_last k (inl l) h = r.each k l
        by_last k (inr g) h = subst (λ j. begins_before t (after handled old.wires j old.state).pending ≡ true) {x = r.steps} {y = k} (omega arith) (subst (λ (s : Standing S L). begins_before t s.state.pending ≡ true) r.is b)

    pub runs_both : (old mid new : Standing S L) → Runs handled t old mid → Runs handled t mid new → Runs handled t old new
    runs_both old mid new r q = record {
      steps = r.steps + q.steps;
      each = λ k h. by_part k (cases_lt k r.steps) h;
      is = q.is ∙ ap (ran handled q.steps) r.is ∙ ran_add r.steps q.steps old;
    }
      where
        by_part : (k : ℕ) → (k < r.steps) ⊎ (r.steps ≤ k) → k < r.steps + q.steps → begins_before t (after handled old.wires k old.state).pending ≡ true
        by_part k (inl l) h = r.each k l
        by_part k (inr g) h =
            let there : after handled mid.wires (k - r.steps) mid.state ≡ after handled old.wires k old.state =
            ap (λ (s : Standing S L). after handled s.wires (k - r.steps) s.state) r.is
            ∙ sym (after_add handled old.wires r.steps (k - r.steps) old.state)
            ∙ ap (λ j. after handled old.wires j old.state) {x = r.steps + (k - r.steps)} {y = k} (omega arith) in
            subst (λ (s : State S L). begins_before t s.pending ≡ true) there (q.each (k - r.steps) (omega arith))

    pub runs_done : (old new : Standing S L) → Runs handled t old new → begins_before t new.state.pending ≡ false → RunsUntil handled t old new
    runs_done old new r d = record {
      steps = r.steps;
      until = record { each = r.each; done = subst (λ (s : Standing S L). begins_before t s.state.pending ≡ false) r.is d };
      is = r.is;
    }

    -- a run to a time has these two parts
    pub until_runs : (old new : Standing S L) → RunsUntil handled t old new → Runs handled t old new
    until_runs old new r = record { steps = r.steps; each = r.until.each; is = r.is }

    pub until_done : (old new : Standing S L) → RunsUntil handled t old new → begins_before t new.state.pending ≡ false
    until_done old new r = subst (λ (s : Standing S L). begins_before t s.state.pending ≡ false) (sym r.is) r.until.done

  pub runs_sooner : (t u : ℕ) (old new : Standing S L) → t ≤ u → Runs handled t old new → Runs handled u old new
  runs_sooner t u old new h r = record { steps = r.steps; each = λ k l. begins_sooner t u _ h (r.each k l); is = r.is }

-- the time to a bound falls, once nothing is left before a time later than the first event's
pub time_falls : {L : Type 0} (t now u : ℕ) (old new : List (Event L)) → next_time old ≡ Some now → now < t → now < u → begins_before u new ≡ false → time_left t new < time_left t old
time_falls t now u [] new n h k d = absurd (cc)
time_falls t now u (e ∷ es) [] n h k d = let same : e.key.time ≡ now = cc in omega arith
time_falls t now u (e ∷ es) (f ∷ fs) n h k d = let same : e.key.time ≡ now = cc in grind (arith, nat_tests)

pub nothing_before : {L : Type 0} (t : ℕ) (es : List (Event L)) → next_time es ≡ None → begins_before t es ≡ false
nothing_before t [] n = refl
nothing_before t (e ∷ es) n = absurd (cc)

pub none_yet : {L : Type 0} (t now : ℕ) (es : List (Event L)) → next_time es ≡ Some now → t ≤ now → begins_before t es ≡ false
none_yet t now [] n h = absurd (cc)
none_yet t now (e ∷ es) n h = let same : e.key.time ≡ now = cc in grind (arith, nat_tests)
