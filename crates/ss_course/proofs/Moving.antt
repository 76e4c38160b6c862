-- Runs that move alike: from a time on they come to the same states, with the same lines behind some that only the first has.
use Rattle.std.proofs.Common.{◌≡◌, ℕ, zero, suc, ◌+◌, ◌-◌, ◌<◌, List, [], ◌++◌, refl, sym, ap, ◌∙◌, subst, arith, append_assoc, append-nil}
use Rattle.ss_model.specs.declared.Cause.{Cause}
use Rattle.ss_model.specs.declared.Line.{Line}
use Rattle.ss_model.specs.Wiring.{Wiring}
use Rattle.ss_model.specs.Step.{State, Reaction, step_lines, after, lines, IsUntil}
use Rattle.ss_model.proofs.Runs.{until_one, after_add, until_both}
use Rattle.ss_run.specs.Meaning.{Opening}
use Rattle.ss_rest.proofs.Resting.{until_rest}

module _ {S L : Type 0} (handled : S → ℕ → Cause L → Reaction S L) where
  module _ (p q : Opening S L) (front : List Line) where
    -- so many steps in each lead to the same state and the same lines
    pub record Meets (n i : ℕ) : Type 0 where
      pub state : after handled p.wires n p.state ≡ after handled q.wires i q.state
      pub lines : lines handled p.wires n p.state ≡ front ++ lines handled q.wires i q.state

    -- the steps in the other that meet so many steps to a time
    pub record MetBy (u n : ℕ) : Type 0 where
      pub steps : ℕ
      pub until : IsUntil handled q.wires u steps q.state
      pub meets : Meets n steps

    pub record Meeting (u i : ℕ) : Type 0 where
      pub steps : ℕ
      pub until : IsUntil handled p.wires u steps p.state
      pub meets : Meets steps i

    pub record MoveAlike (from : ℕ) : Type 0 where
      pub onward : (u n : ℕ) → from < u → IsUntil handled p.wires u n p.state → MetBy u n
      pub back : (u i : ℕ) → from < u → IsUntil handled q.wires u i q.state → Meeting u i

  -- a run moves as itself
  pub moves_alone : (p : Opening S L) (from : ℕ) → MoveAlike p p [] from
  moves_alone p from = record {
    onward = λ u n h x. record { steps = n; until = x; meets = record { state = refl; lines = refl } };
    back = λ u i h x. record { steps = i; until = x; meets = record { state = refl; lines = refl } };
  }

  -- the lines of steps after steps
  pub lines_add : (w : Wiring) (m n : ℕ) (s : State S L) → lines handled w (m + n) s ≡ lines handled w m s ++ lines handled w n (after handled w m s)
  lines_add w m zero s = ap (λ k. lines handled w k s) {x = m + 0} {y = m} (omega arith) ∙ sym (append-nil (lines handled w m s))
  lines_add w m (suc n) s =
      ap (λ k. lines handled w k s) {x = m + suc n} {y = suc (m + n)} (omega arith)
      ∙ ap (λ ls. ls ++ step_lines handled w (after handled w (m + n) s)) (lines_add w m n s)
      ∙ ap (λ a. (lines handled w m s ++ lines handled w n (after handled w m s)) ++ step_lines handled w a) (after_add handled w m n s)
      ∙ append_assoc (lines handled w m s) (lines handled w n (after handled w m s)) (step_lines handled w (after handled w n (after handled w m s)))

  -- a run from the state at a time moves as the one that came to it
  module _ (p : Opening S L) (t n : ℕ) (at : IsUntil handled p.wires t n p.state) where
    abbrev w : Wiring
    w = p.wires

    abbrev s : State S L
    s = p.state

    abbrev pub resumed : Opening S L
    resumed = record { wires = p.wires; time = t; state = after handled p.wires n p.state }

    met : (i : ℕ) → Meets p resumed (lines handled p.wires n p.state) (n + i) i
    met i = record { state = after_add handled w n i s; lines = lines_add w n i s }

    parts : (u m : ℕ) → t < u → IsUntil handled w u m s → n + (m - n) ≡ m
    parts u m h x = until_one handled w u (n + (m - n)) m s (until_both handled w t u n (m - n) s (omega arith) at (until_rest handled w t u m n s (omega arith) at x)) x

    pub moves_on : MoveAlike p resumed (lines handled p.wires n p.state) t
    moves_on = record {
      onward = λ u m h x. record {
        steps = m - n;
        until = until_rest handled w t u m n s (omega arith) at x;
        meets = subst (λ k. Meets p resumed (lines handled p.wires n p.state) k (m - n)) (parts u m h x) (met (m - n));
      };
      back = λ u i h x. record { steps = n + i; until = until_both handled w t u n i s (omega arith) at x; meets = met i };
    }
