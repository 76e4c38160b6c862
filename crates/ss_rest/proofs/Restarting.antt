-- A run that goes on where another stood prints the rest, in any parts.
use Rattle.std.proofs.Common.{◌≡◌, ℕ, ◌<◌, ◌≤◌, inl, inr, ◌++◌, map, sym, ap, ◌∙◌, subst, arith}
use Rattle.std.proofs.Math.Nat.{max-le}
use Rattle.ss_model.specs.Wiring.{Wiring}
use Rattle.ss_model.specs.Step.{State, after}
use Rattle.ss_model.specs.End.{Limits, end_of, Outcome, IsRun, text_of, printed_texts}
use Rattle.ss_element.specs.Kind.{Kind, behaviour}
use Rattle.ss_window.specs.declared.Cuts.{Cuts}
use Rattle.ss_window.specs.Cuts.{IsNamed}
use Rattle.ss_window.specs.Least.{OnPeriod, IsIn}
use Rattle.ss_run.specs.declared.RunSpec.{RunSpec}
use Rattle.ss_run.specs.Meaning.{Meaning, MeaningLaws, Opening}
use Rattle.ss_run.specs.Run.{begins, wires_of, start_of, limits, IsFitting}
use Rattle.ss_rest.specs.Rest.{IsCheckpoint, IsRest, GoesOn}
use Rattle.ss_rest.specs.Restarts.{IsOutcome, state_after, lines_before, texts, Saves, Stands, IsSavedState, FollowsOn, AsksAlike, PrintsTheRest, Restarts}
use Rattle.ss_rest.proofs.Resting.{goes_on, bound_within}

-- the same times are asked for
named_same : (c d : Cuts) → d.save_at ≡ c.save_at → d.save_every ≡ c.save_every → (u : ℕ) → IsNamed c u → IsNamed d u
named_same c d e f u h = elim h [ inl a ↦ inl (subst (λ o. IsIn o u) (sym e) a) | inr a ↦ inr (subst (λ o. OnPeriod o u) (sym f) a) ]

module _ {S L : Type 0} (kind : Kind S L) (m : Meaning S L) where
  -- a checkpoint, by the limits of the run or by its times
  module _ (r : RunSpec) (fit : IsFitting kind m r) (o : Outcome) (u : ℕ) (x : State S L) where
    of_saves : Saves kind m r o u x → IsCheckpoint (behaviour kind) (wires_of m r) r.cuts (limits m r) (start_of m r) o u x
    of_saves p = record { asked = p.asked.0; above = let h : r.cuts.origin < u = p.asked.1 in omega (arith, fit.origin); below = p.below; steps = p.steps; until = p.until; is = p.is; some = p.some }

    to_saves : IsCheckpoint (behaviour kind) (wires_of m r) r.cuts (limits m r) (start_of m r) o u x → Saves kind m r o u x
    to_saves p = record { asked = (p.asked, omega (arith, fit.origin, p.above)); below = p.below; steps = p.steps; until = p.until; is = p.is; some = p.some }

  -- a fitting run stands where it has a checkpoint
  module _ (Safe : Wiring → ℕ → State S L → Type 0) (laws : MeaningLaws Safe m) (r : RunSpec) (o : Outcome) (t : ℕ) (x : State S L) (fit : IsFitting kind m r) (runs : IsOutcome kind m r o) (p : Saves kind m r o t x) where
    origin_stop : end_of (limits m r) ≤ r.cuts.stop
    origin_stop = max-le (omega arith) fit.stop_from

    stands_there : Stands kind m r o t p.steps
    stands_there = record { above = (of_saves r fit o t x p).above; below = p.below; until = p.until }

    pub saved_stands : IsSavedState kind m r o t x
    saved_stands =
        let goes = goes_on (behaviour kind) (wires_of m r) (limits m r) (start_of m r) o t p.steps runs stands_there in
        let within : o.bound ≤ end_of (limits m r) = bound_within (behaviour kind) (wires_of m r) (limits m r) (start_of m r) o.agreed o.bound runs.bound in
        let stop = origin_stop in
        record {
          steps = p.steps;
          stands = stands_there;
          is = p.is;
          from = omega (arith, stands_there.above);
          below = omega (arith, p.below, fit.stop_by);
          past = subst (λ (s : State S L). s.last < t) (sym p.is) (goes.past (laws r.graph r.origin fit.accepted).past);
        }

  module _ (r later : RunSpec) (o : Outcome) (t n : ℕ) (fit : IsFitting kind m r) (fits : IsFitting kind m later) (runs : IsOutcome kind m r o) (at : Stands kind m r o t n) (on : FollowsOn kind m r later t n) where
    abbrev from : Opening S L
    from = record { wires = wires_of m r; time = t; state = state_after kind m r n }

    -- the limits of a run that begins so, and stops and asks as the first
    abbrev within : Opening S L → Limits
    within p = record { origin = p.time; stop = r.cuts.stop; exit = r.graph.options.exit_period }

    limits_are : limits m later ≡ within (begins m later)
    limits_are = ap (λ e. record { origin = (begins m later).time; stop = e; exit = later.graph.options.exit_period }) on.stop ∙ ap (λ g. record { origin = (begins m later).time; stop = r.cuts.stop; exit = g.options.exit_period }) on.graph

    -- what is so of a run from a beginning, within limits, which is the rest
    record IsRestFrom (p : Opening S L) (l : Limits) (q : Outcome) : Type 0 where
      bound : q.bound ≡ o.bound
      agreed : q.agreed ≡ o.agreed
      prints : texts kind m r o ≡ map text_of (lines_before kind m r n) ++ printed_texts (behaviour kind) p.wires p.state q
      ends : after kind.handled p.wires q.steps p.state ≡ state_after kind m r o.steps
      still : (u : ℕ) (x : State S L) → t < u → IsCheckpoint (behaviour kind) (wires_of m r) r.cuts (limits m r) (start_of m r) o u x → IsCheckpoint (behaviour kind) p.wires r.cuts l p.state q u x
      only : (u : ℕ) (x : State S L) → IsCheckpoint (behaviour kind) p.wires r.cuts l p.state q u x → (t < u) × IsCheckpoint (behaviour kind) (wires_of m r) r.cuts (limits m r) (start_of m r) o u x

    record RunsFrom (p : Opening S L) (l : Limits) : Type 0 where
      rest : Outcome
      run : IsRun (behaviour kind) p.wires l p.state rest
      each : (q : Outcome) → IsRun (behaviour kind) p.wires l p.state q → IsRestFrom p l q

    first_goes : GoesOn (behaviour kind) (wires_of m r) (limits m r) (start_of m r) o t n
    first_goes = goes_on (behaviour kind) (wires_of m r) (limits m r) (start_of m r) o t n runs at

    each_is : (q : Outcome) → IsRest (behaviour kind) (wires_of m r) (limits m r) (start_of m r) o t n q → IsRestFrom from (within from) q
    each_is q x = record { bound = x.bound; agreed = x.agreed; prints = x.prints; ends = x.ends; still = x.still r.cuts; only = x.only r.cuts }

    runs_from : RunsFrom from (within from)
    runs_from = record { rest = first_goes.rest; run = first_goes.run; each = λ q x. each_is q (first_goes.each q x) }

    runs_later : RunsFrom (begins m later) (limits m later)
    runs_later = subst (λ l. RunsFrom (begins m later) l) (sym limits_are) (subst (λ p. RunsFrom p (within p)) (sym on.begins) runs_from)

    to_later : AsksAlike kind m r later → (q : Outcome) (u : ℕ) (x : State S L) → IsCheckpoint (behaviour kind) (wires_of m later) r.cuts (limits m later) (start_of m later) q u x → Saves kind m later q u x
    to_later same q u x p =
        to_saves later fits q u x
        (record { asked = named_same r.cuts later.cuts same.save_at same.save_every u p.asked; above = p.above; below = p.below; steps = p.steps; until = p.until; is = p.is; some = p.some })

    of_later : AsksAlike kind m r later → (q : Outcome) (u : ℕ) (x : State S L) → Saves kind m later q u x → IsCheckpoint (behaviour kind) (wires_of m later) r.cuts (limits m later) (start_of m later) q u x
    of_later same q u x y =
        let p = of_saves later fits q u x y in
        record { asked = named_same later.cuts r.cuts (sym same.save_at) (sym same.save_every) u p.asked; above = p.above; below = p.below; steps = p.steps; until = p.until; is = p.is; some = p.some }

    prints_rest : (q : Outcome) → IsRestFrom (begins m later) (limits m later) q → PrintsTheRest kind m r later o t n q
    prints_rest q x = record {
      bound = x.bound;
      agreed = x.agreed;
      prints = x.prints;
      ends = x.ends;
      still = λ same u y h p. to_later same q u y (x.still u y h (of_saves r fit o u y p));
      only = λ same u y p. let z = x.only u y (of_later same q u y p) in (z.0, to_saves r fit o u y z.1);
    }

    pub restarts : Restarts kind m r later o t n
    restarts = record { rest = runs_later.rest; run = runs_later.run; each = λ q x. prints_rest q (runs_later.each q x) }
