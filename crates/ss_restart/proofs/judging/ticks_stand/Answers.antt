use Rattle.std.proofs.Common.{◌≡◌, ℕ, ◌+◌, ap, ◌∙◌, arith, inl, inr}
use Rattle.std.proofs.lemmas.Bool.{cases_lt}
use Rattle.ss_element.specs.Index.{entries}
use Rattle.ss_safe.specs.Sound.{TickSound}
use Rattle.ss_ckpt.specs.Views.{state_of}
use Rattle.ss_restart.proofs.Clocks.{all_counted, past_lines}
use Rattle.ss_restart.proofs.judging.ticks_stand.Goals as goal

pub overflow_add-clock-end-2 : goal.overflow_add-clock-end-2
overflow_add-clock-end-2 g c =
    let all : c.counts-links.result.0 + c.counts-links.result.1 + c.counts-links.result.2 ≡ entries c.args.saved.now.model.wires = ap (λ (q : ℕ × ℕ × ℕ). q.0 + q.1 + q.2) c.counts-links.ensures ∙ all_counted c.args.saved.now.model.wires in
    omega (arith, all, c.requires.ready.numbered)

pub returns : goal.returns
returns g c =
    let all : c.counts-links.result.0 + c.counts-links.result.1 + c.counts-links.result.2 ≡ entries c.args.saved.now.model.wires = ap (λ (q : ℕ × ℕ × ℕ). q.0 + q.1 + q.2) c.counts-links.ensures ∙ all_counted c.args.saved.now.model.wires in
    λ i.
    elim (cases_lt i c.loop-clock.clock) as (λ o. TickSound g.E.Element.kind c.args.saved.now.model.wires c.args.saved.now.time (state_of c.args.saved.now) i) [
      | inl h ↦ c.loop-clock.invariant i h
      | inr h ↦ past_lines g.E.Element.kind c.args.saved.now.model.wires c.args.saved.now.time (state_of c.args.saved.now) i (omega (arith, h, all, c.loop-clock-test.false))
    ]
