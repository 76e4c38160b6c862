use Rattle.std.proofs.Common.{◌≡◌, ℕ, length, ap, arith, below_more, inl, inr}
use Rattle.std.proofs.lemmas.Bool.{cases_lt}
use Rattle.std.proofs.lemmas.Result.{err_from_is_err_and}
use Rattle.ss_safe.specs.Sound.{FlowSound}
use Rattle.ss_ckpt.specs.Views.{state_of}
use Rattle.ss_restart.proofs.Ways.{past_links}
use Rattle.ss_restart.proofs.flows.flows_match.Goals as goal

pub returns-in_err-line_matches : goal.returns-in_err-line_matches
returns-in_err-line_matches g c =
    let p = err_from_is_err_and c.from_residual.result c.from_residual.ensures.1 in
    let f = c.in_err-line_matches.ensures in
    rw (p.1, p.2) (record { line = c.loop-line.line; channel = f.place; is = f.is; before = c.loop-line.invariant; first = f.first })

pub loop-line-preserved : goal.loop-line-preserved
loop-line-preserved g c = below_more (λ n. (ch : ℕ) → FlowSound g.E.Element.kind c.args.saved.now.model.wires c.args.saved.now.time (state_of c.args.saved.now) n ch) c.loop-line.line c.loop-line.invariant c.in_ok-line_matches.ensures

pub returns : goal.returns
returns g c =
    let links : c.counts-links.result.0 ≡ length c.args.saved.now.model.wires.links = ap (λ (q : ℕ × ℕ × ℕ). q.0) c.counts-links.ensures in
    λ l ch.
    elim (cases_lt l c.loop-line.line) as (λ o. FlowSound g.E.Element.kind c.args.saved.now.model.wires c.args.saved.now.time (state_of c.args.saved.now) l ch) [
      | inl h ↦ c.loop-line.invariant l h ch
      | inr h ↦ past_links g.E.Element.kind c.args.saved.now.model.wires c.args.saved.now.time (state_of c.args.saved.now) c.requires.ready l ch (omega (arith, h, links, c.loop-line-test.false))
    ]
