use Rattle.std.proofs.Common.{◌≡◌, ℕ, List, length, slice_get, None, subst, arith}
use Rattle.std.proofs.lemmas.Result.{err_from_is_err_and}
use Rattle.ss_model.specs.Wiring.{Wiring}
use Rattle.ss_graph.specs.Checks.{Check, first_fault}
use Rattle.ss_graph.proofs.Judging.{passes_exit}
use Rattle.ss_network.specs.declared.member.Member.{Member}
use Rattle.ss_network.specs.declared.fault.MakeFault.{MakeFault}
use Rattle.ss_network.specs.Network.{ports_by, below_checks, ports_checks}
use Rattle.ss_network.proofs.Below.{below_none, below_more, below_fails}
use Rattle.ss_network.proofs.links.ports_fit.Goals as goal

abbrev each : Wiring → List Member → ℕ → List (Check MakeFault)
each w ms i = ports_by w ms i (slice_get ms i)

pub loop-index-init : goal.loop-index-init
loop-index-init c = below_none (each c.args.wires.now c.args.members.now)

pub loop-index-preserved : goal.loop-index-preserved
loop-index-preserved c = below_more (each c.args.wires.now c.args.members.now) c.loop-index.index c.loop-index.invariant c.in_ok-ports_fit_at.ensures

pub returns-in_err-ports_fit_at : goal.returns-in_err-ports_fit_at
unfolding ports_checks
returns-in_err-ports_fit_at c =
    let p = err_from_is_err_and c.from_residual.result c.from_residual.ensures.1 in
    passes_exit _ _ _ _ _ p.1 p.2 (below_fails (each c.args.wires.now c.args.members.now) _ c.loop-index.index (length c.args.members.now) (omega (arith, c.loop-index-test.true)) c.loop-index.invariant c.in_err-ports_fit_at.ensures)

pub returns : goal.returns
unfolding ports_checks
returns c =
    let e : c.loop-index.index ≡ length c.args.members.now = omega arith in
    subst (λ (n : ℕ). first_fault (below_checks n (each c.args.wires.now c.args.members.now)) ≡ None) e c.loop-index.invariant
