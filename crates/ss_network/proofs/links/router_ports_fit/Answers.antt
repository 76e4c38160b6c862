use Rattle.std.proofs.Common.{◌≡◌, ◌<◌, ℕ, None, subst, arith}
use Rattle.std.proofs.lemmas.Result.{err_from_is_err_and}
use Rattle.ss_graph.specs.Checks.{first_fault}
use Rattle.ss_graph.proofs.Judging.{passes_exit}
use Rattle.ss_network.specs.Network.{below_checks, port_checks, ports_of}
use Rattle.ss_network.proofs.Below.{below_none, below_more, below_fails}
use Rattle.ss_network.proofs.links.router_ports_fit.Goals as goal

pub loop-port-init : goal.loop-port-init
loop-port-init c = below_none (port_checks c.args.wires.now c.args.members.now c.args.index c.args.router.now)

pub loop-port-preserved : goal.loop-port-preserved
loop-port-preserved c = below_more (port_checks c.args.wires.now c.args.members.now c.args.index c.args.router.now) c.loop-port.port c.loop-port.invariant c.in_ok-port_fits.ensures

pub returns-in_err-port_fits : goal.returns-in_err-port_fits
returns-in_err-port_fits c =
    let p = err_from_is_err_and c.from_residual.result c.from_residual.ensures.1 in
    let l : c.loop-port.port < ports_of c.args.router.now = omega (arith, c.loop-port-test.true, c.ports-port-end.ensures) in
    passes_exit _ _ _ _ _ p.1 p.2 (below_fails (port_checks c.args.wires.now c.args.members.now c.args.index c.args.router.now) _ c.loop-port.port (ports_of c.args.router.now) l c.loop-port.invariant c.in_err-port_fits.ensures)

pub returns : goal.returns
returns c =
    let e : c.loop-port.port ≡ ports_of c.args.router.now = omega (arith, c.loop-port-test.false, c.loop-port.auto.port-end, c.ports-port-end.ensures) in
    subst (λ (n : ℕ). first_fault (below_checks n (port_checks c.args.wires.now c.args.members.now c.args.index c.args.router.now)) ≡ None) e c.loop-port.invariant
