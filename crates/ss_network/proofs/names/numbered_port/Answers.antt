use Rattle.std.proofs.Common.{◌≡◌, ◌∙◌, sym, arith}
use Rattle.ss_network.proofs.Decimals.{numbered_none, numbered_some, port_text_once}
use Rattle.ss_network.proofs.names.numbered_port.Goals as goal

pub returns-in-None : goal.returns-in-None
returns-in-None c = sym (numbered_none c.args.ports c.args.text.now (λ k l e. c.in-None.ensures k (let h = c.ranges.ports in omega (arith, l, h)) e))

pub returns-then-port-ports : goal.returns-then-port-ports
returns-then-port-ports c = sym (numbered_some c.args.ports c.in-Some.port c.args.text.now (let h = c.ranges.ports in omega (arith, h)) c.if-port-ports.true c.in-Some.ensures)

pub returns-else-port-ports : goal.returns-else-port-ports
returns-else-port-ports c =
    sym (numbered_none c.args.ports c.args.text.now (λ k l e.
    let z : c.in-Some.port ≡ k = port_text_once c.in-Some.port k (let h = c.type_inv in omega arith) (let h = c.ranges.ports in omega (arith, l, h)) (sym c.in-Some.ensures ∙ e) in
    let f = c.if-port-ports.false in
    omega (arith, l, f, z)))
