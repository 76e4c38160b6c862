use Rattle.std.proofs.Common.{◌≡◌, None}
use Rattle.ss_graph.specs.Checks.{first_fault}
use Rattle.ss_network.specs.Network.{below_checks, port_checks}
use Rattle.ss_network.proofs.links.router_ports_fit.Given as goal

abbrev pub invariant-loop-port : goal.invariant-loop-port
invariant-loop-port l = first_fault (below_checks l.port (port_checks l.wires l.members l.index l.router)) ≡ None
