use Rattle.std.proofs.Common.{◌≡◌, None, slice_get}
use Rattle.ss_graph.specs.Checks.{first_fault}
use Rattle.ss_network.specs.Network.{below_checks, ports_by}
use Rattle.ss_network.proofs.links.ports_fit.Given as goal

abbrev pub invariant-loop-index : goal.invariant-loop-index
invariant-loop-index l = first_fault (below_checks l.index (λ i. ports_by l.wires l.members i (slice_get l.members i))) ≡ None
