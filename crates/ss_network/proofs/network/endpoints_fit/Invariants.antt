use Rattle.std.proofs.Common.{◌≡◌, None, length, slice_get, take}
use Rattle.ss_graph.specs.Checks.{first_fault}
use Rattle.mr_router.specs.Network.{routes}
use Rattle.ss_network.specs.Marks.{AreMarked}
use Rattle.ss_network.specs.Network.{below_checks, endpoint_by, endpoint_ids, least}
use Rattle.ss_network.proofs.network.endpoints_fit.Given as goal

abbrev pub invariant-loop-index : goal.invariant-loop-index
invariant-loop-index l = record {
  passed : first_fault (below_checks l.index (λ i. endpoint_by l.first (endpoint_ids (take i l.members)) (least l.members) i (slice_get l.members i))) ≡ None;
  marked : AreMarked (endpoint_ids (take l.index l.members)) l.marks.items;
  size : length l.marks.items ≡ (routes l.first.topology).endpoints;
}
