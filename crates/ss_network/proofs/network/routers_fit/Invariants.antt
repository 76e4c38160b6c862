use Rattle.std.proofs.Common.{◌≡◌, None, length, slice_get, take}
use Rattle.ss_graph.specs.Checks.{first_fault}
use Rattle.mr_router.specs.Network.{routes}
use Rattle.ss_network.specs.Marks.{AreMarked}
use Rattle.ss_network.specs.Network.{below_checks, router_by, router_ids}
use Rattle.ss_network.proofs.network.routers_fit.Given as goal

abbrev pub invariant-loop-index : goal.invariant-loop-index
invariant-loop-index l = record {
  passed : first_fault (below_checks l.index (λ i. router_by l.first (router_ids (take i l.members)) i (slice_get l.members i))) ≡ None;
  marked : AreMarked (router_ids (take l.index l.members)) l.marks.items;
  size : length l.marks.items ≡ (routes l.first.topology).routers;
}
