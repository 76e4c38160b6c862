-- What routers and endpoints expect of flows, and the statistics in which endpoints tell of it.
use Rattle.std.specs.Prelude.{◌≡◌, ℕ, ◌+◌, ◌*◌, ◌==◌, ◌&&◌, nat_lt, true, false, List, length, slice_index, if◌then◌else◌, Option, Some, None, codes}
use Rattle.ss_stats.specs.declared.set.Stat.{Stat}
use Rattle.ss_stats.specs.Set.{Entry, stat_at, place_of}
use Rattle.mr_flow.specs.declared.Packet.{Packet}
use Rattle.mr_topo.specs.Routes.{Flow}
use Rattle.mr_router.specs.Router.{Switch}
use Rattle.mr_nic.specs.declared.nic.Endpoint.{Endpoint}
use Rattle.mr_order.specs.Expected.{Expecting}
use Rattle.mr_works.specs.Walks.{Node, Host, router_node, endpoint_node}

-- the first statistic of a name, if it was asked for
abbrev pub stat_in : List Entry → Option ℕ → Option Stat
stat_in set None = None
stat_in set (Some i) = stat_at set i

abbrev pub stat_named : List Entry → List ℕ → Option Stat
stat_named set name = stat_in set (place_of set name)

-- no flow ends at a router
abbrev pub router_expecting : Expecting Switch Packet Flow
router_expecting = record { flits = λ p. p.flits; ends = λ x f. false; expected = λ x f. 0; sound = λ x. true; out_of_order = λ x. None; received = λ x. None }

-- An endpoint has a number for each source and network. The flows to it end there
abbrev pub expected_of : Endpoint → Flow → ℕ
expected_of n f = if nat_lt f.src n.peers && nat_lt f.vn n.vns then slice_index n.expected (f.src * n.vns + f.vn) else 0

abbrev pub endpoint_expecting : Expecting Endpoint Packet Flow
endpoint_expecting = record {
  flits = λ p. p.flits;
  ends = λ n f. f.dst == n.id;
  expected = expected_of;
  sound = λ n. length n.expected == n.peers * n.vns;
  out_of_order = λ n. stat_named n.stats (codes "out_of_order");
  received = λ n. stat_named n.stats (codes "received");
}

-- the flows that end at an element are those to the endpoint that it is
pub record EndsAtHost {S P : Type 0} (expecting : Expecting S P Flow) (node : S → Option Node) (x : S) : Type 0 where
  pub here : (f : Flow) → node x ≡ Some (Host f.dst) → expecting.ends x f ≡ true
  pub only : (f : Flow) → expecting.ends x f ≡ true → node x ≡ Some (Host f.dst)

abbrev pub RoutersEndNone : Type 0
RoutersEndNone = (x : Switch) → EndsAtHost router_expecting router_node x

abbrev pub EndpointsEndTheirs : Type 0
EndpointsEndTheirs = (n : Endpoint) → EndsAtHost endpoint_expecting endpoint_node n
