-- What a network's order reads off elements of all kinds together: of a router or an endpoint what it reads off that one. An element of
-- a core kind has no packets.
use Rattle.std.specs.Prelude.{true, false, [], Option, None}
use Rattle.mr_flow.specs.declared.Packet.{Packet}
use Rattle.mr_flow.specs.declared.Load.{Load}
use Rattle.mr_topo.specs.Routes.{Flow, flow_of}
use Rattle.mr_router.specs.Router.{Switch}
use Rattle.mr_nic.specs.declared.nic.Endpoint.{Endpoint}
use Rattle.mr_order.specs.Rows.{Rows}
use Rattle.mr_order.specs.Ways.{Ways}
use Rattle.mr_order.specs.Numbers.{Numbering}
use Rattle.mr_order.specs.Expected.{Expecting}
use Rattle.mr_works.specs.Flows.{same_flow, carries}
use Rattle.mr_works.specs.Routers.{router_rows, router_ways}
use Rattle.mr_works.specs.Endpoints.{endpoint_rows, endpoint_ways}
use Rattle.mr_works.specs.Numbers.{router_numbering, endpoint_numbering}
use Rattle.mr_works.specs.Expected.{router_expecting, endpoint_expecting}
use Rattle.mr_works.specs.Walks.{Node, router_node, endpoint_node}
use Rattle.ss_library.specs.declared.kinds.Any.{Any}
use Rattle.ss_library.specs.declared.kinds.Any.TheVariants as any

-- one thing of routers, one of endpoints, and one of all others
abbrev pub by_part : {X : Type 0} → (Switch → X) → (Endpoint → X) → X → Any → X
by_part router endpoint other (any.Pinger p) = other
by_part router endpoint other (any.Echo e) = other
by_part router endpoint other (any.Ticker t) = other
by_part router endpoint other (any.TestNic n) = endpoint n
by_part router endpoint other (any.TrafficGen n) = endpoint n
by_part router endpoint other (any.Router r) = router r

abbrev pub any_rows : Rows Any Load Packet
any_rows = record {
  inputs = by_part router_rows.inputs endpoint_rows.inputs (λ p ch. []);
  outputs = by_part router_rows.outputs endpoint_rows.outputs (λ p ch. []);
  carries = carries;
  free = by_part router_rows.free endpoint_rows.free (λ p. 0);
}

abbrev pub any_ways : Ways Any Load Packet Flow
any_ways = record {
  rows = any_rows;
  flow = flow_of;
  same = same_flow;
  way = by_part router_ways.way endpoint_ways.way (λ f. None);
  begins = by_part router_ways.begins endpoint_ways.begins (λ f. None);
  injects = by_part router_ways.injects endpoint_ways.injects (λ now why. []);
  delivers = by_part router_ways.delivers endpoint_ways.delivers (λ now why. []);
}

abbrev pub any_numbering : Numbering Any Packet Flow
any_numbering = record {
  number = λ p. p.seq;
  count = by_part router_numbering.count endpoint_numbering.count (λ f. 0);
  sound = by_part router_numbering.sound endpoint_numbering.sound true;
}

abbrev pub any_expecting : Expecting Any Packet Flow
any_expecting = record {
  flits = λ p. p.flits;
  ends = by_part router_expecting.ends endpoint_expecting.ends (λ f. false);
  expected = by_part router_expecting.expected endpoint_expecting.expected (λ f. 0);
  sound = by_part router_expecting.sound endpoint_expecting.sound true;
  out_of_order = by_part router_expecting.out_of_order endpoint_expecting.out_of_order None;
  received = by_part router_expecting.received endpoint_expecting.received None;
}

-- what an element is in a topology
abbrev pub any_node : Any → Option Node
any_node = by_part router_node endpoint_node None
