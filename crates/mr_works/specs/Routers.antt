-- What a network's order reads off routers.
use Rattle.std.specs.Prelude.{[], Some, None}
use Rattle.mr_flow.specs.declared.Packet.{Packet}
use Rattle.mr_flow.specs.declared.Load.{Load}
use Rattle.mr_flow.specs.Side.{input, output}
use Rattle.mr_topo.specs.Routes.{Flow, flow_of}
use Rattle.mr_router.specs.Network.{routes}
use Rattle.mr_router.specs.Router.{Switch, port_at}
use Rattle.mr_order.specs.Rows.{Rows}
use Rattle.mr_order.specs.Ways.{Ways}
use Rattle.mr_works.specs.Flows.{same_flow, carries}

abbrev pub router_rows : Rows Switch Load Packet
router_rows = record {
  inputs = λ x p ch. (input (port_at x.ports p).line ch).packets;
  outputs = λ x p ch. (output (port_at x.ports p).line ch).packets;
  carries = carries;
  free = λ x p. (port_at x.ports p).line.line_free;
}

-- each flow leaves a router by the topology's route; none begins or ends there
abbrev pub router_ways : Ways Switch Load Packet Flow
router_ways = record {
  rows = router_rows;
  flow = flow_of;
  same = same_flow;
  way = λ x f. Some ((routes x.set.topology).route x.set.id f);
  begins = λ x f. None;
  injects = λ x now why. [];
  delivers = λ x now why. [];
}
