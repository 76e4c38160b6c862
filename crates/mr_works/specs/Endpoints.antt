-- What a network's order reads off endpoints.
use Rattle.std.specs.Prelude.{ℕ, zero, suc, ◌==◌, ◌&&◌, nat_lt, nat_le, List, [], ◌∷◌, ◌++◌, if◌then◌else◌, Option, Some, None}
use Rattle.ss_model.specs.declared.Cause.{Cause}
use Rattle.ss_model.specs.declared.Cause.TheVariants as cause
use Rattle.mr_flow.specs.declared.Packet.{Packet}
use Rattle.mr_flow.specs.declared.Load.{Load}
use Rattle.mr_flow.specs.Queue.{room, head}
use Rattle.mr_flow.specs.Side.{Side, input, output}
use Rattle.mr_topo.specs.Routes.{Flow, flow_of}
use Rattle.mr_nic.specs.declared.nic.Endpoint.{Endpoint}
use Rattle.mr_nic.specs.Endpoint.{networks, next_packet}
use Rattle.mr_order.specs.Rows.{Rows, only_if}
use Rattle.mr_order.specs.Ways.{Ways}
use Rattle.mr_works.specs.Flows.{same_flow, carries}

-- an endpoint has one port
abbrev pub endpoint_rows : Rows Endpoint Load Packet
endpoint_rows = record {
  inputs = λ n p ch. only_if (p == 0) (input n.link ch).packets;
  outputs = λ n p ch. only_if (p == 0) (output n.link ch).packets;
  carries = carries;
  free = λ n p. n.link.line_free;
}

-- the packet that a tick injects: the next one, where there is one and it finds room
abbrev pub injected_at : Endpoint → ℕ → List Packet
injected_at n now = if nat_lt n.sent n.total && nat_le n.flits (room (output n.link (next_packet n now).vn)) then next_packet n now ∷ [] else []

-- the packets that it delivers: those in front of the input queues, by network
abbrev pub in_front : Option Packet → List Packet
in_front None = []
in_front (Some p) = p ∷ []

abbrev pub fronts : Side → ℕ → List Packet
fronts s zero = []
fronts s (suc k) = fronts s k ++ in_front (head (input s k))

abbrev pub injects : Endpoint → ℕ → Cause Load → List Packet
injects n now cause.Start = []
injects n now (cause.Link p y) = []
injects n now (cause.Own i y) = []
injects n now (cause.Tick i) = injected_at n now

abbrev pub delivers : Endpoint → ℕ → Cause Load → List Packet
delivers n now cause.Start = []
delivers n now (cause.Link p y) = []
delivers n now (cause.Own i y) = []
delivers n now (cause.Tick i) = fronts n.link (networks n)

-- an endpoint's own flows, to endpoints and on networks that there are, begin at its port, on the channel of their network; what
-- comes to an endpoint ends there
abbrev pub endpoint_ways : Ways Endpoint Load Packet Flow
endpoint_ways = record {
  rows = endpoint_rows;
  flow = flow_of;
  same = same_flow;
  way = λ n f. None;
  begins = λ n f. if (f.src == n.id) && (nat_lt f.dst n.peers && nat_lt f.vn n.vns) then Some (0, f.vn) else None;
  injects = injects;
  delivers = delivers;
}
