-- Flows, and the packets that loads are.
use Rattle.std.specs.Prelude.{ℕ, ◌==◌, ◌&&◌, Bool, List, [], ◌∷◌}
use Rattle.mr_flow.specs.declared.Packet.{Packet}
use Rattle.mr_flow.specs.declared.NetLoad.{NetLoad}
use Rattle.mr_flow.specs.declared.NetLoad.TheVariants as net
use Rattle.mr_flow.specs.declared.Load.{Load}
use Rattle.mr_flow.specs.declared.Load.TheVariants as load
use Rattle.mr_topo.specs.Routes.{Flow}
use Rattle.mr_order.specs.Rows.{only_if}

-- whether two flows are one
abbrev pub same_flow : Flow → Flow → Bool
same_flow f g = (f.src == g.src) && ((f.dst == g.dst) && (f.vn == g.vn))

-- the packet of a channel, if the load is one
abbrev pub net_carries : ℕ → NetLoad → List Packet
net_carries ch (net.Packet c p) = only_if (c == ch) (p ∷ [])
net_carries ch (net.Credit c flits) = []

abbrev pub carries : ℕ → Load → List Packet
carries ch (load.Core n) = []
carries ch (load.Net y) = net_carries ch y
