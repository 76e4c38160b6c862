-- What events carry, and when it may come.
use Rattle.std.specs.Prelude.{ℕ, ◌-◌, ◌^◌, ◌==◌, ◌&&◌, nat_le, nat_lt, Bool, true, false, Option, Some, None}
use Rattle.std.specs.List.{list_all}
use Rattle.mr_flow.specs.declared.Packet.{Packet}
use Rattle.mr_flow.specs.declared.NetLoad.{NetLoad}
use Rattle.mr_flow.specs.declared.NetLoad.TheVariants as net
use Rattle.mr_flow.specs.declared.Load.{Load}
use Rattle.mr_flow.specs.declared.Load.TheVariants as load
use Rattle.mr_flow.specs.declared.Bounds.{Bounds}
use Rattle.mr_flow.specs.Queue.{Row, flits_of}

-- what a load weighs: whether it is a packet or a credit, its channel and its flits
abbrev pub net_weight : NetLoad → Option (Bool × ℕ × ℕ)
net_weight (net.Packet c p) = Some (true, c, p.flits)
net_weight (net.Credit c flits) = Some (false, c, flits)

abbrev pub load_weight : Load → Option (Bool × ℕ × ℕ)
load_weight (load.Core n) = None
load_weight (load.Net y) = net_weight y

-- a packet that may be in a network at a time: it is between endpoints, of one of the virtual networks, of a size for which each
-- queue has room, and was made before the time. Its number and its tag are within 8 bytes
abbrev pub packet_fits : Bounds → ℕ → Packet → Bool
packet_fits b at p = nat_lt p.src b.endpoints && (nat_lt p.dst b.endpoints && (nat_lt p.vn b.vns && (nat_le 1 p.flits && (nat_le p.flits b.least && (nat_lt p.born at && (nat_le p.seq (2 ^ 64 - 1) && nat_le p.tag (2 ^ 64 - 1)))))))

-- a packet of a virtual network
abbrev pub is_of : Bounds → ℕ → ℕ → Packet → Bool
is_of b vn at p = (p.vn == vn) && packet_fits b at p

-- a queue that holds no more than it may, and of one virtual network
abbrev pub row_fits : Bounds → ℕ → ℕ → Row → Bool
row_fits b vn at q = nat_le (flits_of q.packets) q.capacity && list_all (is_of b vn at) q.packets
