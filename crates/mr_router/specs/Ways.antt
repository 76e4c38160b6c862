-- The ways that a router keeps for the packets in front of its queues.
use Rattle.std.specs.Prelude.{◌≡◌, ◌==◌, ◌&&◌, Bool, true, List, Option}
use Rattle.std.specs.List.{All}
use Rattle.std.specs.Option.{ForSome}
use Rattle.mr_flow.specs.declared.Packet.{Packet}
use Rattle.mr_router.specs.declared.settings.RouterSettings.{RouterSettings}
use Rattle.mr_router.specs.declared.ways.Way.{Way}
use Rattle.mr_router.specs.Router.{way}

-- whether a packet is from a way's source to its destination on its virtual network
abbrev pub goes : Way → Packet → Bool
goes w p = ((p.src == w.src) && (p.dst == w.dst)) && (p.vn == w.vn)

-- each such packet leaves by its port and channel
abbrev pub IsWay : RouterSettings → Way → Type 0
IsWay set w = (p : Packet) → goes w p ≡ true → way set p ≡ (w.port, w.channel)

-- each way that is kept is right
abbrev pub AreWays : RouterSettings → List (Option Way) → Type 0
AreWays set ways = All (λ w. ForSome w (IsWay set)) ways
