-- What a router does, after Merlin's high-radix router.
use Rattle.std.specs.Prelude.{ℕ, ◌+◌, ◌*◌, ◌/◌, ◌%◌, ◌^◌, ◌==◌, ◌&&◌, min, nat_le, nat_lt, Bool, true, false, not, List, [], ◌∷◌, ◌++◌, length, map, slice_set, slice_index_or, if◌then◌else◌, Option, Some, None}
use Rattle.std.specs.List.{flat_map, list_all, range_with_len}
use Rattle.ss_model.specs.declared.Cause.{Cause}
use Rattle.ss_model.specs.declared.Cause.TheVariants as cause
use Rattle.ss_model.specs.declared.Action.{Action}
use Rattle.ss_model.specs.declared.Action.TheVariants as action
use Rattle.ss_model.specs.Step.{Reaction}
use Rattle.ss_stats.specs.Set.{Entry}
use Rattle.ss_tally.specs.Tally.{added as tallied_at}
use Rattle.mr_flow.specs.declared.Packet.{Packet}
use Rattle.mr_flow.specs.declared.NetLoad.{NetLoad}
use Rattle.mr_flow.specs.declared.NetLoad.TheVariants as net
use Rattle.mr_flow.specs.declared.Load.{Load}
use Rattle.mr_flow.specs.declared.Load.TheVariants as load
use Rattle.mr_flow.specs.Queue.{room, head}
use Rattle.mr_flow.specs.Side.{Side, channels, input, output, arrived, queued, taken, sent, pumped, is_idle}
use Rattle.mr_topo.specs.Routes.{flow_of}
use Rattle.mr_arb.specs.declared.Request.{Request}
use Rattle.mr_arb.specs.declared.turn.Turn.{Turn}
use Rattle.mr_arb.specs.Arbitrating.{picks}
use Rattle.mr_router.specs.declared.settings.RouterSettings.{RouterSettings}
use Rattle.mr_router.specs.declared.port.Port.{Port}
use Rattle.mr_router.specs.Network.{routes}

-- a router: its settings, its ports, the number of slots and the turns of its outputs, and its statistics with the place of `sent`
-- among them
pub record Switch : Type 0 where
  pub set : RouterSettings
  pub ports : List Port
  pub slots : ℕ
  pub turns : List Turn
  pub stats : List Entry
  pub sent : Option ℕ

-- a port that a router doesn't have
abbrev pub no_line : Side
no_line = record { inputs = []; outputs = []; credits = []; line_free = 0; pump = 0; flit_time = 0 }

abbrev pub no_port : Port
no_port = record { line = no_line; in_free = 0; cross_free = 0; most = 0 }

abbrev pub port_at : List Port → ℕ → Port
port_at ports i = slice_index_or ports i no_port

-- how many input queues a port has in the numbering of slots
abbrev pub width : RouterSettings → ℕ
width set = set.vns * (routes set.topology).channels

-- the port and the channel by which a packet leaves
abbrev pub way : RouterSettings → Packet → ℕ × ℕ
way set p = (routes set.topology).route set.id (flow_of p)

-- ---- arrival

abbrev pub port_arrived : Port → NetLoad → Port
port_arrived p y = record p { line = arrived p.line y }

-- ---- first step: each port sends a packet at most

abbrev pub port_pumped : ℕ → Port → Port
port_pumped now p = record p { line = pumped p.line now }

abbrev pub sends_of : ℕ → Option (ℕ × Packet × ℕ) → List (Action Load)
sends_of i None = []
sends_of i (Some (c, p, extra)) = action.Send i extra (load.Net (net.Packet c p)) ∷ []

-- what the ports from one on send
abbrev pub all_sent : ℕ → ℕ → List Port → List (Action Load)
all_sent now i [] = []
all_sent now i (p ∷ ports) = sends_of i (sent p.line now) ++ all_sent now (i + 1) ports

-- the flits of each packet that is sent are a value of the statistic `sent`
abbrev pub counted : Option ℕ → List Entry → Option (ℕ × Packet × ℕ) → List Entry
counted place set None = set
counted place set (Some (c, p, extra)) = tallied_at set place p.flits

abbrev pub all_counted : ℕ → Option ℕ → List Entry → List Port → List Entry
all_counted now place set [] = set
all_counted now place set (p ∷ ports) = all_counted now place (counted place set (sent p.line now)) ports

-- ---- second step: each output takes a packet at most from the crossbar

-- how long a packet takes through the crossbar. No queue may hold more than passes in 2^40 picoseconds
abbrev pub crossing : RouterSettings → Packet → ℕ
crossing set p = min (p.flits * set.period) (2 ^ 40)

-- a packet in front of an input queue asks for the output of its route, where that is free and its queue has room
abbrev pub asks_by : RouterSettings → List Port → ℕ → ℕ → ℕ → Packet → List Request
asks_by set ports now i c p =
    if nat_le (port_at ports (way set p).0).cross_free now && nat_le p.flits (room (output (port_at ports (way set p).0).line (way set p).1))
    then record { slot = i * width set + c; input = i; output = (way set p).0; born = p.born } ∷ []
    else []

abbrev pub asks_of : RouterSettings → List Port → ℕ → ℕ → ℕ → Option Packet → List Request
asks_of set ports now i c None = []
asks_of set ports now i c (Some p) = asks_by set ports now i c p

-- the requests of a port's input queues, if its input is free
abbrev pub port_asks : RouterSettings → List Port → ℕ → ℕ → List Request
port_asks set ports now i =
    if nat_lt now (port_at ports i).in_free
    then []
    else flat_map (λ c. asks_of set ports now i c (head (input (port_at ports i).line c))) (range_with_len 0 (channels (port_at ports i).line))

abbrev pub all_asks : RouterSettings → List Port → ℕ → List Request
all_asks set ports now = flat_map (port_asks set ports now) (range_with_len 0 (length ports))

-- a packet leaves channel c of input port i, and goes to the back of the output queue of its route; both ports are busy for its flits' time
abbrev pub given : RouterSettings → ℕ → ℕ → Packet → Port → Port
given set now c p port = record port { line = taken port.line c; in_free = now + crossing set p }

abbrev pub received : RouterSettings → ℕ → Packet → Port → Port
received set now p port = record port { line = queued port.line (way set p).1 p; cross_free = now + crossing set p }

abbrev pub changed : List Port → ℕ → (Port → Port) → List Port
changed ports i f = slice_set ports i (f (port_at ports i))

abbrev pub moved : RouterSettings → ℕ → ℕ → ℕ → Packet → List Port → List Port
moved set now i c p ports = changed (changed ports i (given set now c p)) (way set p).0 (received set now p)

-- a grant of a slot moves the packet in front of its queue, and sends a credit back for it
abbrev pub crossed_if : RouterSettings → ℕ → ℕ → ℕ → Packet → List Port → Bool → List Port × List (Action Load)
crossed_if set now i c p ports true = (moved set now i c p ports, action.Send i 0 (load.Net (net.Credit c p.flits)) ∷ [])
crossed_if set now i c p ports false = (ports, [])

abbrev pub crossed_by : RouterSettings → ℕ → ℕ → ℕ → List Port → Option Packet → List Port × List (Action Load)
crossed_by set now i c ports None = (ports, [])
crossed_by set now i c ports (Some p) = crossed_if set now i c p ports (nat_le p.flits (room (output (port_at ports (way set p).0).line (way set p).1)))

abbrev pub crossed : RouterSettings → ℕ → List Port → ℕ → List Port × List (Action Load)
crossed set now ports slot = crossed_by set now (slot / width set) (slot % width set) ports (head (input (port_at ports (slot / width set)).line (slot % width set)))

-- the grants of the outputs in ascending order
abbrev pub all_crossed : RouterSettings → ℕ → List Port → List ℕ → List Port × List (Action Load)
all_crossed set now ports [] = (ports, [])
all_crossed set now ports (slot ∷ slots) =
    let one = crossed set now ports slot in
    let rest = all_crossed set now one.0 slots in
    (rest.0, one.1 ++ rest.1)

-- ---- the whole

abbrev pub all_idle : List Port → Bool
all_idle ports = list_all (λ p. is_idle p.line) ports

abbrev pub still : Switch → Reaction Switch Load
still x = record { state = x; actions = [] }

-- a tick: pump, crossbar, and the clock off where all queues are empty
abbrev pub ticked : Switch → ℕ → Reaction Switch Load
ticked x now =
    let lines = map (port_pumped now) x.ports in
    let picked = picks x.slots 0 x.turns (all_asks x.set lines now) in
    let over = all_crossed x.set now lines picked.1 in
    record {
      state = record x { ports = over.0; turns = picked.0; stats = all_counted now x.sent x.stats x.ports };
      actions = all_sent now 0 x.ports ++ over.1 ++ (if all_idle over.0 then action.ClockOff 0 ∷ [] else []);
    }

-- something arrives at a port: a packet turns the clock on where it is off
abbrev pub turns_on : Switch → NetLoad → List (Action Load)
turns_on x (net.Packet c p) = if all_idle x.ports then action.ClockOn 0 ∷ [] else []
turns_on x (net.Credit c flits) = []

abbrev pub heard : Switch → ℕ → NetLoad → Reaction Switch Load
heard x i y = record { state = record x { ports = changed x.ports i (λ p. port_arrived p y) }; actions = turns_on x y }

abbrev pub router_handled : Switch → ℕ → Cause Load → Reaction Switch Load
router_handled x now cause.Start = still x
router_handled x now (cause.Link i (load.Core n)) = still x
router_handled x now (cause.Link i (load.Net y)) = heard x i y
router_handled x now (cause.Own line y) = still x
router_handled x now (cause.Tick clock) = ticked x now

-- the clock is on exactly where some queue isn't empty
abbrev pub router_ticks : Switch → ℕ → Bool
router_ticks x clock = (clock == 0) && not (all_idle x.ports)
