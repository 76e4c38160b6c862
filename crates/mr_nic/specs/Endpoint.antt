-- What an endpoint does, step by step of a tick. The steps are opaque to searches, so that what is proved of one is stated once.
use Rattle.std.specs.Prelude.{◌≡◌, ℕ, zero, suc, ◌+◌, ◌*◌, ◌-◌, ◌/◌, ◌%◌, ◌<◌, ◌≤◌, ◌^◌, ◌==◌, nat_lt, nat_le, Bool, true, false, not, ◌&&◌, ◌||◌, List, [], ◌∷◌, ◌++◌, length, replicate, slice_index, slice_set, if◌then◌else◌, Option, Some, None, codes, decimal, IfSome}
use Rattle.ss_model.specs.declared.Cause.{Cause}
use Rattle.ss_model.specs.declared.Cause.TheVariants as cause
use Rattle.ss_model.specs.declared.Action.{Action}
use Rattle.ss_model.specs.declared.Action.TheVariants as action
use Rattle.ss_model.specs.Step.{Reaction}
use Rattle.ss_stats.specs.Set.{Entry, place_of}
use Rattle.ss_tally.specs.Tally.{added}
use Rattle.mr_flow.specs.declared.Packet.{Packet}
use Rattle.mr_flow.specs.declared.NetLoad.{NetLoad}
use Rattle.mr_flow.specs.declared.NetLoad.TheVariants as net
use Rattle.mr_flow.specs.declared.Load.{Load}
use Rattle.mr_flow.specs.declared.Load.TheVariants as load
use Rattle.mr_flow.specs.Queue.{room, head}
use Rattle.mr_flow.specs.Side.{channels, input, output, fresh, arrived, queued, taken, sent, pumped, is_idle, HasRoom}
use Rattle.mr_link.specs.declared.NicSettings.{NicSettings}
use Rattle.mr_nic.specs.declared.pattern.Pattern.{Pattern}
use Rattle.mr_nic.specs.declared.pattern.Pattern.TheVariants as pattern
use Rattle.mr_nic.specs.declared.nic.Source.{Source}
use Rattle.mr_nic.specs.declared.nic.Source.TheVariants as source
use Rattle.mr_nic.specs.declared.nic.Places.{Places}
use Rattle.mr_nic.specs.declared.nic.Endpoint.{Endpoint}
use Rattle.mr_nic.specs.Pattern.{destination, IsFor}

-- nothing changes, and nothing is asked for
abbrev pub still : Endpoint → Reaction Endpoint Load
still n = record { state = n; actions = [] }

-- one thing after another
abbrev pub then_ : Reaction Endpoint Load → (Endpoint → Reaction Endpoint Load) → Reaction Endpoint Load
then_ r f = let s = f r.state in record { state = s.state; actions = r.actions ++ s.actions }

-- one number more, as far as a field holds it
abbrev pub next_number : ℕ → ℕ
next_number n = if nat_lt n (2 ^ 64 - 1) then n + 1 else n

-- how many virtual networks there are
abbrev pub networks : Endpoint → ℕ
networks n = channels n.link

-- ---- statistics

-- where the statistics stand in a set
abbrev pub places_of : List Entry → Places
places_of set = record {
  sent = place_of set (codes "sent");
  received = place_of set (codes "received");
  latency = place_of set (codes "latency");
  out_of_order = place_of set (codes "out_of_order");
}

-- each place that there is is one of so many
pub record PlacesWithin (p : Places) (count : ℕ) : Type 0 where
  pub sent : IfSome p.sent (λ i. i < count)
  pub received : IfSome p.received (λ i. i < count)
  pub latency : IfSome p.latency (λ i. i < count)
  pub out_of_order : IfSome p.out_of_order (λ i. i < count)

-- an endpoint with as many networks and statistics, in the same places
pub record SameShape (n m : Endpoint) : Type 0 where
  pub networks : networks m ≡ networks n
  pub places : m.places ≡ n.places
  pub stats : length m.stats ≡ length n.stats

-- ---- packets that are made

abbrev pub packet_of : Endpoint → ℕ → ℕ → ℕ → ℕ → Packet
packet_of n dst vn seq now = record { src = n.id; dst = dst; vn = vn; flits = n.flits; seq = seq; born = now; tag = 0 }

-- a test sends message m to each of the others in turn, and each message on one network; a generator sends by its pattern
abbrev pub packet_by : Source → Endpoint → ℕ → Packet
packet_by (source.Test verbose) n now =
    let others = n.peers - 1 in
    let m = n.sent / others in
    packet_of n ((n.id + 1 + n.sent % others) % n.peers) (m % networks n) (m / networks n) now
packet_by (source.Traffic pattern vn seed hot) n now =
    let dst = destination pattern n.id n.peers n.sent seed hot in
    packet_of n dst vn (slice_index n.next dst) now

-- the packet that is to be made next
unfoldable pub next_packet : Endpoint → ℕ → Packet
next_packet n now = packet_by n.source n now

-- a generator numbers the packets of each destination
abbrev pub numbers_after : Source → List ℕ → Packet → List ℕ
numbers_after (source.Test verbose) next p = next
numbers_after (source.Traffic pattern vn seed hot) next p = slice_set next p.dst (next_number p.seq)

-- a packet found room, and is counted
abbrev pub noted : Endpoint → Packet → Endpoint
noted n p = record n { sent = n.sent + 1; next = numbers_after n.source n.next p; stats = added n.stats n.places.sent p.flits }

abbrev pub made : Endpoint → Packet → Endpoint
made n p = noted (record n { link = queued n.link p.vn p }) p

-- ---- the steps of a tick

-- first: the next packet is made, where there is one and it finds room
unfoldable pub injected : Endpoint → ℕ → Endpoint
injected n now = if nat_lt n.sent n.total && nat_le n.flits (room (output n.link (next_packet n now).vn)) then made n (next_packet n now) else n

-- second: the line takes a packet
abbrev pub sends_packet : Option (ℕ × Packet × ℕ) → List (Action Load)
sends_packet None = []
sends_packet (Some (c, p, extra)) = action.Send 0 extra (load.Net (net.Packet c p)) ∷ []

unfoldable pub sent_out : Endpoint → ℕ → Reaction Endpoint Load
sent_out n now = record { state = record n { link = pumped n.link now }; actions = sends_packet (sent n.link now) }

-- third: on each network a packet is received. Whether a packet is out of order is told by the number that is expected of its
-- source on its network
abbrev pub slot_of : Endpoint → ℕ → Packet → ℕ
slot_of n vn p = p.src * networks n + vn

abbrev pub disorder : ℕ → ℕ → ℕ
disorder expected seq = if seq == expected then 0 else 1

abbrev pub stats_after : Endpoint → ℕ → ℕ → Packet → List Entry
stats_after n now vn p = added (added (added n.stats n.places.received p.flits) n.places.latency (now - p.born)) n.places.out_of_order (disorder (slice_index n.expected (slot_of n vn p)) p.seq)

-- a packet was received, and is counted
abbrev pub counted : Endpoint → ℕ → ℕ → Packet → Endpoint
counted n now vn p = record n { received = next_number n.received; expected = slice_set n.expected (slot_of n vn p) (next_number p.seq); stats = stats_after n now vn p }

abbrev pub received_by : Endpoint → ℕ → ℕ → Option Packet → Reaction Endpoint Load
received_by n now vn None = still n
received_by n now vn (Some p) = record {
  state = counted (record n { link = taken n.link vn }) now vn p;
  actions = action.Send 0 0 (load.Net (net.Credit vn p.flits)) ∷ [];
}

unfoldable pub received_on : Endpoint → ℕ → ℕ → Reaction Endpoint Load
received_on n now vn = received_by n now vn (head (input n.link vn))

-- on the first networks, in ascending order
abbrev pub received_to : Endpoint → ℕ → ℕ → Reaction Endpoint Load
received_to n now zero = still n
received_to n now (suc k) = then_ (received_to n now k) (λ m. received_on m now k)

unfoldable pub received_all : Endpoint → ℕ → Reaction Endpoint Load
received_all n now = received_to n now (networks n)

-- fourth: a test that is asked to says when it is done
abbrev pub is_done_by : Source → Endpoint → Bool
is_done_by (source.Test verbose) n = (n.sent == n.total) && nat_le n.total n.received
is_done_by (source.Traffic pattern vn seed hot) n = n.sent == n.total

unfoldable pub is_done : Endpoint → Bool
is_done n = is_done_by n.source n

abbrev pub done_text : Endpoint → ℕ → List ℕ
done_text n now = n.name ++ codes ": done, sent " ++ decimal n.sent ++ codes " received " ++ decimal n.received ++ codes " at " ++ decimal now ++ codes " ps\n"

abbrev pub is_verbose : Source → Bool
is_verbose (source.Test verbose) = verbose
is_verbose (source.Traffic pattern vn seed hot) = false

abbrev pub tells : Bool → Endpoint → ℕ → List (Action Load)
tells was n now = if is_verbose n.source && (not was && is_done n) then action.Print (done_text n now) ∷ [] else []

-- fifth: the clock stays on while something is to be sent or a queue has a packet
unfoldable pub is_busy : Endpoint → Bool
is_busy n = nat_lt n.sent n.total || not (is_idle n.link)

abbrev pub rests : Endpoint → List (Action Load)
rests n = if is_busy n then [] else action.ClockOff 0 ∷ []

abbrev pub ended : Bool → Endpoint → ℕ → Reaction Endpoint Load
ended was n now = record { state = n; actions = tells was n now ++ rests n }

-- the tick
unfoldable pub ticked : Endpoint → ℕ → Reaction Endpoint Load
ticked n now = then_ (then_ (sent_out (injected n now) now) (λ m. received_all m now)) (λ m. ended (is_done n) m now)

-- ---- the whole

-- the clock, from the start event on
abbrev pub is_on : Endpoint → ℕ → Bool
is_on n clock = n.begun && ((clock == 0) && is_busy n)

abbrev pub turns_on : Endpoint → NetLoad → List (Action Load)
turns_on n (net.Packet c p) = if is_on n 0 then [] else action.ClockOn 0 ∷ []
turns_on n (net.Credit c flits) = []

abbrev pub heard : Endpoint → Load → Reaction Endpoint Load
heard n (load.Core k) = still n
heard n (load.Net y) = record { state = record n { link = arrived n.link y }; actions = turns_on n y }

abbrev pub endpoint_handled : Endpoint → ℕ → Cause Load → Reaction Endpoint Load
endpoint_handled n now cause.Start = record { state = record n { begun = true }; actions = if nat_lt 0 n.total then action.ClockOn 0 ∷ [] else [] }
endpoint_handled n now (cause.Link port y) = heard n y
endpoint_handled n now (cause.Own line y) = still n
endpoint_handled n now (cause.Tick clock) = ticked n now

-- ---- what it needs

abbrev pub SourceFits : Source → Endpoint → Type 0
SourceFits (source.Test verbose) n = Unit {0}
SourceFits (source.Traffic pattern vn seed hot) n = (vn < networks n) × (hot < n.peers) × IsFor pattern n.peers

-- it is one of at least two endpoints, has a network, and knows where its statistics stand
pub record CanTick (n : Endpoint) : Type 0 where
  pub peers : 2 ≤ n.peers
  pub here : n.id < n.peers
  pub some : 1 ≤ networks n
  pub few : networks n ≤ 255
  pub source : SourceFits n.source n
  pub places : PlacesWithin n.places (length n.stats)

-- there is room for what comes
abbrev pub HearsWell : Endpoint → Load → Type 0
HearsWell n (load.Core k) = Unit {0}
HearsWell n (load.Net y) = HasRoom n.link y

abbrev pub endpoint_meets : Endpoint → Cause Load → Type 0
endpoint_meets n cause.Start = Unit {0}
endpoint_meets n (cause.Link port y) = HearsWell n y
endpoint_meets n (cause.Own line y) = Unit {0}
endpoint_meets n (cause.Tick clock) = CanTick n

-- ---- endpoints that were made

abbrev pub endpoint_by : NicSettings → ℕ → ℕ → Source → List ℕ → List Entry → Endpoint
endpoint_by set total flits from next stats = record {
  name = set.name;
  id = set.id;
  peers = set.peers;
  vns = set.vns;
  flits = flits;
  least = set.least;
  most = set.credits;
  total = total;
  source = from;
  link = fresh set.vns set.input_flits set.output_flits set.credits set.flit_time;
  begun = false;
  sent = 0;
  received = 0;
  expected = replicate (set.peers * set.vns) 0;
  next = next;
  stats = stats;
  places = places_of stats;
}

-- a test endpoint, which sends so many messages of so many flits to each of the others
abbrev pub test_nic : NicSettings → ℕ → ℕ → Bool → List Entry → Endpoint
test_nic set messages flits verbose stats = endpoint_by set ((set.peers - 1) * messages) flits (source.Test verbose) [] stats

-- a generator of so many packets, or of none where it would send to itself
abbrev pub packets_to_send : Pattern → NicSettings → ℕ → ℕ → ℕ → ℕ
packets_to_send pattern set packets seed hot = if destination pattern set.id set.peers 0 seed hot == set.id then 0 else packets

abbrev pub traffic_gen : NicSettings → Pattern → ℕ → ℕ → ℕ → ℕ → ℕ → List Entry → Endpoint
traffic_gen set pattern packets flits vn seed hot stats = endpoint_by set (packets_to_send pattern set packets seed hot) flits (source.Traffic pattern vn seed hot) (replicate set.peers 0) stats
