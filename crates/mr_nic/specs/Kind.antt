-- What there is to know of endpoints: which states a run may leave, what may come, what stands on a channel.
use Rattle.std.specs.Prelude.{◌≡◌, ℕ, ◌+◌, ◌*◌, ◌<◌, ◌≤◌, ◌^◌, ◌==◌, ◌&&◌, nat_le, nat_lt, Bool, true, false, List, length, map, if◌then◌else◌}
use Rattle.std.specs.List.{list_all, range_with_len}
use Rattle.ss_model.specs.declared.Cause.{Cause}
use Rattle.ss_model.specs.declared.Cause.TheVariants as cause
use Rattle.ss_element.specs.Kind.{Kind}
use Rattle.ss_element.specs.declared.flow.Flow.{Flow}
use Rattle.ss_safe.specs.Laws.{Allowed}
use Rattle.ss_tally.specs.Tally.{StatsFit, AlikeStats}
use Rattle.mr_flow.specs.declared.Bounds.{Bounds}
use Rattle.mr_flow.specs.declared.NetLoad.{NetLoad}
use Rattle.mr_flow.specs.declared.NetLoad.TheVariants as net
use Rattle.mr_flow.specs.declared.Load.{Load}
use Rattle.mr_flow.specs.declared.Load.TheVariants as load
use Rattle.mr_flow.specs.Load.{is_of, row_fits, load_weight}
use Rattle.mr_flow.specs.Queue.{flits_of}
use Rattle.mr_flow.specs.Side.{IsWhole, input, output, credits_at, is_idle}
use Rattle.mr_flow.specs.Saved.{Lane, lanes_of}
use Rattle.mr_link.specs.declared.NicSettings.{NicSettings}
use Rattle.mr_nic.specs.declared.nic.Endpoint.{Endpoint}
use Rattle.mr_nic.specs.Endpoint.{networks, places_of, is_done, is_on, SourceFits, endpoint_handled, endpoint_meets, test_nic, traffic_gen}
use Rattle.mr_nic.specs.declared.pattern.Pattern.{Pattern}
use Rattle.mr_nic.specs.Pattern.{IsFor}
use Rattle.ss_stats.specs.Set.{Entry}
use Rattle.mr_nic.specs.Saved.{numbers_form}

-- the packets of the network
abbrev pub bounds_of : Endpoint → Bounds
bounds_of n = record { endpoints = n.peers; vns = n.vns; least = n.least }

-- what stands on a network: its queues hold packets of it that may be there, and its credits are no more than the router's queue
-- can hold
unfoldable pub lane_fits : Endpoint → ℕ → ℕ → Bool
lane_fits n at vn = row_fits (bounds_of n) vn at (input n.link vn) && (row_fits (bounds_of n) vn at (output n.link vn) && nat_le (credits_at n.link vn) n.most)

unfoldable pub endpoint_fits : Endpoint → ℕ → Bool
endpoint_fits n at = nat_le n.link.line_free (at + 2 ^ 40) && (nat_lt n.link.pump (networks n) && (list_all (lane_fits n at) (range_with_len 0 (networks n)) && nat_le n.sent n.total))

-- how many channels its line has
abbrev pub channels_in : Endpoint → ℕ
channels_in n = length (lanes_of n.link)

-- what may come over its line: a packet on a channel of its network, and a credit of no more flits than the router's queue can hold
abbrev pub comes : Endpoint → ℕ → NetLoad → Bool
comes n at (net.Packet c p) = nat_lt c (channels_in n) && is_of (bounds_of n) c at p
comes n at (net.Credit c flits) = nat_lt c (channels_in n) && (nat_le 1 flits && nat_le flits n.most)

abbrev pub load_comes : Endpoint → ℕ → ℕ → Load → Bool
load_comes n port at (load.Core k) = false
load_comes n port at (load.Net y) = (port == 0) && comes n at y

abbrev pub cause_comes : Endpoint → Cause Load → ℕ → Bool
cause_comes n cause.Start at = true
cause_comes n (cause.Link port y) at = load_comes n port at y
cause_comes n (cause.Own line y) at = false
cause_comes n (cause.Tick clock) at = true

-- what goes out over its line
abbrev pub Goes : Endpoint → NetLoad → ℕ → Type 0
Goes n (net.Packet c p) at = (c < channels_in n) × (is_of (bounds_of n) c at p ≡ true)
Goes n (net.Credit c flits) at = (c < channels_in n) × (1 ≤ flits) × (flits ≤ (input n.link c).capacity)

abbrev pub LoadGoes : Endpoint → Load → ℕ → Type 0
LoadGoes n (load.Core k) at = ⊥
LoadGoes n (load.Net y) at = Goes n y at

-- an endpoint that was made
pub record EndpointHolds (n : Endpoint) : Type 0 where
  pub peers : 2 ≤ n.peers
  pub here : n.id < n.peers
  pub some : 1 ≤ networks n
  pub count : networks n ≡ n.vns
  pub few : n.vns ≤ 255
  pub source : SourceFits n.source n
  pub places : n.places ≡ places_of n.stats
  pub stats : StatsFit n.stats
  pub whole : IsWhole n.link
  pub flits : (1 ≤ n.flits) × (n.flits ≤ n.least)
  pub sizes : (n.peers < 2 ^ 32) × (n.least < 2 ^ 32) × (n.most < 2 ^ 32) × (n.total < 2 ^ 64)
  pub inputs : (c : ℕ) → (input n.link c).capacity < 2 ^ 32
  pub outputs : (c : ℕ) → (output n.link c).capacity < 2 ^ 32
  pub received : n.received < 2 ^ 64
  pub expected : (numbers_form n.expected).Fits n.expected
  pub next : (numbers_form n.next).Fits n.next

-- what an endpoint can be made from: it is one of at least two, there is a network, its packets have flits and are no larger than
-- the network takes, and what its queues may hold passes in 2^40 picoseconds. The other numbers are within their fields
pub record NicFits (set : NicSettings) (flits : ℕ) : Type 0 where
  pub peers : 2 ≤ set.peers
  pub here : set.id < set.peers
  pub some : 1 ≤ set.vns
  pub size : (1 ≤ flits) × (flits ≤ set.least)
  pub input : set.input_flits * set.flit_time ≤ 2 ^ 40
  pub output : set.output_flits * set.flit_time ≤ 2 ^ 40
  pub few : (set.peers < 2 ^ 32) × (set.vns ≤ 255)
  pub sizes : (set.least < 2 ^ 32) × (set.credits < 2 ^ 32) × (set.input_flits < 2 ^ 32) × (set.output_flits < 2 ^ 32)

-- an endpoint whose start event is to come
pub record EndpointFirst (n : Endpoint) : Type 0 where
  pub begun : n.begun ≡ false
  pub sent : n.sent ≡ 0
  pub received : n.received ≡ 0
  pub idle : is_idle n.link ≡ true

-- an endpoint that a run can begin with
pub record CanBegin (n : Endpoint) : Type 0 where
  pub holds : EndpointHolds n
  pub first : EndpointFirst n
  pub fit : endpoint_fits n 1 ≡ true

-- what is made of such settings can begin
abbrev pub TestsBegin : Type 0
TestsBegin = (set : NicSettings) (messages flits : ℕ) (verbose : Bool) (stats : List Entry) → NicFits set flits → messages < 2 ^ 32 → StatsFit stats → CanBegin (test_nic set messages flits verbose stats)

abbrev pub TrafficBegins : Type 0
TrafficBegins = (set : NicSettings) (pattern : Pattern) (packets flits vn seed hot : ℕ) (stats : List Entry) → NicFits set flits → packets < 2 ^ 32 → vn < set.vns → hot < set.peers → IsFor pattern set.peers → StatsFit stats → CanBegin (traffic_gen set pattern packets flits vn seed hot stats)

-- an endpoint with all that runs change of another
abbrev pub settled : Endpoint → Endpoint → Endpoint
settled n m = record n {
  link = record n.link { inputs = m.link.inputs; outputs = m.link.outputs; credits = m.link.credits; line_free = m.link.line_free; pump = m.link.pump };
  begun = m.begun;
  sent = m.sent;
  received = m.received;
  expected = m.expected;
  next = m.next;
  stats = m.stats;
}

-- what the queues of a channel can hold
abbrev pub sizes_of : Lane → ℕ × ℕ
sizes_of l = (l.input.capacity, l.output.capacity)

-- another endpoint, of the same settings
pub record EndpointAlike (n m : Endpoint) : Type 0 where
  pub same : m ≡ settled n m
  pub lanes : map sizes_of (lanes_of m.link) ≡ map sizes_of (lanes_of n.link)
  pub expected : length m.expected ≡ length n.expected
  pub next : length m.next ≡ length n.next
  pub stats : AlikeStats n.stats m.stats

-- its one port has a channel for each network
abbrev pub channels_of : Endpoint → ℕ → ℕ
channels_of n port = if port == 0 then channels_in n else 0

abbrev pub flow_of : Endpoint → ℕ → Flow
flow_of n vn = record { credits = credits_at n.link vn; queued = flits_of (input n.link vn).packets; capacity = (input n.link vn).capacity }

abbrev pub endpoint_kind : Kind Endpoint Load
endpoint_kind = record {
  handled = endpoint_handled;
  Meets = λ n now why. endpoint_meets n why;
  primary = λ n. true;
  done = is_done;
  ticks = is_on;
  begun = λ n. n.begun;
  fits = endpoint_fits;
  fits_load = cause_comes;
  channels = channels_of;
  flow = λ n port vn. flow_of n vn;
  limit = λ n port vn. n.most;
  weight = load_weight;
  stats = λ n. n.stats;
  Alike = EndpointAlike;
}

-- what may be of endpoints: each sends over its line alone
abbrev pub endpoint_allowed : Allowed Endpoint Load
endpoint_allowed = record {
  holds = EndpointHolds;
  first = EndpointFirst;
  gives = λ n port y at. (port ≡ 0) × LoadGoes n y at;
  names_port = λ n port. port ≡ 0;
  names_line = λ n line. ⊥;
  names_clock = λ n clock. clock ≡ 0;
}
