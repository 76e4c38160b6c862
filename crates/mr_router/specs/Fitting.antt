-- Which states of a router a run can leave, and what may come to it.
use Rattle.std.specs.Prelude.{◌≡◌, ℕ, ◌+◌, ◌*◌, ◌/◌, ◌^◌, ◌<◌, ◌≤◌, ◌&&◌, ◌||◌, nat_le, nat_lt, Bool, true, false, length, Option, codes}
use Rattle.std.specs.List.{list_all, range_with_len}
use Rattle.ss_model.specs.declared.Cause.{Cause}
use Rattle.ss_model.specs.declared.Cause.TheVariants as cause
use Rattle.ss_stats.specs.Set.{place_of}
use Rattle.ss_tally.specs.Tally.{StatsFit}
use Rattle.mr_flow.specs.declared.Bounds.{Bounds}
use Rattle.mr_flow.specs.declared.Peer.{Peer}
use Rattle.mr_flow.specs.declared.NetLoad.{NetLoad}
use Rattle.mr_flow.specs.declared.NetLoad.TheVariants as net
use Rattle.mr_flow.specs.declared.Load.{Load}
use Rattle.mr_flow.specs.declared.Load.TheVariants as load
use Rattle.mr_flow.specs.Load.{is_of, row_fits}
use Rattle.mr_flow.specs.Side.{IsWhole, channels, input, output, credits_at, is_idle}
use Rattle.mr_flow.specs.Saved.{lanes_of}
use Rattle.mr_topo.specs.Routes.{Delivers}
use Rattle.mr_router.specs.Turns.{turn_fits}
use Rattle.mr_router.specs.declared.settings.RouterSettings.{RouterSettings}
use Rattle.mr_router.specs.declared.port.Port.{Port}
use Rattle.mr_router.specs.Network.{routes, hops, lanes_to, leads}
use Rattle.mr_router.specs.Router.{Switch, port_at, width}

-- where a port leads, and how many channels of a virtual network it has
abbrev pub peer_of : RouterSettings → ℕ → Option Peer
peer_of set i = (routes set.topology).peer set.id i

abbrev pub lanes : RouterSettings → ℕ → ℕ
lanes set i = lanes_to (peer_of set i) (routes set.topology).channels

-- the packets of the network
abbrev pub bounds_of : RouterSettings → Bounds
bounds_of set = record { endpoints = set.endpoints; vns = set.vns; least = set.least }

-- a port that was made
pub record PortHolds (set : RouterSettings) (i : ℕ) (p : Port) : Type 0 where
  pub whole : IsWhole p.line
  pub count : channels p.line ≡ set.vns * lanes set i
  pub inputs : (c : ℕ) → c < channels p.line → (input p.line c).capacity ≡ set.input_flits
  pub outputs : (c : ℕ) → c < channels p.line → (output p.line c).capacity ≡ set.output_flits
  pub most : p.most < 2 ^ 32

-- a router that was made
pub record RouterHolds (x : Switch) : Type 0 where
  pub delivers : Delivers (routes x.set.topology) (hops x.set.topology)
  pub id : x.set.id < (routes x.set.topology).routers
  pub ends : x.set.endpoints ≡ (routes x.set.topology).endpoints
  pub some : 1 ≤ width x.set
  pub narrow : width x.set ≤ 16
  pub networks : x.set.vns ≤ 8
  pub lanes : 1 ≤ (routes x.set.topology).channels
  pub ports : length x.ports ≡ (routes x.set.topology).ports x.set.id
  pub few : length x.ports ≤ 256
  pub slots : x.slots ≡ length x.ports * width x.set
  pub turns : length x.turns ≡ length x.ports
  pub sizes : (x.set.endpoints < 2 ^ 32) × (x.set.least < 2 ^ 32) × (x.set.input_flits < 2 ^ 32) × (x.set.output_flits < 2 ^ 32)
  pub each : (i : ℕ) → i < length x.ports → PortHolds x.set i (port_at x.ports i)
  pub place : x.sent ≡ place_of x.stats (codes "sent")
  pub stats : StatsFit x.stats

-- what stands at a channel: its queues hold packets of its virtual network that may be there, and its credits are no more than
-- the other end's queue can hold
abbrev pub lane_fits : RouterSettings → ℕ → ℕ → Port → ℕ → Bool
lane_fits set at i p c = row_fits (bounds_of set) (c / lanes set i) at (input p.line c) && (row_fits (bounds_of set) (c / lanes set i) at (output p.line c) && nat_le (credits_at p.line c) p.most)

abbrev pub port_fits : RouterSettings → ℕ → ℕ → Port → Bool
port_fits set at i p = nat_le p.line.line_free (at + 2 ^ 40) && (nat_le p.in_free (at + 2 ^ 40) && (nat_le p.cross_free (at + 2 ^ 40) && (nat_lt p.line.pump (channels p.line) && ((leads (peer_of set i) || is_idle p.line) && list_all (lane_fits set at i p) (range_with_len 0 (channels p.line))))))

abbrev pub router_fits : Switch → ℕ → Bool
router_fits x at = list_all (λ i. port_fits x.set at i (port_at x.ports i)) (range_with_len 0 (length x.ports)) && list_all (turn_fits x.slots) x.turns

-- how many channels a port has
abbrev pub lane_count : Port → ℕ
lane_count p = length (lanes_of p.line)

-- what may come to a port: a packet on a channel of its network, and a credit of no more flits than the other end's queue can hold
abbrev pub comes : Switch → ℕ → ℕ → NetLoad → Bool
comes x i at (net.Packet c p) = leads (peer_of x.set i) && (nat_lt c (lane_count (port_at x.ports i)) && is_of (bounds_of x.set) (c / lanes x.set i) at p)
comes x i at (net.Credit c flits) = nat_lt c (lane_count (port_at x.ports i)) && (nat_le 1 flits && nat_le flits (port_at x.ports i).most)

abbrev pub load_comes : Switch → ℕ → ℕ → Load → Bool
load_comes x i at (load.Core n) = false
load_comes x i at (load.Net y) = comes x i at y

abbrev pub cause_comes : Switch → Cause Load → ℕ → Bool
cause_comes x cause.Start at = true
cause_comes x (cause.Link i y) at = load_comes x i at y
cause_comes x (cause.Own line y) at = false
cause_comes x (cause.Tick clock) at = true

-- what goes out of a port
abbrev pub Goes : Switch → ℕ → NetLoad → ℕ → Type 0
Goes x i (net.Packet c p) at = (c < lane_count (port_at x.ports i)) × (is_of (bounds_of x.set) (c / lanes x.set i) at p ≡ true)
Goes x i (net.Credit c flits) at = (c < lane_count (port_at x.ports i)) × (1 ≤ flits) × (flits ≤ x.set.input_flits)

abbrev pub LoadGoes : Switch → ℕ → Load → ℕ → Type 0
LoadGoes x i (load.Core n) at = ⊥
LoadGoes x i (load.Net y) at = Goes x i y at
