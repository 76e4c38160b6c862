-- What holds of a network as it begins.
use Rattle.std.specs.Prelude.{◌≡◌, ℕ, ◌<◌, ◌≤◌, ◌/◌, true, false, List, slice_get, Some, is_some}
use Rattle.ss_model.specs.declared.Cause.TheVariants as cause
use Rattle.ss_model.specs.Wiring.{Wiring, link_at}
use Rattle.ss_element.specs.Kind.{Kind}
use Rattle.ss_safe.specs.Laws.{Meters, Allowed, meters_of}
use Rattle.ss_safe.specs.Safe.{Paired, HasCredits}
use Rattle.ss_stats.specs.Set.{Entry}
use Rattle.ss_tally.specs.Tally.{StatsFit}
use Rattle.mr_flow.specs.declared.Bounds.{Bounds}
use Rattle.mr_flow.specs.declared.NetLoad.{NetLoad}
use Rattle.mr_flow.specs.declared.NetLoad.TheVariants as net
use Rattle.mr_flow.specs.declared.Load.{Load}
use Rattle.mr_flow.specs.declared.Load.TheVariants as load
use Rattle.mr_flow.specs.Load.{is_of}
use Rattle.mr_nic.specs.Kind.{CanBegin, endpoint_kind, endpoint_allowed}
use Rattle.mr_router.specs.Router.{Switch, router_ticks}
use Rattle.mr_router.specs.Network.{routes, leads}
use Rattle.mr_router.specs.Fresh.{room_of}
use Rattle.mr_router.specs.Fitting.{RouterHolds, router_fits}
use Rattle.mr_router.specs.Kind.{router_kind, router_allowed}
use Rattle.ss_network.specs.declared.ask.RouterAsk.{RouterAsk}
use Rattle.ss_network.specs.declared.ask.EndpointAsk.{EndpointAsk}
use Rattle.ss_network.specs.declared.member.Member.{Member}
use Rattle.ss_network.specs.declared.member.Member.TheVariants as member
use Rattle.ss_network.specs.Network.{first_router, least, peer_of, channels_of, lanes_of, input_of, credits_of}
use Rattle.ss_network.specs.Joined.{IsNetwork, Joins}
use Rattle.ss_fresh.specs.Starting.{begun_router, begun_nic}
use Rattle.ss_fresh.specs.Tied.{AllTied, AllCanRun}

-- ---- each by itself

-- a router that a run can begin with
pub record CanBeginRouter (x : Switch) : Type 0 where
  pub holds : RouterHolds x
  pub fit : router_fits x 1 ≡ true
  pub off : (clock : ℕ) → router_ticks x clock ≡ false

abbrev pub RoutersBegin : Type 0
RoutersBegin = (w : Wiring) (ms : List Member) (i : ℕ) (r : RouterAsk) (stats : List Entry) → IsNetwork w ms → AllCanRun ms → slice_get ms i ≡ Some (member.Router r) → StatsFit stats → CanBeginRouter (begun_router w ms i r stats)

abbrev pub EndpointsBegin : Type 0
EndpointsBegin = (w : Wiring) (ms : List Member) (i : ℕ) (name : List ℕ) (e : EndpointAsk) (stats : List Entry) → IsNetwork w ms → AllCanRun ms → slice_get ms i ≡ Some (member.Endpoint e) → StatsFit stats → CanBegin (begun_nic w ms i name e stats)

-- ---- credits

-- what is read off an element that is component i of a network, as its member says
pub record IsRead {S L : Type 0} (meters : Meters S L) (w : Wiring) (ms : List Member) (i : ℕ) (m : Member) (x : S) : Type 0 where
  pub channels : (p : ℕ) → meters.channels x p ≡ channels_of m p
  pub credits : (p ch : ℕ) → ch < channels_of m p → meters.credits x p ch ≡ room_of (credits_of w ms i p)
  pub queued : (p ch : ℕ) → ch < channels_of m p → meters.queued x p ch ≡ 0
  pub capacity : (p ch : ℕ) → ch < channels_of m p → meters.capacity x p ch ≡ input_of m
  pub limit : (p ch : ℕ) → ch < channels_of m p → meters.limit x p ch ≡ room_of (credits_of w ms i p)

-- elements that are the members of a network
pub record AreRead {S L : Type 0} (meters : Meters S L) (w : Wiring) (ms : List Member) (c : ℕ) (x : S) : Type 0 where
  pub part : Member
  pub there : slice_get ms c ≡ Some part
  pub read : IsRead meters w ms c part x

-- a network begins in balance: each line's sender has the credits that the receiver's queue can hold, and no queue has a packet
abbrev pub NetworksBalance : Type 1
NetworksBalance = (S L : Type 0) (meters : Meters S L) (w : Wiring) (ms : List Member) (xs : List S) → IsNetwork w ms → AllTied w ms → ((c : ℕ) (x : S) → slice_get xs c ≡ Some x → AreRead meters w ms c x) → Paired meters w xs × HasCredits meters w xs

abbrev pub RoutersAreRead : Type 0
RoutersAreRead = (w : Wiring) (ms : List Member) (i : ℕ) (r : RouterAsk) (stats : List Entry) → IsNetwork w ms → AllCanRun ms → slice_get ms i ≡ Some (member.Router r) → IsRead (meters_of router_kind) w ms i (member.Router r) (begun_router w ms i r stats)

abbrev pub EndpointsAreRead : Type 0
EndpointsAreRead = (w : Wiring) (ms : List Member) (i : ℕ) (name : List ℕ) (e : EndpointAsk) (stats : List Entry) → IsNetwork w ms → AllCanRun ms → slice_get ms i ≡ Some (member.Endpoint e) → IsRead (meters_of endpoint_kind) w ms i (member.Endpoint e) (begun_nic w ms i name e stats)

-- ---- what goes over the lines

-- the packets of a network, by its first router
abbrev pub bounds : RouterAsk → ℕ → Bounds
bounds f most = record { endpoints = (routes f.topology).endpoints; vns = f.vns; least = most }

-- a port that leads to a member's port
abbrev pub IsLead : Member → ℕ → Type 0
IsLead (member.Router r) p = leads (peer_of r p) ≡ true
IsLead (member.Endpoint e) p = p ≡ 0
IsLead member.Other p = ⊥

-- what may go out of a member's port at a time: packets of the channel's virtual network, and credits of no more than its queue holds
abbrev pub Goes : Bounds → Member → ℕ → NetLoad → ℕ → Type 0
Goes b m p (net.Packet c k) at = (c < channels_of m p) × (is_of b (c / lanes_of m p) at k ≡ true)
Goes b m p (net.Credit c flits) at = (c < channels_of m p) × (1 ≤ flits) × (flits ≤ input_of m)

abbrev pub LoadGoes : Bounds → Member → ℕ → Load → ℕ → Type 0
LoadGoes b m p (load.Core n) at = ⊥
LoadGoes b m p (load.Net y) at = Goes b m p y at

-- what may come in at one: such packets, and credits of no more than the queue at the other end holds
abbrev pub Comes : Bounds → Wiring → List Member → ℕ → Member → ℕ → NetLoad → ℕ → Type 0
Comes b w ms i m p (net.Packet c k) at = (c < channels_of m p) × (is_of b (c / lanes_of m p) at k ≡ true)
Comes b w ms i m p (net.Credit c flits) at = (c < channels_of m p) × (1 ≤ flits) × (flits ≤ room_of (credits_of w ms i p))

abbrev pub LoadComes : Bounds → Wiring → List Member → ℕ → Member → ℕ → Load → ℕ → Type 0
LoadComes b w ms i m p (load.Core n) at = ⊥
LoadComes b w ms i m p (load.Net y) at = IsLead m p × Comes b w ms i m p y at

-- what may go out at one end of a line may come in at the other
abbrev pub LinesAgree : Type 0
LinesAgree = (w : Wiring) (ms : List Member) (b : Bounds) (i p c q : ℕ) (x y : Member) → IsNetwork w ms → Joins w ms i p c q x y → (a : Load) (at : ℕ) → LoadGoes b x p a at → LoadComes b w ms c y q a at

-- an element that is component i of a network sends no more than may go, takes what may come, and names no port but one with a line
pub record Speaks {S : Type 0} (kind : Kind S Load) (allowed : Allowed S Load) (w : Wiring) (ms : List Member) (b : Bounds) (i : ℕ) (m : Member) (x : S) : Type 0 where
  pub gives : (p : ℕ) (a : Load) (at : ℕ) → allowed.gives x p a at → LoadGoes b m p a at
  pub hears : (p : ℕ) (a : Load) (at : ℕ) → LoadComes b w ms i m p a at → kind.fits_load x (cause.Link p a) at ≡ true
  pub ports : (p : ℕ) → allowed.names_port x p → is_some (link_at w i p) ≡ true
  pub lines : (l : ℕ) → allowed.names_line x l → ⊥
  pub clocks : (k : ℕ) → allowed.names_clock x k → k ≡ 0

abbrev pub RoutersSpeak : Type 0
RoutersSpeak = (w : Wiring) (ms : List Member) (i : ℕ) (f r : RouterAsk) (stats : List Entry) → IsNetwork w ms → AllCanRun ms → first_router ms ≡ Some f → slice_get ms i ≡ Some (member.Router r) → Speaks router_kind router_allowed w ms (bounds f (least ms)) i (member.Router r) (begun_router w ms i r stats)

abbrev pub EndpointsSpeak : Type 0
EndpointsSpeak = (w : Wiring) (ms : List Member) (i : ℕ) (name : List ℕ) (f : RouterAsk) (e : EndpointAsk) (stats : List Entry) → IsNetwork w ms → AllCanRun ms → first_router ms ≡ Some f → slice_get ms i ≡ Some (member.Endpoint e) → Speaks endpoint_kind endpoint_allowed w ms (bounds f (least ms)) i (member.Endpoint e) (begun_nic w ms i name e stats)

-- where there is an endpoint there is a router
abbrev pub AreAtRouters : Type 0
AreAtRouters = (w : Wiring) (ms : List Member) (i : ℕ) (e : EndpointAsk) → IsNetwork w ms → slice_get ms i ≡ Some (member.Endpoint e) → (f : RouterAsk) × (first_router ms ≡ Some f)
