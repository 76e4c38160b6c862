-- What is true of a network that passes its checks.
use Rattle.std.specs.Prelude.{◌≡◌, ℕ, ◌<◌, ◌≤◌, true, List, slice_get, MatchOption, Some, None}
use Rattle.ss_model.specs.Wiring.{Wiring}
use Rattle.ss_graph.specs.Checks.{first_fault}
use Rattle.ss_network.specs.declared.ask.RouterAsk.{RouterAsk}
use Rattle.ss_network.specs.declared.ask.EndpointAsk.{EndpointAsk}
use Rattle.ss_network.specs.declared.member.Member.{Member}
use Rattle.ss_network.specs.declared.member.Member.TheVariants as member
use Rattle.mr_router.specs.Network.{routes}
use Rattle.ss_network.specs.Network.{network_checks, first_router, ports_of, peer_of, end_of, is_peer, is_home_of, channels_of, lanes_of, capacity, least, fits_pattern}

abbrev pub IsNetwork : Wiring → List Member → Type 0
IsNetwork w ms = first_fault (network_checks w ms) ≡ None

-- a port that a member has
abbrev pub HasPort : Member → ℕ → Type 0
HasPort (member.Router r) p = p < ports_of r
HasPort (member.Endpoint e) p = p ≡ 0
HasPort member.Other p = ⊥

-- a line's end with its way back
pub record Joins (w : Wiring) (ms : List Member) (i p c q : ℕ) (x y : Member) : Type 0 where
  pub here : slice_get ms i ≡ Some x
  pub there : slice_get ms c ≡ Some y
  pub out : HasPort x p
  pub into : HasPort y q
  pub ahead : end_of w i p ≡ Some (c, q)
  pub back : end_of w c q ≡ Some (i, p)

-- a router's port that leads somewhere is linked to its peer, and one that leads nowhere isn't linked
abbrev pub LeadsWell : Wiring → List Member → Type 0
LeadsWell w ms = (i p : ℕ) (r : RouterAsk) → slice_get ms i ≡ Some (member.Router r) → p < ports_of r → MatchOption (peer_of r p) (end_of w i p ≡ None) (λ x. (o : ℕ × ℕ) × (end_of w i p ≡ Some o) × (is_peer ms x o ≡ true))

-- an endpoint is linked to a port that leads to it
abbrev pub ComesHome : Wiring → List Member → Type 0
ComesHome w ms = (i : ℕ) (e : EndpointAsk) → slice_get ms i ≡ Some (member.Endpoint e) → (o : ℕ × ℕ) × (end_of w i 0 ≡ Some o) × (is_home_of e.id (slice_get ms o.0) o.1 ≡ true)

-- both ends of a line have the same channels
abbrev pub SameChannels : Wiring → List Member → Type 0
SameChannels w ms = (i p c q : ℕ) (x y : Member) → Joins w ms i p c q x y → channels_of x p ≡ channels_of y q

-- and as many of a virtual network
abbrev pub SameLanes : Wiring → List Member → Type 0
SameLanes w ms = (i p c q : ℕ) (x y : Member) → Joins w ms i p c q x y → lanes_of x p ≡ lanes_of y q

-- a router is as the first one but for its number and its queues, and the topology has it
pub record IsAlike (f r : RouterAsk) : Type 0 where
  pub topology : r.topology ≡ f.topology
  pub vns : r.vns ≡ f.vns
  pub flit : r.flit_bits ≡ f.flit_bits
  pub id : r.id < (routes r.topology).routers

abbrev pub AllAlike : List Member → Type 0
AllAlike ms = (i : ℕ) (r : RouterAsk) → slice_get ms i ≡ Some (member.Router r) → (f : RouterAsk) × (first_router ms ≡ Some f) × IsAlike f r

-- an endpoint fits the routers, its messages the least queue, and its pattern the number of endpoints
pub record IsGuest (ms : List Member) (f : RouterAsk) (e : EndpointAsk) : Type 0 where
  pub id : e.id < (routes f.topology).endpoints
  pub peers : e.peers ≡ (routes f.topology).endpoints
  pub vns : e.vns ≡ f.vns
  pub flit : e.flit_bits ≡ f.flit_bits
  pub size : e.flits ≤ least ms
  pub pattern : fits_pattern e.work e.peers ≡ true

abbrev pub AllGuests : List Member → Type 0
AllGuests ms = (i : ℕ) (f : RouterAsk) (e : EndpointAsk) → first_router ms ≡ Some f → slice_get ms i ≡ Some (member.Endpoint e) → IsGuest ms f e

-- a number is that of one router at most, and of one endpoint at most
abbrev pub OneOfEach : List Member → Type 0
OneOfEach ms = ((i j : ℕ) (r s : RouterAsk) → slice_get ms i ≡ Some (member.Router r) → slice_get ms j ≡ Some (member.Router s) → r.id ≡ s.id → i ≡ j) × ((i j : ℕ) (f : RouterAsk) (d e : EndpointAsk) → first_router ms ≡ Some f → slice_get ms i ≡ Some (member.Endpoint d) → slice_get ms j ≡ Some (member.Endpoint e) → d.id ≡ e.id → i ≡ j)

-- no queue is smaller than the least capacity
abbrev pub LeastOfAll : List Member → Type 0
LeastOfAll ms = (i : ℕ) (m : Member) → slice_get ms i ≡ Some m → least ms ≤ capacity m
