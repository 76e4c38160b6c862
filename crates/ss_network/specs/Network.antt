-- The checks of a network: its routers are those of one topology, its endpoints fit it, and each port is linked as the topology says.
use Rattle.std.specs.Prelude.{ℕ, zero, suc, ◌-◌, ◌*◌, ◌^◌, ◌==◌, min, Bool, true, false, not, ◌&&◌, List, [], ◌∷◌, ◌++◌, length, take, slice_get, nat_le, nat_lt, if◌then◌else◌, Option, Some, None, is_some, codes}
use Rattle.std.specs.List.{list_any}
use Rattle.std.specs.Option.{option_map}
use Rattle.ss_model.specs.Wiring.{Wiring, link_at, of_line}
use Rattle.ss_graph.specs.Checks.{Check, check}
use Rattle.mr_flow.specs.declared.Peer.{Peer}
use Rattle.mr_flow.specs.declared.Peer.TheVariants as peer
use Rattle.mr_fattree.specs.declared.Level.{Level}
use Rattle.ss_network.specs.declared.ask.RouterAsk.{RouterAsk}
use Rattle.ss_network.specs.declared.ask.EndpointAsk.{EndpointAsk}
use Rattle.ss_network.specs.declared.ask.Work.{Work}
use Rattle.ss_network.specs.declared.ask.Work.TheVariants as work
use Rattle.ss_network.specs.declared.param.ParamName.{ParamName}
use Rattle.ss_network.specs.declared.param.ParamName.TheVariants as param
use Rattle.mr_nic.specs.declared.pattern.Pattern.{Pattern}
use Rattle.mr_nic.specs.declared.pattern.Pattern.TheVariants as pattern
use Rattle.mr_nic.specs.Pattern.{root}
use Rattle.ss_network.specs.Params.{param_text}
use Rattle.ss_network.specs.declared.member.Member.{Member}
use Rattle.ss_network.specs.declared.member.Member.TheVariants as member
use Rattle.mr_router.specs.declared.topology.Topology.{Topology}
use Rattle.mr_router.specs.declared.topology.Topology.TheVariants as topology
use Rattle.ss_network.specs.declared.fault.MakeFault.{MakeFault}
use Rattle.ss_network.specs.declared.fault.MakeFault.TheVariants as fault
use Rattle.ss_network.specs.Faults.{param_place, port_place, rtr_place}
use Rattle.mr_router.specs.Network.{routes, lanes_to}

-- the checks of the numbers below one, in ascending order
unfoldable pub below_checks : ℕ → (ℕ → List (Check MakeFault)) → List (Check MakeFault)
below_checks zero f = []
below_checks (suc n) f = below_checks n f ++ f n

-- ---- the network as a whole

abbrev pub first_router : List Member → Option RouterAsk
first_router [] = None
first_router (member.Router r ∷ ms) = Some r
first_router (member.Endpoint e ∷ ms) = first_router ms
first_router (member.Other ∷ ms) = first_router ms

-- the lesser of a member's capacities
abbrev pub capacity : Member → ℕ
capacity (member.Router r) = min r.input_flits r.output_flits
capacity (member.Endpoint e) = min e.input_flits e.output_flits
capacity member.Other = 2 ^ 20

-- the least capacity of all
abbrev pub least : List Member → ℕ
least [] = 2 ^ 20
least (m ∷ ms) = min (capacity m) (least ms)

-- the numbers of routers, and of endpoints
abbrev pub router_id : Member → List ℕ
router_id (member.Router r) = r.id ∷ []
router_id (member.Endpoint e) = []
router_id member.Other = []

abbrev pub router_ids : List Member → List ℕ
router_ids [] = []
router_ids (m ∷ ms) = router_id m ++ router_ids ms

abbrev pub endpoint_id : Member → List ℕ
endpoint_id (member.Router r) = []
endpoint_id (member.Endpoint e) = e.id ∷ []
endpoint_id member.Other = []

abbrev pub endpoint_ids : List Member → List ℕ
endpoint_ids [] = []
endpoint_ids (m ∷ ms) = endpoint_id m ++ endpoint_ids ms

-- a number below n that isn't among those before
abbrev pub is_new : ℕ → List ℕ → ℕ → Bool
is_new n ids id = nat_lt id n && not (list_any (λ x. x == id) ids)

-- ---- routers

abbrev pub same_kind : Topology → Topology → Bool
same_kind (topology.Single n) (topology.Single m) = true
same_kind (topology.Mesh g) (topology.Mesh h) = true
same_kind (topology.Torus g) (topology.Torus h) = true
same_kind (topology.FatTree ks) (topology.FatTree ls) = true
same_kind _ _ = false

abbrev pub same_sizes : List ℕ → List ℕ → Bool
same_sizes [] [] = true
same_sizes [] (l ∷ ls) = false
same_sizes (k ∷ ks) [] = false
same_sizes (k ∷ ks) (l ∷ ls) = (k == l) && same_sizes ks ls

abbrev pub same_levels : List Level → List Level → Bool
same_levels [] [] = true
same_levels [] (l ∷ ls) = false
same_levels (k ∷ ks) [] = false
same_levels (k ∷ ks) (l ∷ ls) = (k.down == l.down) && (k.up == l.up) && same_levels ks ls

-- of two topologies of one kind, whether they have the same shape; a single router has none
abbrev pub same_shape : Topology → Topology → Bool
same_shape (topology.Mesh g) (topology.Mesh h) = same_sizes g.sizes h.sizes
same_shape (topology.Torus g) (topology.Torus h) = same_sizes g.sizes h.sizes
same_shape (topology.FatTree ks) (topology.FatTree ls) = same_levels ks ls
same_shape _ _ = true

-- and the same number of endpoints at a router; a fat tree has that by its shape
abbrev pub same_local : Topology → Topology → Bool
same_local (topology.Single n) (topology.Single m) = n == m
same_local (topology.Mesh g) (topology.Mesh h) = g.local_ports == h.local_ports
same_local (topology.Torus g) (topology.Torus h) = g.local_ports == h.local_ports
same_local _ _ = true

-- a router is as the first one, and new
unfoldable pub same_checks : RouterAsk → List ℕ → ℕ → RouterAsk → List (Check MakeFault)
same_checks f ids i r =
    check (same_kind f.topology r.topology) (fault.Param (param_place i (codes "topology")))
    ∷ check (same_shape f.topology r.topology) (fault.Param (param_place i (codes "topology.shape")))
    ∷ check (same_local f.topology r.topology) (fault.Param (param_place i (codes "topology.local_ports")))
    ∷ check (f.vns == r.vns) (fault.Param (param_place i (codes "num_vns")))
    ∷ check (f.flit_bits == r.flit_bits) (fault.Param (param_place i (codes "flit_size")))
    ∷ check (is_new (routes f.topology).routers ids r.id) (fault.Param (param_place i (codes "id")))
    ∷ []

abbrev pub router_by : RouterAsk → List ℕ → ℕ → Option Member → List (Check MakeFault)
router_by f ids i (Some (member.Router r)) = same_checks f ids i r
router_by f ids i (Some (member.Endpoint e)) = []
router_by f ids i (Some member.Other) = []
router_by f ids i None = []

unfoldable pub routers_checks : RouterAsk → List Member → List (Check MakeFault)
routers_checks f ms = below_checks (length ms) (λ i. router_by f (router_ids (take i ms)) i (slice_get ms i))

-- ---- endpoints

-- which parameter tells how large a message or a packet is
abbrev pub size_name : Work → ParamName
size_name (work.Messages count verbose) = param.MessageSize
size_name (work.Packets count pattern vn seed hot) = param.PacketSize

-- rows and columns can be exchanged where the endpoints are a square
abbrev pub has_shape : Pattern → ℕ → Bool
has_shape pattern.Uniform n = true
has_shape pattern.Complement n = true
has_shape pattern.Transpose n = root n * root n == n
has_shape pattern.Hotspot n = true
has_shape pattern.Tornado n = true

abbrev pub fits_pattern : Work → ℕ → Bool
fits_pattern (work.Messages count verbose) n = true
fits_pattern (work.Packets count pattern vn seed hot) n = has_shape pattern n

-- an endpoint is new, and fits the routers; its messages fit the least queue, and its pattern is there for so many endpoints
unfoldable pub fit_checks : RouterAsk → List ℕ → ℕ → ℕ → EndpointAsk → List (Check MakeFault)
fit_checks f ids most i e =
    check (is_new (routes f.topology).endpoints ids e.id) (fault.Param (param_place i (codes "id")))
    ∷ check ((routes f.topology).endpoints == e.peers) (fault.Param (param_place i (codes "num_peers")))
    ∷ check (f.vns == e.vns) (fault.Param (param_place i (codes "num_vns")))
    ∷ check (f.flit_bits == e.flit_bits) (fault.Param (param_place i (codes "flit_size")))
    ∷ check (nat_le e.flits most) (fault.Param (param_place i (param_text (size_name e.work))))
    ∷ check (fits_pattern e.work (routes f.topology).endpoints) (fault.Param (param_place i (codes "pattern")))
    ∷ []

abbrev pub endpoint_by : RouterAsk → List ℕ → ℕ → ℕ → Option Member → List (Check MakeFault)
endpoint_by f ids most i (Some (member.Router r)) = []
endpoint_by f ids most i (Some (member.Endpoint e)) = fit_checks f ids most i e
endpoint_by f ids most i (Some member.Other) = []
endpoint_by f ids most i None = []

unfoldable pub endpoints_checks : RouterAsk → List Member → List (Check MakeFault)
endpoints_checks f ms = below_checks (length ms) (λ i. endpoint_by f (endpoint_ids (take i ms)) (least ms) i (slice_get ms i))

-- ---- ports

-- the number of a router's ports; a router whose number isn't below that of the routers counts as the last one
abbrev pub ports_of : RouterAsk → ℕ
ports_of r =
    let t = routes r.topology in
    if nat_lt r.id t.routers then t.ports r.id else (if nat_lt (t.routers - 1) t.routers then t.ports (t.routers - 1) else 0)

-- where a router's port leads
abbrev pub peer_of : RouterAsk → ℕ → Option Peer
peer_of r p =
    let t = routes r.topology in
    if nat_lt r.id t.routers && nat_lt p (t.ports r.id) then t.peer r.id p else None

-- the component and the port at the other end of a port's line
abbrev pub end_by : Wiring → Option (ℕ × ℕ) → Option (ℕ × ℕ)
end_by w None = None
end_by w (Some l) = of_line w l.0

abbrev pub end_of : Wiring → ℕ → ℕ → Option (ℕ × ℕ)
end_of w c p = end_by w (link_at w c p)

abbrev pub is_router : ℕ → Option Member → Bool
is_router id (Some (member.Router r)) = r.id == id
is_router id (Some (member.Endpoint e)) = false
is_router id (Some member.Other) = false
is_router id None = false

abbrev pub is_endpoint : ℕ → Option Member → Bool
is_endpoint id (Some (member.Router r)) = false
is_endpoint id (Some (member.Endpoint e)) = e.id == id
is_endpoint id (Some member.Other) = false
is_endpoint id None = false

-- whether this is where the port of a topology leads; an endpoint has one port
abbrev pub is_peer : List Member → Peer → ℕ × ℕ → Bool
is_peer ms (peer.Router id port) o = is_router id (slice_get ms o.0) && (o.1 == port)
is_peer ms (peer.Host id) o = is_endpoint id (slice_get ms o.0) && (o.1 == 0)

-- a port that leads somewhere is linked
abbrev pub is_tied : Option Peer → Option (ℕ × ℕ) → Bool
is_tied None o = true
is_tied (Some p) o = is_some o

-- a port that is linked is so to its peer
abbrev pub is_wired : List Member → Option Peer → Option (ℕ × ℕ) → Bool
is_wired ms p None = true
is_wired ms None (Some o) = false
is_wired ms (Some p) (Some o) = is_peer ms p o

unfoldable pub port_checks : Wiring → List Member → ℕ → RouterAsk → ℕ → List (Check MakeFault)
port_checks w ms i r p =
    check (is_tied (peer_of r p) (end_of w i p)) (fault.PortUnlinked (port_place i p))
    ∷ check (is_wired ms (peer_of r p) (end_of w i p)) (fault.Miswired (port_place i p))
    ∷ []

abbrev pub ports_by : Wiring → List Member → ℕ → Option Member → List (Check MakeFault)
ports_by w ms i (Some (member.Router r)) = below_checks (ports_of r) (port_checks w ms i r)
ports_by w ms i (Some (member.Endpoint e)) = []
ports_by w ms i (Some member.Other) = []
ports_by w ms i None = []

unfoldable pub ports_checks : Wiring → List Member → List (Check MakeFault)
ports_checks w ms = below_checks (length ms) (λ i. ports_by w ms i (slice_get ms i))

-- ---- the endpoints' ports

abbrev pub is_host : ℕ → Option Peer → Bool
is_host id None = false
is_host id (Some (peer.Host e)) = e == id
is_host id (Some (peer.Router r p)) = false

-- a router's port that leads to the endpoint
abbrev pub is_home_of : ℕ → Option Member → ℕ → Bool
is_home_of id (Some (member.Router r)) p = is_host id (peer_of r p)
is_home_of id (Some (member.Endpoint e)) p = false
is_home_of id (Some member.Other) p = false
is_home_of id None p = false

abbrev pub is_home : List Member → ℕ → Option (ℕ × ℕ) → Bool
is_home ms id None = false
is_home ms id (Some o) = is_home_of id (slice_get ms o.0) o.1

abbrev pub home_check : Wiring → List Member → ℕ → EndpointAsk → Check MakeFault
home_check w ms i e = check (is_home ms e.id (end_of w i 0)) (fault.Miswired (rtr_place i))

abbrev pub home_by : Wiring → List Member → ℕ → Option Member → List (Check MakeFault)
home_by w ms i (Some (member.Router r)) = []
home_by w ms i (Some (member.Endpoint e)) = home_check w ms i e ∷ []
home_by w ms i (Some member.Other) = []
home_by w ms i None = []

unfoldable pub homes_checks : Wiring → List Member → List (Check MakeFault)
homes_checks w ms = below_checks (length ms) (λ i. home_by w ms i (slice_get ms i))

-- ---- the whole

-- where there is no router, no endpoint has a home
abbrev pub member_checks : Option RouterAsk → List Member → List (Check MakeFault)
member_checks None ms = []
member_checks (Some f) ms = routers_checks f ms ++ endpoints_checks f ms

unfoldable pub network_checks : Wiring → List Member → List (Check MakeFault)
network_checks w ms = member_checks (first_router ms) ms ++ (ports_checks w ms ++ homes_checks w ms)

-- ---- what joins a network that passes them

-- the channels of a member's port
abbrev pub channels_of : Member → ℕ → ℕ
channels_of (member.Router r) p = if nat_lt p (ports_of r) then r.vns * lanes_to (peer_of r p) (routes r.topology).channels else 0
channels_of (member.Endpoint e) p = if p == 0 then e.vns else 0
channels_of member.Other p = 0

-- how many channels of a virtual network it has
abbrev pub lanes_of : Member → ℕ → ℕ
lanes_of (member.Router r) p = lanes_to (peer_of r p) (routes r.topology).channels
lanes_of (member.Endpoint e) p = 1
lanes_of member.Other p = 1

-- what an input queue of a member holds
abbrev pub input_of : Member → ℕ
input_of (member.Router r) = r.input_flits
input_of (member.Endpoint e) = e.input_flits
input_of member.Other = 0

abbrev pub credits_by : List Member → Option (ℕ × ℕ) → Option ℕ
credits_by ms None = None
credits_by ms (Some o) = option_map input_of (slice_get ms o.0)

-- the credits with which a port begins: what the input queues at the other end of its line hold
abbrev pub credits_of : Wiring → List Member → ℕ → ℕ → Option ℕ
credits_of w ms i p = credits_by ms (end_of w i p)
