-- Routers in rows of one to four dimensions, after Merlin's mesh and torus. A router's number is x0 + k0 * (x1 + k1 * (..)) for its
-- coordinates x and the sizes k. Around: each row is a ring (a torus), else it has two ends (a mesh).
use Rattle.std.specs.Prelude.{◌≡◌, ℕ, ◌+◌, ◌-◌, ◌*◌, ◌/◌, ◌%◌, ◌<◌, ◌≤◌, ◌==◌, ◌&&◌, zero, suc, min, List, [], ◌∷◌, length, slice_index, Bool, true, false, nat_le, nat_lt, if◌then◌else◌, Option, Some, None}
use Rattle.std.specs.Option.{option_map}
use Rattle.mr_flow.specs.declared.Peer.{Peer}
use Rattle.mr_flow.specs.declared.Peer.TheVariants.{Router, Host}
use Rattle.mr_topo.specs.Routes.{Flow, Routes}
use Rattle.mr_topo.specs.Shape.{spelled, reading, all_below}

-- the sizes of the dimensions, and how many endpoints each router has
pub record Grid : Type 0 where
  pub sizes : List ℕ
  pub local_ports : ℕ

-- how many routers stand in dimensions of these sizes
abbrev pub count_of : List ℕ → ℕ
count_of [] = 1
count_of (k ∷ ks) = k * count_of ks

-- a router's coordinate in a dimension
abbrev pub coordinate : List ℕ → ℕ → ℕ → ℕ
coordinate [] r d = 0
coordinate (k ∷ ks) r zero = r % k
coordinate (k ∷ ks) r (suc d) = coordinate ks (r / k) d

-- the router that has the coordinate x in dimension d, and else those of r
abbrev pub placed : List ℕ → ℕ → ℕ → ℕ → ℕ
placed [] r d x = r
placed (k ∷ ks) r zero x = x + k * (r / k)
placed (k ∷ ks) r (suc d) x = r % k + k * placed ks (r / k) d x

-- the lowest dimension in which the coordinates of two routers differ
abbrev pub first_difference : List ℕ → ℕ → ℕ → Option ℕ
first_difference [] r t = None
first_difference (k ∷ ks) r t = if r % k == t % k then option_map suc (first_difference ks (r / k) (t / k)) else Some 0

-- the coordinate next to x, up or down, where the last one is next to the first
abbrev pub after : Bool → ℕ → ℕ → ℕ
after up k x = if up then (if nat_lt (x + 1) k then x + 1 else 0) else (if x == 0 then k - 1 else x - 1)

-- an end of a row
abbrev pub is_edge : Bool → ℕ → ℕ → Bool
is_edge up k x = if up then x + 1 == k else x == 0

abbrev pub beside : Bool → Bool → ℕ → ℕ → Option ℕ
beside around up k x = if around then Some (after up k x) else (if is_edge up k x then None else Some (after up k x))

-- how many hops it is up from x to t, on a ring
abbrev pub ahead : ℕ → ℕ → ℕ → ℕ
ahead k x t = if nat_le x t then t - x else t + k - x

-- towards t: on a ring the shorter way, and up on a tie
abbrev pub goes_up : Bool → ℕ → ℕ → ℕ → Bool
goes_up around k x t = if around then nat_le (ahead k x t) (ahead k t x) else nat_lt x t

-- how many hops it is from x to t
abbrev pub apart : Bool → ℕ → ℕ → ℕ → ℕ
apart around k x t = if around then min (ahead k x t) (ahead k t x) else (x - t) + (t - x)

-- On a ring, a packet that now comes to coordinate x has crossed or now crosses between the last and the first router since it left
-- its source's coordinate s.
abbrev pub has_crossed : Bool → ℕ → ℕ → Bool
has_crossed up x s = if up then nat_lt x s else nat_lt s x

-- the lane of a hop to coordinate x: lane 1 of a ring is for packets that have crossed
abbrev pub lane : Bool → Bool → ℕ → ℕ → ℕ
lane around up x s = if around && has_crossed up x s then 1 else 0

-- how many lanes a virtual network has
abbrev pub lanes : Bool → ℕ
lanes around = if around then 2 else 1

-- port 2d leads up in dimension d, port 2d + 1 down
abbrev pub port_of : ℕ → Bool → ℕ
port_of d up = if up then 2 * d else 2 * d + 1

abbrev pub opposite : ℕ → ℕ
opposite port = if port % 2 == 0 then port + 1 else port - 1

-- where a port leads whose dimension has this next coordinate
abbrev pub joined : Grid → ℕ → ℕ → Option ℕ → Option Peer
joined g r port None = None
joined g r port (Some x) = Some (Router (placed g.sizes r (port / 2) x) (opposite port))

-- behind the ports of the dimensions those to the router's endpoints
abbrev pub peer_of : Bool → Grid → ℕ → ℕ → Option Peer
peer_of around g r port = if nat_lt port (2 * length g.sizes) then joined g r port (beside around (port % 2 == 0) (slice_index g.sizes (port / 2)) (coordinate g.sizes r (port / 2))) else Some (Host (r * g.local_ports + (port - 2 * length g.sizes)))

-- the way in a dimension of size k from coordinate x to t, of a packet whose source has s
abbrev pub way : Bool → ℕ → ℕ → ℕ → ℕ → ℕ → ℕ → ℕ × ℕ
way around d k x t s vn = (port_of d (goes_up around k x t), vn * lanes around + lane around (goes_up around k x t) (after (goes_up around k x t) k x) s)

abbrev pub routed : Bool → Grid → ℕ → Flow → Option ℕ → ℕ × ℕ
routed around g r f None = (2 * length g.sizes + f.dst % g.local_ports, f.vn)
routed around g r f (Some d) = way around d (slice_index g.sizes d) (coordinate g.sizes r d) (coordinate g.sizes (f.dst / g.local_ports) d) (coordinate g.sizes (f.src / g.local_ports) d) f.vn

-- in the lowest dimension in which the router and the destination's router differ; and where they don't, to the endpoint
abbrev pub route_of : Bool → Grid → ℕ → Flow → ℕ × ℕ
route_of around g r f = routed around g r f (first_difference g.sizes r (f.dst / g.local_ports))

abbrev pub grid_routes : Bool → Grid → Routes
grid_routes around g = record {
  routers = count_of g.sizes;
  endpoints = count_of g.sizes * g.local_ports;
  ports = λ r. 2 * length g.sizes + g.local_ports;
  channels = lanes around;
  route = route_of around g;
  peer = peer_of around g;
}

abbrev pub mesh : Grid → Routes
mesh = grid_routes false

abbrev pub torus : Grid → Routes
torus = grid_routes true

-- how many hops it is from a router to an endpoint's: the sum over the dimensions
abbrev pub router_hops : Bool → List ℕ → ℕ → ℕ → ℕ
router_hops around [] r t = 0
router_hops around (k ∷ ks) r t = apart around k (r % k) (t % k) + router_hops around ks (r / k) (t / k)

abbrev pub hops_of : Bool → Grid → ℕ → ℕ → ℕ
hops_of around g r e = router_hops around g.sizes r (e / g.local_ports)

-- sizes of dimensions
pub record IsSized (ks : List ℕ) : Type 0 where
  pub some : 1 ≤ length ks
  pub few : length ks ≤ 4
  pub least : (d : ℕ) → d < length ks → 2 ≤ slice_index ks d
  pub most : (d : ℕ) → d < length ks → slice_index ks d ≤ 256
  pub count : count_of ks ≤ 65536

pub record IsGrid (g : Grid) : Type 0 where
  pub sized : IsSized g.sizes
  pub endpoints : count_of g.sizes * g.local_ports ≤ 4096

-- a text is the sizes with x between them
pub record IsShape (g : Grid) (text : List ℕ) : Type 0 where
  pub grid : IsGrid g
  pub text_is : spelled 120 120 g.sizes ≡ text

-- whether dimensions of these sizes make a grid
abbrev pub is_grid : List ℕ → ℕ → Bool
is_grid ks n = nat_le 1 (length ks) && nat_le (length ks) 4 && all_below (length ks) (λ d. nat_le 2 (slice_index ks d) && nat_le (slice_index ks d) 256) && nat_le (count_of ks) 65536 && nat_le (count_of ks * n) 4096

-- the grid of a text and so many endpoints to a router, where the text is that of one
abbrev pub grid_by : ℕ → Option (List ℕ) → Option Grid
grid_by n None = None
grid_by n (Some ks) = if is_grid ks n then Some (record { sizes = ks; local_ports = n }) else None

unfoldable pub grid_of : List ℕ → ℕ → Option Grid
grid_of text n = grid_by n (reading 120 120 0 text)
