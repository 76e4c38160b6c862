-- Networks of routers and endpoints, as the topology's routes and peers have them.
use Rattle.std.specs.Prelude.{◌≡◌, ℕ, ◌+◌, ◌<◌, ◌≤◌, List, slice_get, Option, Some, None}
use Rattle.ss_model.specs.Wiring.{Wiring}
use Rattle.mr_flow.specs.declared.Peer.{Peer}
use Rattle.mr_flow.specs.declared.Peer.TheVariants as peer
use Rattle.mr_topo.specs.Routes.{Flow, Routes, Delivers}
use Rattle.mr_router.specs.Network.{routes}
use Rattle.mr_router.specs.Router.{Switch}
use Rattle.mr_nic.specs.declared.nic.Endpoint.{Endpoint}
use Rattle.mr_order.specs.Seats.{goes}
use Rattle.mr_order.specs.Ways.{Ways}
use Rattle.mr_order.specs.Runs.{Paths}
use Rattle.mr_works.specs.Routers.{router_ways}
use Rattle.mr_works.specs.Endpoints.{endpoint_ways}

-- what a component is in a topology: a router or an endpoint, by its number
pub data Node : Type 0 where
  Router : ℕ → Node
  Host : ℕ → Node

module _ {S L P : Type 0} (ways : Ways S L P Flow) (t : Routes) (node : S → Option Node) where
  -- flows leave a router by the topology's routes; they begin and end at their endpoints, and nowhere else
  pub record Follows (x : S) : Type 0 where
    pub way : (r : ℕ) (f : Flow) → node x ≡ Some (Router r) → ways.way x f ≡ Some (t.route r f)
    pub ends : (e : ℕ) (f : Flow) → node x ≡ Some (Host e) → ways.way x f ≡ None
    pub begins : (f : Flow) (p ch : ℕ) → ways.begins x f ≡ Some (p, ch) → (node x ≡ Some (Host f.src)) × (p ≡ 0) × (f.dst < t.endpoints) × (f.vn < 8)

  module _ (w : Wiring) (xs : List S) where
    -- a port's line goes to a component, which is a node, at a port
    pub record GoesTo (c p q : ℕ) (n : Node) : Type 0 where
      pub line : ℕ
      pub to : ℕ
      pub element : S
      pub goes : goes w c p ≡ Some (line, to, q)
      pub there : slice_get xs to ≡ Some element
      pub is : node element ≡ Some n

    -- where a router's port leads in the topology, its line goes
    abbrev pub GoesToPeer : ℕ → ℕ → Peer → Type 0
    GoesToPeer c p (peer.Router q side) = GoesTo c p side (Router q)
    GoesToPeer c p (peer.Host e) = GoesTo c p 0 (Host e)

    -- components that are wired as the topology says: host and home give the component and the router of an endpoint
    pub record IsWired (host home : ℕ → ℕ) : Type 0 where
      pub follows : (c : ℕ) (x : S) → slice_get xs c ≡ Some x → Follows x
      pub routers : (c r : ℕ) (x : S) → slice_get xs c ≡ Some x → node x ≡ Some (Router r) → r < t.routers
      pub peers : (c r p : ℕ) (x : S) (o : Peer) → slice_get xs c ≡ Some x → node x ≡ Some (Router r) → p < t.ports r → t.peer r p ≡ Some o → GoesToPeer c p o
      pub hosts : (c e : ℕ) (x : S) → slice_get xs c ≡ Some x → node x ≡ Some (Host e) → (e < t.endpoints) × (host e ≡ c) × (q : ℕ) × GoesTo c 0 q (Router (home e))

-- what routers and endpoints are
abbrev pub router_node : Switch → Option Node
router_node x = Some (Router x.set.id)

abbrev pub endpoint_node : Endpoint → Option Node
endpoint_node n = Some (Host n.id)

-- routers follow their topology, and so do endpoints that know how many endpoints there are
abbrev pub RoutersFollow : Type 0
RoutersFollow = (x : Switch) → Follows router_ways (routes x.set.topology) router_node x

abbrev pub EndpointsFollow : Type 0
EndpointsFollow = (t : Routes) (n : Endpoint) → n.peers ≡ t.endpoints → n.vns ≤ 8 → Follows endpoint_ways t endpoint_node n

-- no flow meets more components than its hops between routers, the first router and the endpoint
abbrev pub most_of : (ℕ → ℕ → ℕ) → (ℕ → ℕ) → Flow → ℕ
most_of hops home f = hops (home f.src) f.dst + 2

-- where a topology's routes end, each path over its components begins at one endpoint and ends at the component of its destination
abbrev pub WiredPathsEnd : Type 0 → Type 0 → Type 0 → Type 0
WiredPathsEnd S L P = (ways : Ways S L P Flow) (t : Routes) (hops : ℕ → ℕ → ℕ) (node : S → Option Node) (w : Wiring) (xs : List S) (host home : ℕ → ℕ) →
    Delivers t hops → IsWired ways t node w xs host home → Paths ways w xs (most_of hops home) (λ f. host f.dst)
