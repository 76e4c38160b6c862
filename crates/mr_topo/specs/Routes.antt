-- What a topology gives a network: where each router's ports lead, and which way each flow goes. Theorems about networks speak of
-- this record alone, so they hold for each topology.
use Rattle.std.specs.Prelude.{◌≡◌, ℕ, zero, suc, ◌+◌, ◌*◌, ◌<◌, Option, Some}
use Rattle.mr_flow.specs.declared.Packet.{Packet}
use Rattle.mr_flow.specs.declared.Peer.{Peer}
use Rattle.mr_flow.specs.declared.Peer.TheVariants.{Router, Host}

-- the packets of one source, destination and virtual network
pub record Flow : Type 0 where
  pub src : ℕ
  pub dst : ℕ
  pub vn : ℕ

abbrev pub flow_of : Packet → Flow
flow_of p = record { src = p.src; dst = p.dst; vn = p.vn }

pub record Routes : Type 0 where
  pub routers : ℕ
  pub endpoints : ℕ
  -- how many ports a router has
  pub ports : ℕ → ℕ
  -- how many virtual channels a virtual network has between routers
  pub channels : ℕ
  -- the port by which a flow leaves a router, and the channel on it
  pub route : ℕ → Flow → ℕ × ℕ
  -- where a router's port leads
  pub peer : ℕ → ℕ → Option Peer

-- where a flow goes from a router
abbrev pub next : Routes → Flow → ℕ → Option Peer
next t f r = t.peer r (t.route r f).0

-- a flow at a router comes to its destination after so many hops between routers
abbrev pub Arrives : Routes → Flow → ℕ → ℕ → Type 0
Arrives t f r zero = next t f r ≡ Some (Host f.dst)
Arrives t f r (suc hops) = (q : ℕ) × (port : ℕ) × (next t f r ≡ Some (Router q port)) × (q < t.routers) × Arrives t f q hops

-- a flow between endpoints; there are eight virtual networks at most
pub record IsFlow (t : Routes) (f : Flow) : Type 0 where
  pub src : f.src < t.endpoints
  pub dst : f.dst < t.endpoints
  pub vn : f.vn < 8

-- Where a port leads to a router's port, that one leads back. Each endpoint is at one port of one router.
pub record LeadsBack (t : Routes) : Type 0 where
  pub back : (r port q side : ℕ) → r < t.routers → port < t.ports r → t.peer r port ≡ Some (Router q side) → (q < t.routers) × (side < t.ports q) × (t.peer q side ≡ Some (Router r port))
  pub ends : (r port e : ℕ) → r < t.routers → port < t.ports r → t.peer r port ≡ Some (Host e) → e < t.endpoints
  pub homes : (e : ℕ) → e < t.endpoints → (r : ℕ) × (port : ℕ) × (r < t.routers) × (port < t.ports r) × (t.peer r port ≡ Some (Host e))
  pub once : (r port q side e : ℕ) → r < t.routers → port < t.ports r → q < t.routers → side < t.ports q → t.peer r port ≡ Some (Host e) → t.peer q side ≡ Some (Host e) → (r ≡ q) × (port ≡ side)

-- From each router each flow comes to its destination, by ports that the routers have, and after a number of hops that the router
-- and the destination give. On lines between routers its channel is one of its virtual network, and on the last line the network's own.
pub record Delivers (t : Routes) (hops : ℕ → ℕ → ℕ) : Type 0 where
  pub arrives : (f : Flow) (r : ℕ) → IsFlow t f → r < t.routers → Arrives t f r (hops r f.dst)
  pub port : (f : Flow) (r : ℕ) → IsFlow t f → r < t.routers → (t.route r f).0 < t.ports r
  pub between : (f : Flow) (r q side : ℕ) → IsFlow t f → r < t.routers → next t f r ≡ Some (Router q side) → (lane : ℕ) × (lane < t.channels) × ((t.route r f).1 ≡ f.vn * t.channels + lane)
  pub last : (f : Flow) (r : ℕ) → IsFlow t f → r < t.routers → next t f r ≡ Some (Host f.dst) → (t.route r f).1 ≡ f.vn
