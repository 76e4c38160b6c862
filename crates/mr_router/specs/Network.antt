-- The topologies as routes and peers, and the channels of their ports.
use Rattle.std.specs.Prelude.{ℕ, Bool, true, false, Option, Some, None}
use Rattle.mr_flow.specs.declared.Peer.{Peer}
use Rattle.mr_flow.specs.declared.Peer.TheVariants as peer
use Rattle.mr_topo.specs.Routes.{Routes}
use Rattle.mr_topo.specs.Grid.{mesh, torus, hops_of}
use Rattle.mr_topo.specs.Single.{single}
use Rattle.mr_fattree.specs.Tree.{fat_tree}
use Rattle.mr_fattree.specs.Walk.{hops_of as tree_hops}
use Rattle.mr_router.specs.declared.topology.Topology.{Topology}
use Rattle.mr_router.specs.declared.topology.Topology.TheVariants as topology

abbrev pub routes : Topology → Routes
routes (topology.Single ports) = single ports
routes (topology.Mesh g) = mesh g
routes (topology.Torus g) = torus g
routes (topology.FatTree ls) = fat_tree ls

-- how many hops it is from a router to an endpoint
abbrev pub hops : Topology → ℕ → ℕ → ℕ
hops (topology.Single ports) = λ r e. 0
hops (topology.Mesh g) = hops_of false g
hops (topology.Torus g) = hops_of true g
hops (topology.FatTree ls) = tree_hops ls

-- how many channels of a virtual network a port has, by where it leads: its lanes between routers, and one elsewhere
abbrev pub lanes_to : Option Peer → ℕ → ℕ
lanes_to None lanes = 1
lanes_to (Some (peer.Host e)) lanes = 1
lanes_to (Some (peer.Router r port)) lanes = lanes

-- whether a port leads somewhere
abbrev pub leads : Option Peer → Bool
leads None = false
leads (Some p) = true
