-- What routers and endpoints ask for is within what can be run.
use Rattle.std.specs.Prelude.{ℕ, ◌*◌, ◌^◌, ◌≤◌, ◌<◌}
use Rattle.mr_topo.specs.Grid.{IsGrid}
use Rattle.mr_fattree.specs.Tree.{IsTree}
use Rattle.mr_router.specs.declared.topology.Topology.{Topology}
use Rattle.mr_router.specs.declared.topology.Topology.TheVariants as topology
use Rattle.ss_network.specs.declared.ask.RouterAsk.{RouterAsk}
use Rattle.ss_network.specs.declared.ask.EndpointAsk.{EndpointAsk}
use Rattle.ss_network.specs.declared.ask.Work.{Work}
use Rattle.ss_network.specs.declared.ask.Work.TheVariants as work

-- so many flits are some, and few, and take no longer than 2^40 ps one after another
pub record IsQueue (flits time : ℕ) : Type 0 where
  pub some : 1 ≤ flits
  pub few : flits ≤ 2 ^ 20
  pub lasts : flits * time ≤ 2 ^ 40

-- a time from 1 ps to 2^40 ps
pub record IsTime (time : ℕ) : Type 0 where
  pub some : 1 ≤ time
  pub few : time ≤ 2 ^ 40

-- a topology that a shape's text gives, with endpoints at each router that has any
abbrev pub IsBuilt : Topology → Type 0
IsBuilt (topology.Single n) = (1 ≤ n) × (n ≤ 255)
IsBuilt (topology.Mesh g) = IsGrid g × (1 ≤ g.local_ports)
IsBuilt (topology.Torus g) = IsGrid g × (1 ≤ g.local_ports)
IsBuilt (topology.FatTree ls) = IsTree ls

pub record IsFitRouter (r : RouterAsk) : Type 0 where
  pub id : r.id < 2 ^ 32
  pub topology : IsBuilt r.topology
  pub networks : 1 ≤ r.vns
  pub few_networks : r.vns ≤ 8
  pub time : IsTime r.flit_time
  pub period : IsTime r.period
  pub input : IsQueue r.input_flits r.flit_time
  pub crossing : IsQueue r.input_flits r.period
  pub output : IsQueue r.output_flits r.flit_time

-- at most a million messages to each or packets in all, on a network that there is, to an endpoint that there is
abbrev pub IsFitWork : Work → ℕ → ℕ → Type 0
IsFitWork (work.Messages count verbose) peers vns = count ≤ 1000000
IsFitWork (work.Packets count pattern vn seed hot) peers vns = (count ≤ 1000000) × (vn < vns) × (hot < peers)

pub record IsFitEndpoint (e : EndpointAsk) : Type 0 where
  pub id : e.id < 2 ^ 32
  pub peers : 2 ≤ e.peers
  pub few_peers : e.peers ≤ 4096
  pub flits : 1 ≤ e.flits
  pub work : IsFitWork e.work e.peers e.vns
  pub networks : 1 ≤ e.vns
  pub few_networks : e.vns ≤ 8
  pub time : IsTime e.flit_time
  pub input : IsQueue e.input_flits e.flit_time
  pub output : IsQueue e.output_flits e.flit_time
