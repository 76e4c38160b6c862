-- What a router's calls need of its packets and ports.
use Rattle.std.specs.Prelude.{◌≡◌, ℕ, ◌*◌, ◌<◌, ◌≤◌, List, length, Option, IfSome}
use Rattle.std.specs.List.{All}
use Rattle.ss_model.specs.declared.Cause.{Cause}
use Rattle.ss_model.specs.declared.Cause.TheVariants as cause
use Rattle.mr_flow.specs.declared.Packet.{Packet}
use Rattle.mr_flow.specs.declared.Load.{Load}
use Rattle.mr_flow.specs.declared.Load.TheVariants as load
use Rattle.mr_flow.specs.Side.{channels, input, HasRoom}
use Rattle.mr_topo.specs.Routes.{flow_of, IsFlow}
use Rattle.mr_arb.specs.Arbitrating.{EachFits}
use Rattle.ss_stats.specs.Set.{Entry}
use Rattle.mr_router.specs.Turns.{Chosen}
use Rattle.mr_router.specs.declared.settings.RouterSettings.{RouterSettings}
use Rattle.mr_router.specs.declared.port.Port.{Port}
use Rattle.mr_router.specs.Network.{routes}
use Rattle.mr_router.specs.Router.{Switch, port_at, width}

-- a packet goes between endpoints, and has flits
pub record IsBound (set : RouterSettings) (p : Packet) : Type 0 where
  pub flow : IsFlow (routes set.topology) (flow_of p)
  pub some : 1 ≤ p.flits

-- so does each that came in
abbrev pub AllBound : RouterSettings → List Port → Type 0
AllBound set ports = (i c : ℕ) → All (IsBound set) (input (port_at ports i).line c).packets

-- no port has more channels than the numbering of slots counts
abbrev pub AllWithin : RouterSettings → List Port → Type 0
AllWithin set ports = (i : ℕ) → channels (port_at ports i).line ≤ width set

-- the router is one of its topology, and its slots can be counted
pub record IsPlaced (set : RouterSettings) (ports : ℕ) : Type 0 where
  pub id : set.id < (routes set.topology).routers
  pub few : ports ≤ 256
  pub some : 1 ≤ width set
  pub narrow : width set ≤ 16

-- a router with as many ports as its topology has there
pub record IsOfTopology (set : RouterSettings) (ports : ℕ) : Type 0 where
  pub id : set.id < (routes set.topology).routers
  pub count : ports ≡ (routes set.topology).ports set.id
  pub few : ports ≤ 256

-- what comes over a line comes to a port, and has room there
abbrev pub HearsWell : Switch → Cause Load → Type 0
HearsWell x cause.Start = Unit {0}
HearsWell x (cause.Link i (load.Core n)) = Unit {0}
HearsWell x (cause.Link i (load.Net y)) = (i < length x.ports) × HasRoom (port_at x.ports i).line y
HearsWell x (cause.Own line y) = Unit {0}
HearsWell x (cause.Tick clock) = Unit {0}

-- a router of these parts
abbrev pub switch : RouterSettings → List Port → Chosen → List Entry → Option ℕ → Switch
switch set ports chosen stats sent = record { set = set; ports = ports; slots = chosen.slots; turns = chosen.turns; stats = stats; sent = sent }

-- what a tick needs of a router
pub record IsReady (x : Switch) : Type 0 where
  pub placed : IsPlaced x.set (length x.ports)
  pub bound : AllBound x.set x.ports
  pub within : AllWithin x.set x.ports
  pub place : IfSome x.sent (λ i. i < length x.stats)
  pub slots : x.slots ≡ length x.ports * width x.set
  pub turns : EachFits x.slots x.turns
