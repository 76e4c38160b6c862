-- What a router keeps.
use Rattle.std.specs.Prelude.{◌≡◌, ℕ, ◌+◌, ◌<◌, ◌≤◌, ◌^◌, true}
use Rattle.ss_model.specs.declared.Cause.{Cause}
use Rattle.ss_model.specs.declared.Cause.TheVariants as cause
use Rattle.mr_flow.specs.declared.NetLoad.{NetLoad}
use Rattle.mr_flow.specs.declared.NetLoad.TheVariants as net
use Rattle.mr_flow.specs.declared.Load.{Load}
use Rattle.mr_flow.specs.declared.Load.TheVariants as load
use Rattle.mr_flow.specs.Queue.{room}
use Rattle.mr_flow.specs.Side.{input, credits_at}
use Rattle.mr_router.specs.declared.port.Port.{Port}
use Rattle.mr_router.specs.Router.{Switch, port_at, router_handled}
use Rattle.mr_router.specs.Holding.{IsReady, HearsWell}
use Rattle.mr_router.specs.Fitting.{RouterHolds, router_fits, comes}

-- there is room at a port for what comes: in the queue for a packet, and a credit is no more than the other end's queue still misses
abbrev pub HasSpace : Port → NetLoad → Type 0
HasSpace p (net.Packet c pk) = pk.flits ≤ room (input p.line c)
HasSpace p (net.Credit c flits) = credits_at p.line c + flits ≤ p.most

-- what is told may be told at a time
abbrev pub MayCome : Switch → ℕ → Cause Load → Type 0
MayCome x now cause.Start = Unit {0}
MayCome x now (cause.Link i (load.Core n)) = ⊥
MayCome x now (cause.Link i (load.Net y)) = (comes x i (now + 1) y ≡ true) × HasSpace (port_at x.ports i) y
MayCome x now (cause.Own line y) = ⊥
MayCome x now (cause.Tick clock) = Unit {0}

-- a router that was made and fits a time may handle what may come then, and is one that was made and fits afterwards
pub record Told (x : Switch) (now : ℕ) (why : Cause Load) : Type 0 where
  pub early : now < 2 ^ 62
  pub holds : RouterHolds x
  pub fits : router_fits x (now + 1) ≡ true
  pub may : MayCome x now why

abbrev pub RouterIsReady : Type 0
RouterIsReady = (x : Switch) (now : ℕ) (why : Cause Load) → Told x now why → IsReady x × HearsWell x why

abbrev pub RouterKeeps : Type 0
RouterKeeps = (x : Switch) (now : ℕ) (why : Cause Load) → Told x now why → RouterHolds (router_handled x now why).state × (router_fits (router_handled x now why).state (now + 1) ≡ true)
