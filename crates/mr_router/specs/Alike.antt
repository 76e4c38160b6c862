-- What no handling changes of a router.
use Rattle.std.specs.Prelude.{◌≡◌, ℕ, List, length, map}
use Rattle.ss_tally.specs.Tally.{AlikeStats}
use Rattle.mr_flow.specs.Saved.{Lane, lanes_of}
use Rattle.mr_arb.specs.declared.turn.Turn.{Turn}
use Rattle.mr_arb.specs.declared.turn.Turn.TheVariants as turn
use Rattle.mr_router.specs.declared.port.Port.{Port}
use Rattle.mr_router.specs.Router.{Switch, router_handled}
use Rattle.mr_router.specs.Keeping.{Told}
use Rattle.ss_model.specs.declared.Cause.{Cause}
use Rattle.mr_flow.specs.declared.Load.{Load}

-- what the queues of a channel can hold
abbrev pub sizes_of : Lane → ℕ × ℕ
sizes_of l = (l.input.capacity, l.output.capacity)

-- of a port: the most credits, the time of a flit, and what the queues of each channel can hold
pub record PortSettings : Type 0 where
  pub most : ℕ
  pub flit_time : ℕ
  pub sizes : List (ℕ × ℕ)

abbrev pub port_settings : Port → PortSettings
port_settings p = record { most = p.most; flit_time = p.line.flit_time; sizes = map sizes_of (lanes_of p.line) }

-- of a turn: its sort, and how many slots its list has
abbrev pub turn_settings : Turn → ℕ × ℕ
turn_settings (turn.RoundRobin first) = (0, 0)
turn_settings (turn.LeastRecent order) = (1, length order)
turn_settings turn.Age = (2, 0)

-- a second router differs from a first at most in what runs change
pub record RouterAlike (x y : Switch) : Type 0 where
  pub set : y.set ≡ x.set
  pub slots : y.slots ≡ x.slots
  pub sent : y.sent ≡ x.sent
  pub ports : map port_settings y.ports ≡ map port_settings x.ports
  pub turns : map turn_settings y.turns ≡ map turn_settings x.turns
  pub stats : AlikeStats x.stats y.stats

abbrev pub HandledAlike : Type 0
HandledAlike = (x : Switch) (now : ℕ) (why : Cause Load) → Told x now why → RouterAlike x (router_handled x now why).state
