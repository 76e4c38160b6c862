-- What goes through a router, counted in flits.
use Rattle.std.specs.Prelude.{ℕ}
use Rattle.ss_model.specs.declared.Cause.{Cause}
use Rattle.ss_safe.specs.Laws.{Meters, FlowKeeps}
use Rattle.mr_flow.specs.declared.Load.{Load}
use Rattle.mr_flow.specs.Load.{load_weight}
use Rattle.mr_flow.specs.Queue.{flits_of}
use Rattle.mr_flow.specs.Side.{IsWhole, channels, input, credits_at}
use Rattle.mr_router.specs.Router.{Switch, port_at, router_handled}
use Rattle.mr_router.specs.Holding.{HearsWell}

-- what a network reads off a router, by port and channel
abbrev pub router_meters : Meters Switch Load
router_meters = record {
  channels = λ x p. channels (port_at x.ports p).line;
  credits = λ x p ch. credits_at (port_at x.ports p).line ch;
  queued = λ x p ch. flits_of (input (port_at x.ports p).line ch).packets;
  capacity = λ x p ch. (input (port_at x.ports p).line ch).capacity;
  limit = λ x p ch. (port_at x.ports p).most;
  weight = load_weight;
}

-- at each port and channel, credits fall by the packets that a router sends and rise by the credits that come, and an input queue
-- rises by the packets that come and falls by the credits that the router sends back
abbrev pub RouterBalances : Type 0
RouterBalances = (x : Switch) (now : ℕ) (why : Cause Load) → ((i : ℕ) → IsWhole (port_at x.ports i).line) → HearsWell x why → FlowKeeps router_meters x why (router_handled x now why)
