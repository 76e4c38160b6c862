-- An element of one of the kinds. Both endpoints are of one kind.
use Rattle.std.specs.Prelude.{ℕ, Bool, List}
use Rattle.ss_model.specs.declared.Cause.{Cause}
use Rattle.ss_model.specs.Step.{Reaction, State}
use Rattle.ss_model.specs.Wiring.{Wiring}
use Rattle.ss_stats.specs.Set.{Entry}
use Rattle.ss_element.specs.declared.flow.Flow.{Flow}
use Rattle.ss_element.specs.Kind.{Kind}
use Rattle.ss_safe.specs.Laws.{Allowed}
use Rattle.ss_safe.specs.Safe.{Safe}
use Rattle.mr_flow.specs.declared.Load.{Load}
use Rattle.mr_flow.specs.Load.{load_weight}
use Rattle.ss_kinds.specs.Among.{IsA, lift}
use Rattle.ss_kinds.specs.Pinger.{PingerAlike, pinger_kind, pinger_allowed}
use Rattle.ss_kinds.specs.Echo.{EchoAlike, echo_kind, echo_allowed}
use Rattle.ss_kinds.specs.Ticker.{TickerAlike, ticker_kind, ticker_allowed}
use Rattle.mr_nic.specs.Kind.{EndpointAlike, endpoint_kind, endpoint_allowed}
use Rattle.mr_router.specs.Alike.{RouterAlike}
use Rattle.mr_router.specs.Kind.{router_kind, router_allowed}
use Rattle.ss_library.specs.declared.kinds.Any.{Any}
use Rattle.ss_library.specs.declared.kinds.Any.TheVariants as any

-- ---- what its calls tell

abbrev pub any_handled : Any → ℕ → Cause Load → Reaction Any Load
any_handled (any.Pinger p) now why = lift any.Pinger (pinger_kind.handled p now why)
any_handled (any.Echo e) now why = lift any.Echo (echo_kind.handled e now why)
any_handled (any.Ticker t) now why = lift any.Ticker (ticker_kind.handled t now why)
any_handled (any.TestNic n) now why = lift any.TestNic (endpoint_kind.handled n now why)
any_handled (any.TrafficGen n) now why = lift any.TrafficGen (endpoint_kind.handled n now why)
any_handled (any.Router r) now why = lift any.Router (router_kind.handled r now why)

abbrev pub any_meets : Any → ℕ → Cause Load → Type 0
any_meets (any.Pinger p) = pinger_kind.Meets p
any_meets (any.Echo e) = echo_kind.Meets e
any_meets (any.Ticker t) = ticker_kind.Meets t
any_meets (any.TestNic n) = endpoint_kind.Meets n
any_meets (any.TrafficGen n) = endpoint_kind.Meets n
any_meets (any.Router r) = router_kind.Meets r

abbrev pub any_primary : Any → Bool
any_primary (any.Pinger p) = pinger_kind.primary p
any_primary (any.Echo e) = echo_kind.primary e
any_primary (any.Ticker t) = ticker_kind.primary t
any_primary (any.TestNic n) = endpoint_kind.primary n
any_primary (any.TrafficGen n) = endpoint_kind.primary n
any_primary (any.Router r) = router_kind.primary r

abbrev pub any_done : Any → Bool
any_done (any.Pinger p) = pinger_kind.done p
any_done (any.Echo e) = echo_kind.done e
any_done (any.Ticker t) = ticker_kind.done t
any_done (any.TestNic n) = endpoint_kind.done n
any_done (any.TrafficGen n) = endpoint_kind.done n
any_done (any.Router r) = router_kind.done r

abbrev pub any_ticks : Any → ℕ → Bool
any_ticks (any.Pinger p) clock = pinger_kind.ticks p clock
any_ticks (any.Echo e) clock = echo_kind.ticks e clock
any_ticks (any.Ticker t) clock = ticker_kind.ticks t clock
any_ticks (any.TestNic n) clock = endpoint_kind.ticks n clock
any_ticks (any.TrafficGen n) clock = endpoint_kind.ticks n clock
any_ticks (any.Router r) clock = router_kind.ticks r clock

abbrev pub any_begun : Any → Bool
any_begun (any.Pinger p) = pinger_kind.begun p
any_begun (any.Echo e) = echo_kind.begun e
any_begun (any.Ticker t) = ticker_kind.begun t
any_begun (any.TestNic n) = endpoint_kind.begun n
any_begun (any.TrafficGen n) = endpoint_kind.begun n
any_begun (any.Router r) = router_kind.begun r

abbrev pub any_fits : Any → ℕ → Bool
any_fits (any.Pinger p) at = pinger_kind.fits p at
any_fits (any.Echo e) at = echo_kind.fits e at
any_fits (any.Ticker t) at = ticker_kind.fits t at
any_fits (any.TestNic n) at = endpoint_kind.fits n at
any_fits (any.TrafficGen n) at = endpoint_kind.fits n at
any_fits (any.Router r) at = router_kind.fits r at

abbrev pub any_hears : Any → Cause Load → ℕ → Bool
any_hears (any.Pinger p) why at = pinger_kind.fits_load p why at
any_hears (any.Echo e) why at = echo_kind.fits_load e why at
any_hears (any.Ticker t) why at = ticker_kind.fits_load t why at
any_hears (any.TestNic n) why at = endpoint_kind.fits_load n why at
any_hears (any.TrafficGen n) why at = endpoint_kind.fits_load n why at
any_hears (any.Router r) why at = router_kind.fits_load r why at

abbrev pub any_channels : Any → ℕ → ℕ
any_channels (any.Pinger p) port = pinger_kind.channels p port
any_channels (any.Echo e) port = echo_kind.channels e port
any_channels (any.Ticker t) port = ticker_kind.channels t port
any_channels (any.TestNic n) port = endpoint_kind.channels n port
any_channels (any.TrafficGen n) port = endpoint_kind.channels n port
any_channels (any.Router r) port = router_kind.channels r port

abbrev pub any_flow : Any → ℕ → ℕ → Flow
any_flow (any.Pinger p) port channel = pinger_kind.flow p port channel
any_flow (any.Echo e) port channel = echo_kind.flow e port channel
any_flow (any.Ticker t) port channel = ticker_kind.flow t port channel
any_flow (any.TestNic n) port channel = endpoint_kind.flow n port channel
any_flow (any.TrafficGen n) port channel = endpoint_kind.flow n port channel
any_flow (any.Router r) port channel = router_kind.flow r port channel

abbrev pub any_limit : Any → ℕ → ℕ → ℕ
any_limit (any.Pinger p) port channel = pinger_kind.limit p port channel
any_limit (any.Echo e) port channel = echo_kind.limit e port channel
any_limit (any.Ticker t) port channel = ticker_kind.limit t port channel
any_limit (any.TestNic n) port channel = endpoint_kind.limit n port channel
any_limit (any.TrafficGen n) port channel = endpoint_kind.limit n port channel
any_limit (any.Router r) port channel = router_kind.limit r port channel

abbrev pub any_stats : Any → List Entry
any_stats (any.Pinger p) = pinger_kind.stats p
any_stats (any.Echo e) = echo_kind.stats e
any_stats (any.Ticker t) = ticker_kind.stats t
any_stats (any.TestNic n) = endpoint_kind.stats n
any_stats (any.TrafficGen n) = endpoint_kind.stats n
any_stats (any.Router r) = router_kind.stats r

-- another element of the same kind, with the same settings
abbrev pub AnyAlike : Any → Any → Type 0
AnyAlike (any.Pinger p) y = IsA any.Pinger (PingerAlike p) y
AnyAlike (any.Echo e) y = IsA any.Echo (EchoAlike e) y
AnyAlike (any.Ticker t) y = IsA any.Ticker (TickerAlike t) y
AnyAlike (any.TestNic n) y = IsA any.TestNic (EndpointAlike n) y
AnyAlike (any.TrafficGen n) y = IsA any.TrafficGen (EndpointAlike n) y
AnyAlike (any.Router r) y = IsA any.Router (RouterAlike r) y

abbrev pub any_kind : Kind Any Load
any_kind = record {
  handled = any_handled;
  Meets = any_meets;
  primary = any_primary;
  done = any_done;
  ticks = any_ticks;
  begun = any_begun;
  fits = any_fits;
  fits_load = any_hears;
  channels = any_channels;
  flow = any_flow;
  limit = any_limit;
  weight = load_weight;
  stats = any_stats;
  Alike = AnyAlike;
}

-- ---- what may be of it

-- an element that was made
abbrev pub AnyHolds : Any → Type 0
AnyHolds (any.Pinger p) = pinger_allowed.holds p
AnyHolds (any.Echo e) = echo_allowed.holds e
AnyHolds (any.Ticker t) = ticker_allowed.holds t
AnyHolds (any.TestNic n) = endpoint_allowed.holds n
AnyHolds (any.TrafficGen n) = endpoint_allowed.holds n
AnyHolds (any.Router r) = router_allowed.holds r

-- an element whose start event is to come
abbrev pub AnyFirst : Any → Type 0
AnyFirst (any.Pinger p) = pinger_allowed.first p
AnyFirst (any.Echo e) = echo_allowed.first e
AnyFirst (any.Ticker t) = ticker_allowed.first t
AnyFirst (any.TestNic n) = endpoint_allowed.first n
AnyFirst (any.TrafficGen n) = endpoint_allowed.first n
AnyFirst (any.Router r) = router_allowed.first r

-- what it may send, and out of which ports
abbrev pub AnyGives : Any → ℕ → Load → ℕ → Type 0
AnyGives (any.Pinger p) port y at = pinger_allowed.gives p port y at
AnyGives (any.Echo e) port y at = echo_allowed.gives e port y at
AnyGives (any.Ticker t) port y at = ticker_allowed.gives t port y at
AnyGives (any.TestNic n) port y at = endpoint_allowed.gives n port y at
AnyGives (any.TrafficGen n) port y at = endpoint_allowed.gives n port y at
AnyGives (any.Router r) port y at = router_allowed.gives r port y at

abbrev pub SendsOut : Any → ℕ → Type 0
SendsOut (any.Pinger p) port = pinger_allowed.names_port p port
SendsOut (any.Echo e) port = echo_allowed.names_port e port
SendsOut (any.Ticker t) port = ticker_allowed.names_port t port
SendsOut (any.TestNic n) port = endpoint_allowed.names_port n port
SendsOut (any.TrafficGen n) port = endpoint_allowed.names_port n port
SendsOut (any.Router r) port = router_allowed.names_port r port

-- its self lines and its clocks
abbrev pub HasLine : Any → ℕ → Type 0
HasLine (any.Pinger p) line = pinger_allowed.names_line p line
HasLine (any.Echo e) line = echo_allowed.names_line e line
HasLine (any.Ticker t) line = ticker_allowed.names_line t line
HasLine (any.TestNic n) line = endpoint_allowed.names_line n line
HasLine (any.TrafficGen n) line = endpoint_allowed.names_line n line
HasLine (any.Router r) line = router_allowed.names_line r line

abbrev pub HasClock : Any → ℕ → Type 0
HasClock (any.Pinger p) clock = pinger_allowed.names_clock p clock
HasClock (any.Echo e) clock = echo_allowed.names_clock e clock
HasClock (any.Ticker t) clock = ticker_allowed.names_clock t clock
HasClock (any.TestNic n) clock = endpoint_allowed.names_clock n clock
HasClock (any.TrafficGen n) clock = endpoint_allowed.names_clock n clock
HasClock (any.Router r) clock = router_allowed.names_clock r clock

abbrev pub any_allowed : Allowed Any Load
any_allowed = record {
  holds = AnyHolds;
  first = AnyFirst;
  gives = AnyGives;
  names_port = SendsOut;
  names_line = HasLine;
  names_clock = HasClock;
}

-- the states that a run can go on from at a time
abbrev pub any_safe : Wiring → ℕ → State Any Load → Type 0
any_safe = Safe any_kind any_allowed
