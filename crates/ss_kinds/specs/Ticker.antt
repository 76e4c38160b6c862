-- The ticker.
use Rattle.std.specs.Prelude.{◌≡◌, ℕ, ◌+◌, ◌<◌, ◌^◌, ◌==◌, min, nat_lt, nat_le, Bool, true, false, ◌&&◌, List, [], ◌∷◌, ◌++◌, if◌then◌else◌, Option, Some, None, slice_get, codes, decimal}
use Rattle.ss_model.specs.declared.Cause.{Cause}
use Rattle.ss_model.specs.declared.Cause.TheVariants as cause
use Rattle.ss_model.specs.declared.Action.TheVariants as action
use Rattle.ss_model.specs.Step.{Reaction}
use Rattle.ss_wire.specs.Form.{Form, pair, told}
use Rattle.ss_stats.specs.Set.{Entry, place_of}
use Rattle.ss_element.specs.declared.fault.RestoreFault.{RestoreFault}
use Rattle.ss_element.specs.Stored.{field, stats_form}
use Rattle.ss_element.specs.Saving.{Saving}
use Rattle.ss_element.specs.Kind.{Kind}
use Rattle.ss_tally.specs.Tally.{tallied, StatsFit, AlikeStats}
use Rattle.ss_safe.specs.Laws.{Allowed}
use Rattle.mr_flow.specs.declared.Load.{Load}
use Rattle.mr_flow.specs.declared.Load.TheVariants as load
use Rattle.mr_flow.specs.Load.{load_weight}
use Rattle.mr_flow.specs.Saved.{load_text, core_load_form}
use Rattle.ss_kinds.specs.declared.ticker.Ticker.{Ticker}
use Rattle.ss_kinds.specs.declared.names.StatName.TheVariants as stat
use Rattle.ss_kinds.specs.declared.names.PortName.{PortName}
use Rattle.ss_kinds.specs.Names.{stat_text, port_text, ticker_ports}
use Rattle.ss_kinds.specs.Number.{sends, still, load_fits, cause_fits, no_channel}

abbrev pub tick_text : List ℕ → ℕ → ℕ → List ℕ
tick_text name ticks now = name ++ codes ": tick " ++ decimal ticks ++ codes " at " ++ decimal now ++ codes " ps\n"

abbrev pub event_text : List ℕ → ℕ → List ℕ → ℕ → List ℕ
event_text name n port now = name ++ codes ": event " ++ decimal n ++ codes " on " ++ port ++ codes " at " ++ decimal now ++ codes " ps\n"

-- the name of a ticker's port
abbrev pub label : Option PortName → List ℕ
label None = []
label (Some name) = port_text name

abbrev pub port_label : ℕ → List ℕ
port_label port = label (slice_get ticker_ports port)

-- the ticker that has counted one tick more
abbrev pub raised : Ticker → Ticker
raised t = record t { ticks = min (t.ticks + 1) t.count }

-- a number came
abbrev pub ticker_heard : Ticker → ℕ → Ticker
ticker_heard t n = record t { stats = tallied t.stats (stat_text stat.Events) n }

-- what it does when it has counted a tick
abbrev pub ticked : Ticker → ℕ → Reaction Ticker Load
ticked t now = record {
  state = t;
  actions = action.Print (tick_text t.name t.ticks now) ∷ (if t.linked then sends t.ticks ∷ [] else []) ++ (if t.ticks == t.count then action.ClockOff 0 ∷ [] else []);
}

abbrev pub ticker_handled : Ticker → ℕ → Cause Load → Reaction Ticker Load
ticker_handled t now cause.Start = record { state = record t { begun = true }; actions = if nat_lt 0 t.count then action.ClockOn 0 ∷ [] else [] }
ticker_handled t now (cause.Link port (load.Core n)) = record { state = ticker_heard t n; actions = action.Print (event_text t.name n (port_label port) now) ∷ [] }
ticker_handled t now (cause.Link port (load.Net y)) = still t
ticker_handled t now (cause.Own line x) = still t
ticker_handled t now (cause.Tick clock) = ticked (raised t) now

abbrev pub ticker_done : Ticker → Bool
ticker_done t = t.ticks == t.count

-- from its start event on, its clock is on until all ticks are counted
abbrev pub ticker_on : Ticker → ℕ → Bool
ticker_on t clock = t.begun && ((clock == 0) && nat_lt t.ticks t.count)

-- no more ticks were counted than are to be
abbrev pub ticker_fits : Ticker → Bool
ticker_fits t = nat_le t.ticks t.count

-- a ticker that was made: it knows the place of its statistic
pub record TickerHolds (t : Ticker) : Type 0 where
  pub count : t.count < 2 ^ 32
  pub place : t.events ≡ place_of t.stats (stat_text stat.Events)
  pub stats : StatsFit t.stats

-- a ticker whose start event is to come
abbrev pub TickerFirst : Ticker → Type 0
TickerFirst t = (t.ticks ≡ 0) × (t.begun ≡ false)

-- ---- its saved form

-- 4 bytes of its ticks, and the statistics; its start event was handled
abbrev pub with_ticker : Ticker → Bool → ℕ → List Entry → Ticker
with_ticker t begun ticks stats = record t { begun = begun; ticks = ticks; stats = stats }

abbrev pub ticker_fields : Ticker → Form RestoreFault (ℕ × List Entry)
ticker_fields t = pair (field 4) (λ n. stats_form t.stats)

abbrev pub ticker_form : Ticker → Form RestoreFault Ticker
ticker_form t = told (ticker_fields t)
    (λ v. with_ticker t true v.0 v.1)
    (λ u. (u.ticks, u.stats))
    (λ u. u ≡ with_ticker t true u.ticks u.stats)

abbrev pub ticker_saving : Saving Ticker Load
ticker_saving = record {
  spell = λ t. (ticker_form t).spell t;
  read = λ t. (ticker_form t).read;
  IsOf = λ t. (ticker_form t).Fits;
  spell_load = load_text;
  read_load = λ t. core_load_form.read;
  IsLoadOf = λ t. core_load_form.Fits;
}

-- ---- the kind

-- another ticker, of the same settings
pub record TickerAlike (t u : Ticker) : Type 0 where
  pub same : u ≡ with_ticker t u.begun u.ticks u.stats
  pub stats : AlikeStats t.stats u.stats

abbrev pub ticker_kind : Kind Ticker Load
ticker_kind = record {
  handled = ticker_handled;
  Meets = λ t now why. TickerHolds t × (cause_fits why ≡ true);
  primary = λ t. t.primary;
  done = ticker_done;
  ticks = ticker_on;
  begun = λ t. t.begun;
  fits = λ t at. ticker_fits t;
  fits_load = λ t why at. cause_fits why;
  channels = λ t port. 0;
  flow = λ t port channel. no_channel;
  limit = λ t port channel. 0;
  weight = load_weight;
  stats = λ t. t.stats;
  Alike = TickerAlike;
}

-- what may be of tickers: each sends numbers out of its first port, where a line leads from it, and has a clock
abbrev pub ticker_allowed : Allowed Ticker Load
ticker_allowed = record {
  holds = TickerHolds;
  first = TickerFirst;
  gives = λ t port y at. load_fits y ≡ true;
  names_port = λ t port. (port ≡ 0) × (t.linked ≡ true);
  names_line = λ t line. ⊥;
  names_clock = λ t clock. clock ≡ 0;
}
