-- The echo.
use Rattle.std.specs.Prelude.{◌≡◌, ℕ, ◌≤◌, ◌^◌, ◌==◌, true, false, List, [], ◌∷◌, if◌then◌else◌}
use Rattle.ss_model.specs.declared.Cause.{Cause}
use Rattle.ss_model.specs.declared.Cause.TheVariants as cause
use Rattle.ss_model.specs.declared.Action.TheVariants as action
use Rattle.ss_model.specs.Step.{Reaction}
use Rattle.ss_wire.specs.Form.{Form, told}
use Rattle.ss_stats.specs.Set.{Entry, place_of}
use Rattle.ss_element.specs.declared.fault.RestoreFault.{RestoreFault}
use Rattle.ss_element.specs.Stored.{stats_form}
use Rattle.ss_element.specs.Saving.{Saving}
use Rattle.ss_element.specs.Kind.{Kind}
use Rattle.ss_tally.specs.Tally.{tallied, StatsFit, AlikeStats}
use Rattle.ss_safe.specs.Laws.{Allowed}
use Rattle.mr_flow.specs.declared.Load.{Load}
use Rattle.mr_flow.specs.declared.Load.TheVariants as load
use Rattle.mr_flow.specs.Load.{load_weight}
use Rattle.mr_flow.specs.Saved.{load_text, core_load_form}
use Rattle.ss_kinds.specs.declared.echo.Echo.{Echo}
use Rattle.ss_kinds.specs.declared.names.StatName.TheVariants as stat
use Rattle.ss_kinds.specs.Names.{stat_text}
use Rattle.ss_kinds.specs.Number.{sends, still, load_fits, cause_fits, no_channel}

-- a number came
abbrev pub echo_heard : Echo → ℕ → Echo
echo_heard e n = record e { stats = tallied e.stats (stat_text stat.Received) n }

abbrev pub echo_handled : Echo → Cause Load → Reaction Echo Load
echo_handled e cause.Start = still e
echo_handled e (cause.Link port (load.Core n)) = record { state = echo_heard e n; actions = (if e.delay == 0 then sends n else action.SelfSend 0 e.delay (load.Core n)) ∷ [] }
echo_handled e (cause.Link port (load.Net y)) = still e
echo_handled e (cause.Own line (load.Core n)) = record { state = e; actions = sends n ∷ [] }
echo_handled e (cause.Own line (load.Net y)) = still e
echo_handled e (cause.Tick clock) = still e

-- an echo that was made: a self send's delay is within what a run can add, and it knows the place of its statistic
pub record EchoHolds (e : Echo) : Type 0 where
  pub delay : e.delay ≤ 2 ^ 40
  pub place : e.received ≡ place_of e.stats (stat_text stat.Received)
  pub stats : StatsFit e.stats

-- ---- its saved form

-- nothing but its statistics
abbrev pub with_echo : Echo → List Entry → Echo
with_echo e stats = record e { stats = stats }

abbrev pub echo_form : Echo → Form RestoreFault Echo
echo_form e = told (stats_form e.stats) (with_echo e) (λ f. f.stats) (λ f. f ≡ with_echo e f.stats)

abbrev pub echo_saving : Saving Echo Load
echo_saving = record {
  spell = λ e. (echo_form e).spell e;
  read = λ e. (echo_form e).read;
  IsOf = λ e. (echo_form e).Fits;
  spell_load = load_text;
  read_load = λ e. core_load_form.read;
  IsLoadOf = λ e. core_load_form.Fits;
}

-- ---- the kind

-- another echo, of the same settings
pub record EchoAlike (e f : Echo) : Type 0 where
  pub same : f ≡ with_echo e f.stats
  pub stats : AlikeStats e.stats f.stats

abbrev pub echo_kind : Kind Echo Load
echo_kind = record {
  handled = λ e now why. echo_handled e why;
  Meets = λ e now why. EchoHolds e × (cause_fits why ≡ true);
  primary = λ e. false;
  done = λ e. true;
  ticks = λ e clock. false;
  begun = λ e. true;
  fits = λ e at. true;
  fits_load = λ e why at. cause_fits why;
  channels = λ e port. 0;
  flow = λ e port channel. no_channel;
  limit = λ e port channel. 0;
  weight = load_weight;
  stats = λ e. e.stats;
  Alike = EchoAlike;
}

-- what may be of echoes: each sends numbers out of its port, and to itself
abbrev pub echo_allowed : Allowed Echo Load
echo_allowed = record {
  holds = EchoHolds;
  first = λ e. Unit {0};
  gives = λ e port y at. load_fits y ≡ true;
  names_port = λ e port. port ≡ 0;
  names_line = λ e line. line ≡ 0;
  names_clock = λ e clock. ⊥;
}
