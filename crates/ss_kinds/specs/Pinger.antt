-- The pinger.
use Rattle.std.specs.Prelude.{◌≡◌, ℕ, ◌+◌, ◌-◌, ◌<◌, ◌^◌, ◌==◌, min, nat_lt, nat_le, Bool, true, false, ◌&&◌, List, [], ◌∷◌, ◌++◌, if◌then◌else◌, codes, decimal}
use Rattle.ss_model.specs.declared.Cause.{Cause}
use Rattle.ss_model.specs.declared.Cause.TheVariants as cause
use Rattle.ss_model.specs.declared.Action.TheVariants as action
use Rattle.ss_model.specs.Step.{Reaction}
use Rattle.ss_wire.specs.Form.{Form, pair, told}
use Rattle.ss_stats.specs.Set.{Entry, place_of}
use Rattle.ss_element.specs.declared.fault.RestoreFault.{RestoreFault}
use Rattle.ss_element.specs.Stored.{field, stats_form}
use Rattle.ss_element.specs.Saving.{Saving}
use Rattle.ss_element.specs.Kind.{Kind}
use Rattle.ss_tally.specs.Tally.{tallied, StatsFit, AlikeStats}
use Rattle.ss_safe.specs.Laws.{Allowed}
use Rattle.mr_flow.specs.declared.Load.{Load}
use Rattle.mr_flow.specs.declared.Load.TheVariants as load
use Rattle.mr_flow.specs.Load.{load_weight}
use Rattle.mr_flow.specs.Saved.{load_text, core_load_form}
use Rattle.ss_kinds.specs.declared.pinger.Pinger.{Pinger}
use Rattle.ss_kinds.specs.declared.names.StatName.TheVariants as stat
use Rattle.ss_kinds.specs.Names.{stat_text}
use Rattle.ss_kinds.specs.Number.{sends, still, load_fits, cause_fits, no_channel}

abbrev pub pong_text : List ℕ → ℕ → ℕ → List ℕ
pong_text name n now = name ++ codes ": pong " ++ decimal n ++ codes " at " ++ decimal now ++ codes " ps\n"

-- the pinger that has sent a number
abbrev pub thrown : Pinger → ℕ → ℕ → Pinger
thrown p n now = record p { sent = n; at = now }

-- a number came back
abbrev pub returned : Pinger → ℕ → Pinger
returned p now = record p { got = min (p.got + 1) p.count; stats = tallied p.stats (stat_text stat.Roundtrip) (now - p.at) }

-- a number came back, is printed, and the next is sent, where one is to be
abbrev pub number_back : Pinger → ℕ → ℕ → Reaction Pinger Load
number_back p n now =
    if nat_lt p.sent p.count
    then record { state = thrown (returned p now) (p.sent + 1) now; actions = action.Print (pong_text p.name n now) ∷ sends (p.sent + 1) ∷ [] }
    else record { state = returned p now; actions = action.Print (pong_text p.name n now) ∷ [] }

abbrev pub pinger_handled : Pinger → ℕ → Cause Load → Reaction Pinger Load
pinger_handled p now cause.Start =
    if nat_lt 0 p.count
    then record { state = thrown p 1 now; actions = sends 1 ∷ [] }
    else still p
pinger_handled p now (cause.Link port (load.Core n)) = number_back p n now
pinger_handled p now (cause.Link port (load.Net y)) = still p
pinger_handled p now (cause.Own line x) = still p
pinger_handled p now (cause.Tick clock) = still p

abbrev pub pinger_done : Pinger → Bool
pinger_done p = p.got == p.count

-- no more was sent, and no more came back, than is to be, and it last sent before the time
abbrev pub pinger_fits : Pinger → ℕ → Bool
pinger_fits p at = nat_le p.sent p.count && (nat_le p.got p.count && nat_lt p.at at)

-- a pinger that was made: it knows the place of its statistic
pub record PingerHolds (p : Pinger) : Type 0 where
  pub count : p.count < 2 ^ 32
  pub place : p.roundtrip ≡ place_of p.stats (stat_text stat.Roundtrip)
  pub stats : StatsFit p.stats

-- a pinger whose start event is to come
abbrev pub PingerFirst : Pinger → Type 0
PingerFirst p = (p.sent ≡ 0) × (p.got ≡ 0) × (p.at ≡ 0)

-- ---- its saved form

-- 4 bytes of what it sent last, 4 of how many came back, 8 of when it sent, and the statistics
abbrev pub with_pinger : Pinger → ℕ → ℕ → ℕ → List Entry → Pinger
with_pinger p sent got at stats = record p { sent = sent; got = got; at = at; stats = stats }

abbrev pub pinger_fields : Pinger → Form RestoreFault (ℕ × (ℕ × (ℕ × List Entry)))
pinger_fields p = pair (field 4) (λ n. pair (field 4) (λ m. pair (field 8) (λ k. stats_form p.stats)))

abbrev pub pinger_form : Pinger → Form RestoreFault Pinger
pinger_form p = told (pinger_fields p)
    (λ v. with_pinger p v.0 v.1.0 v.1.1.0 v.1.1.1)
    (λ q. (q.sent, (q.got, (q.at, q.stats))))
    (λ q. q ≡ with_pinger p q.sent q.got q.at q.stats)

abbrev pub pinger_saving : Saving Pinger Load
pinger_saving = record {
  spell = λ p. (pinger_form p).spell p;
  read = λ p. (pinger_form p).read;
  IsOf = λ p. (pinger_form p).Fits;
  spell_load = load_text;
  read_load = λ p. core_load_form.read;
  IsLoadOf = λ p. core_load_form.Fits;
}

-- ---- the kind

-- another pinger, of the same settings
pub record PingerAlike (p q : Pinger) : Type 0 where
  pub same : q ≡ with_pinger p q.sent q.got q.at q.stats
  pub stats : AlikeStats p.stats q.stats

abbrev pub pinger_kind : Kind Pinger Load
pinger_kind = record {
  handled = pinger_handled;
  Meets = λ p now why. PingerHolds p × (cause_fits why ≡ true);
  primary = λ p. true;
  done = pinger_done;
  ticks = λ p clock. false;
  begun = λ p. true;
  fits = pinger_fits;
  fits_load = λ p why at. cause_fits why;
  channels = λ p port. 0;
  flow = λ p port channel. no_channel;
  limit = λ p port channel. 0;
  weight = load_weight;
  stats = λ p. p.stats;
  Alike = PingerAlike;
}

-- what may be of pingers: each sends numbers out of its port
abbrev pub pinger_allowed : Allowed Pinger Load
pinger_allowed = record {
  holds = PingerHolds;
  first = PingerFirst;
  gives = λ p port y at. load_fits y ≡ true;
  names_port = λ p port. port ≡ 0;
  names_line = λ p line. ⊥;
  names_clock = λ p clock. ⊥;
}
