-- Echoes keep their local laws, and so have their world and are saved. The proofs.
use Rattle.std.proofs.Common.{◌≡◌, ℕ, ◌≤◌, ◌^◌, Bool, true, false, [], ◌∷◌, cond, refl, sym, ap, subst, ◌∙◌, ◌+◌, arith}
use Rattle.std.specs.Prelude.{nat_lt, nat_eq}
use Rattle.std.proofs.lemmas.Bool.Decides.{nat_tests}
use Rattle.ss_wire.specs.Form.{IsForm}
use Rattle.ss_wire.proofs.Forms.{told_form}
use Rattle.ss_model.specs.declared.Cause.{Cause}
use Rattle.ss_model.specs.declared.Cause.TheVariants as cause
use Rattle.ss_model.specs.declared.Action.TheVariants as action
use Rattle.ss_model.specs.Step.{State, Reaction}
use Rattle.ss_model.specs.Wiring.{Wiring}
use Rattle.ss_element.specs.World.{World}
use Rattle.ss_element.specs.Saving.{SavingLaws, CauseIsOf}
use Rattle.ss_element.specs.Stored.{stats_form}
use Rattle.ss_element.proofs.Stored.{stats_are_form}
use Rattle.ss_tally.specs.Kept.{place_kept, place_read, tallied_alike, tallied_fits, read_alike, read_fits, refit}
use Rattle.ss_safe.specs.Laws.{MayHear, KindLaws, KindSaves}
use Rattle.ss_safe.specs.Kept.Flow.{no_room}
use Rattle.ss_safe.specs.Safe.{Safe}
use Rattle.ss_safe.specs.Worlds.{world_of, saved_of}
use Rattle.mr_flow.specs.declared.Load.{Load}
use Rattle.mr_flow.specs.declared.Load.TheVariants as load
use Rattle.mr_flow.specs.Load.{load_weight}
use Rattle.mr_flow.specs.Saved.{load_text}
use Rattle.mr_flow.proofs.Saved.{core_load_is_form}
use Rattle.ss_kinds.specs.declared.echo.Echo.{Echo}
use Rattle.ss_kinds.specs.declared.names.StatName.TheVariants as stat
use Rattle.ss_kinds.specs.Names.{stat_text}
use Rattle.ss_kinds.specs.Number.{sends, cause_fits}
use Rattle.ss_kinds.specs.Echo.{echo_heard, echo_handled, EchoHolds, with_echo, echo_form, echo_saving, EchoAlike, echo_kind, echo_allowed}
use Rattle.ss_kinds.specs.Core.{number_below, number_saved, Kept, keeps_of}

-- ---- alike

same_echo : (e : Echo) → EchoAlike e e
same_echo e = record { same = refl; stats = refl }

alike_through : (e f g : Echo) → EchoAlike e f → EchoAlike f g → EchoAlike e g
alike_through e f g a b = record { same = b.same ∙ ap (λ y. with_echo y g.stats) a.same; stats = b.stats ∙ a.stats }

handled_alike : (e : Echo) (why : Cause Load) → EchoAlike e (echo_handled e why).state
handled_alike e cause.Start = same_echo e
handled_alike e (cause.Link port (load.Core n)) = record { same = refl; stats = tallied_alike e.stats (stat_text stat.Received) n }
handled_alike e (cause.Link port (load.Net y)) = same_echo e
handled_alike e (cause.Own line (load.Core n)) = same_echo e
handled_alike e (cause.Own line (load.Net y)) = same_echo e
handled_alike e (cause.Tick clock) = same_echo e

-- ---- what becomes of an echo that is told something

abbrev EchoKept : Echo → ℕ → Cause Load → Reaction Echo Load → Type 0
EchoKept = Kept echo_kind echo_allowed

heard_holds : (e : Echo) (n : ℕ) → nat_lt n (2 ^ 32) ≡ true → EchoHolds e → EchoHolds (echo_heard e n)
heard_holds e n small h =
    let below = number_below n small in
    record {
      delay = h.delay;
      place = h.place ∙ place_kept e.stats (stat_text stat.Received) (stat_text stat.Received) n;
      stats = tallied_fits e.stats (stat_text stat.Received) n (omega arith) h.stats;
    }

echo_by : (e : Echo) (port n now : ℕ) (b : Bool) → nat_eq e.delay 0 ≡ b → EchoHolds e → nat_lt n (2 ^ 32) ≡ true → EchoKept e now (cause.Link port (load.Core n)) (record { state = echo_heard e n; actions = cond b (sends n) (action.SelfSend 0 e.delay (load.Core n)) ∷ [] })
echo_by e port n now true d h m = record { holds = heard_holds e n m h; fit = refl; begun = refl; acts = (omega arith, tt); sends = (m, tt); names = (refl, tt); clocks = λ i. refl }
echo_by e port n now false d h m = record { holds = heard_holds e n m h; fit = refl; begun = refl; acts = ((grind (arith, nat_tests), h.delay), tt); sends = (m, tt); names = (refl, tt); clocks = λ i. refl }

kept : (e : Echo) (now : ℕ) (why : Cause Load) → EchoHolds e → MayHear echo_kind e (now + 1) why → EchoKept e now why (echo_handled e why)
kept e now cause.Start h m = record { holds = h; fit = refl; begun = refl; acts = tt; sends = tt; names = tt; clocks = λ i. refl }
kept e now (cause.Link port (load.Core n)) h m = echo_by e port n now (nat_eq e.delay 0) refl h m
kept e now (cause.Link port (load.Net y)) h m = absurd cc
kept e now (cause.Own line (load.Net y)) h m = absurd cc
kept e now (cause.Own line (load.Core n)) h m = record { holds = h; fit = refl; begun = refl; acts = (omega arith, tt); sends = (m, tt); names = (refl, tt); clocks = λ i. refl }
kept e now (cause.Tick clock) h m = record { holds = h; fit = refl; begun = refl; acts = tt; sends = tt; names = tt; clocks = λ i. refl }

heard_fits : (e : Echo) (at : ℕ) (why : Cause Load) → MayHear echo_kind e at why → cause_fits why ≡ true
heard_fits e at cause.Start h = refl
heard_fits e at (cause.Link port y) h = h
heard_fits e at (cause.Own line y) h = h
heard_fits e at (cause.Tick clock) h = refl

pub echo_laws : KindLaws echo_kind echo_allowed
echo_laws = record {
  fits_later = λ e at later up early fit. fit;
  loads_later = λ e why at later up early fit. fit;
  capacity_fits = λ e port ch holds in_range. absurd (omega (arith, in_range));
  same_room = λ e f alike. no_room echo_kind (λ z port. refl) e f;
  hears_alike = λ e f why at alike fit. fit;
  gives_alike = λ e f port y at alike may. may;
  names_alike = λ e f alike. record { ports = λ n may. may; lines = λ i may. may; clocks = λ i may. may };
  meets = λ e now why may. (may.holds, heard_fits e (now + 1) why may.heard);
  keeps = λ e now why may. keeps_of echo_kind echo_allowed (λ y port. refl) e now why (echo_handled e why) (kept e now why may.holds may.heard) (handled_alike e why);
  primary_stays = λ e now why. refl;
  done_stays = λ e now why d. d;
}

abbrev pub echo_safe : Wiring → ℕ → State Echo Load → Type 0
echo_safe = Safe echo_kind echo_allowed

pub echo_world : World echo_kind echo_safe
echo_world = world_of echo_kind echo_allowed echo_laws

-- ---- saving

echo_is_form : (e : Echo) → IsForm (echo_form e)
echo_is_form e = told_form (stats_form e.stats) (with_echo e) (λ f. f.stats) (λ f. f ≡ with_echo e f.stats) (λ v f. refl) (λ v f. refl) (λ f t. sym t) (stats_are_form e.stats)

read_holds : (e g : Echo) → (echo_form e).Fits g → EchoHolds e → EchoHolds g
read_holds e g f h = record {
  delay = subst (λ n. n ≤ 2 ^ 40) (sym (ap (λ y. y.delay) f.0)) h.delay;
  place = place_read e.stats g.stats (stat_text stat.Received) e.received g.received f.1 (ap (λ y. y.received) f.0) h.place;
  stats = read_fits e.stats g.stats f.1;
}

loads_saved : (e : Echo) (why : Cause Load) (at : ℕ) → MayHear echo_kind e at why → CauseIsOf echo_saving e why
loads_saved e cause.Start at h = tt
loads_saved e (cause.Link port y) at h = number_saved y h
loads_saved e (cause.Own line y) at h = number_saved y h
loads_saved e (cause.Tick clock) at h = tt

pub echo_saves : KindSaves echo_kind echo_allowed echo_saving
echo_saves = record {
  states = echo_is_form;
  loads = λ e. core_load_is_form;
  begun = λ e g f. refl;
  read_alike = λ e g f. record { same = f.0; stats = read_alike e.stats g.stats f.1 };
  read_holds = read_holds;
  alike_same = same_echo;
  alike_through = alike_through;
  handled_alike = λ e now why meets. handled_alike e why;
  alike_read = λ e g a f. (a.same, refit g.stats e.stats g.stats a.stats f.1);
  states_saved = λ e at early h b f. (refl, h.stats);
  loads_saved = λ e why at early holds heard. loads_saved e why at heard;
}

pub echo_saved : SavingLaws echo_kind echo_saving echo_safe load_weight load_text
echo_saved = saved_of echo_kind echo_allowed echo_laws echo_saving echo_saves load_weight load_text (λ y. refl) (λ y. refl)
