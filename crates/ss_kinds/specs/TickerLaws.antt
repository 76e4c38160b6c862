-- Tickers keep their local laws, and so have their world and are saved. The proofs.
use Rattle.std.proofs.Common.{◌≡◌, ℕ, ◌+◌, ◌<◌, ◌≤◌, ◌^◌, ◌==◌, Bool, true, false, ◌&&◌, List, [], ◌∷◌, ◌++◌, cond, refl, sym, ap, subst, ◌∙◌, arith}
use Rattle.std.specs.Prelude.{nat_lt, nat_eq}
use Rattle.std.proofs.lemmas.Bool.Decides.{nat_tests}
use Rattle.ss_wire.specs.Form.{IsForm}
use Rattle.ss_wire.proofs.Forms.{pair_form, told_form}
use Rattle.ss_model.specs.declared.Cause.{Cause}
use Rattle.ss_model.specs.declared.Cause.TheVariants as cause
use Rattle.ss_model.specs.declared.Action.TheVariants as action
use Rattle.ss_model.specs.Step.{State, Reaction}
use Rattle.ss_model.specs.Wiring.{Wiring}
use Rattle.ss_element.specs.World.{World}
use Rattle.ss_element.specs.Saving.{SavingLaws, CauseIsOf}
use Rattle.ss_element.specs.Stored.{field, stats_form}
use Rattle.ss_element.proofs.Stored.{field_form, stats_are_form}
use Rattle.ss_tally.specs.Kept.{place_kept, place_read, tallied_alike, tallied_fits, read_alike, read_fits, refit}
use Rattle.ss_safe.specs.Laws.{MayHear, IsDue, ClockKeeps, NamesAsMuch, KindLaws, KindSaves}
use Rattle.ss_safe.specs.Kept.Flow.{no_room}
use Rattle.ss_safe.specs.Safe.{Safe}
use Rattle.ss_safe.specs.Worlds.{world_of, saved_of}
use Rattle.mr_flow.specs.declared.Load.{Load}
use Rattle.mr_flow.specs.declared.Load.TheVariants as load
use Rattle.mr_flow.specs.Load.{load_weight}
use Rattle.mr_flow.specs.Saved.{load_text}
use Rattle.mr_flow.proofs.Saved.{core_load_is_form}
use Rattle.ss_kinds.specs.declared.ticker.Ticker.{Ticker}
use Rattle.ss_kinds.specs.declared.names.StatName.TheVariants as stat
use Rattle.ss_kinds.specs.Names.{stat_text}
use Rattle.ss_kinds.specs.Number.{sends, cause_fits}
use Rattle.ss_kinds.specs.Ticker.{tick_text, raised, ticker_heard, ticker_handled, ticker_done, ticker_on, ticker_fits, TickerHolds, with_ticker, ticker_fields, ticker_form, ticker_saving, TickerAlike, ticker_kind, ticker_allowed}
use Rattle.ss_kinds.specs.Core.{done_again, number_below, number_saved, Kept, keeps_of}

-- ---- alike

same_ticker : (t : Ticker) → TickerAlike t t
same_ticker t = record { same = refl; stats = refl }

alike_through : (t u v : Ticker) → TickerAlike t u → TickerAlike u v → TickerAlike t v
alike_through t u v a b = record { same = b.same ∙ ap (λ y. with_ticker y v.begun v.ticks v.stats) a.same; stats = b.stats ∙ a.stats }

names_alike : (t u : Ticker) → TickerAlike t u → NamesAsMuch ticker_kind ticker_allowed t u
names_alike t u a = record {
  ports = λ n may. (may.0, sym (ap (λ y. y.linked) a.same) ∙ may.1);
  lines = λ i may. may;
  clocks = λ i may. may;
}

handled_alike : (t : Ticker) (now : ℕ) (why : Cause Load) → TickerAlike t (ticker_handled t now why).state
handled_alike t now cause.Start = record { same = refl; stats = refl }
handled_alike t now (cause.Link port (load.Core n)) = record { same = refl; stats = tallied_alike t.stats (stat_text stat.Events) n }
handled_alike t now (cause.Link port (load.Net y)) = same_ticker t
handled_alike t now (cause.Own line y) = same_ticker t
handled_alike t now (cause.Tick clock) = record { same = refl; stats = refl }

-- ---- what becomes of a ticker that is told something

abbrev TickerKept : Ticker → ℕ → Cause Load → Reaction Ticker Load → Type 0
TickerKept = Kept ticker_kind ticker_allowed

-- a clock that was off is turned on, or isn't turned
turn_on : (why : Cause Load) (i : ℕ) (x a b y : Bool) → x ≡ false → a ≡ b → y ≡ true → ClockKeeps why i x (cond {A = List Bool} b (true ∷ []) [] ++ []) (a && y)
turn_on why i x true true y e s f = (e, f)
turn_on why i x true false y e s f = absurd (cc)
turn_on why i x false true y e s f = absurd (cc)
turn_on why i x false false y e s f = cc

stay_off : (x a y : Bool) → x ≡ false → y ≡ false → (a && y) ≡ x
stay_off x true y e f = cc
stay_off x false y e f = cc

-- a clock is turned off at its tick, or isn't turned
turn_off : (k i : ℕ) (g a b x y : Bool) → (b ≡ true → k ≡ i) → g ≡ true → a ≡ b → y ≡ false → ClockKeeps {L = Load} (cause.Tick k) i (g && (a && x)) (cond {A = List Bool} b (false ∷ []) [] ++ []) (g && (a && y))
turn_off k i true true true x y same o e f = let s : k ≡ i = same refl in (cc, f)
turn_off k i true true false x y same o e f = absurd (cc)
turn_off k i true false true x y same o e f = absurd (cc)
turn_off k i true false false x y same o e f = refl
turn_off k i false a b x y same o e f = absurd (cc)

other_way : (i : ℕ) → nat_eq i 0 ≡ nat_eq 0 i
other_way i = zero_by (nat_eq i 0) (nat_eq 0 i) refl refl
  where
    zero_by : (a b : Bool) → nat_eq i 0 ≡ a → nat_eq 0 i ≡ b → a ≡ b
    zero_by true true e f = refl
    zero_by true false e f = absurd (grind (arith, nat_tests))
    zero_by false true e f = absurd (grind (arith, nat_tests))
    zero_by false false e f = refl

start_ticker : (t : Ticker) (now : ℕ) (b : Bool) → nat_lt 0 t.count ≡ b → TickerHolds t → ticker_fits t ≡ true → t.ticks ≡ 0 → ((i : ℕ) → ticker_on t i ≡ false) → TickerKept t now cause.Start (record { state = record t { begun = true }; actions = cond b (action.ClockOn 0 ∷ []) [] })
start_ticker t now true e h f z off = record { holds = record { count = h.count; place = h.place; stats = h.stats }; fit = f; begun = refl; acts = (tt, tt); sends = (tt, tt); names = (refl, tt); clocks = λ i. turn_on cause.Start i (ticker_on t i) (nat_eq i 0) (nat_eq 0 i) (nat_lt t.ticks t.count) (off i) (other_way i) (grind (arith, nat_tests)) }
start_ticker t now false e h f z off = record { holds = record { count = h.count; place = h.place; stats = h.stats }; fit = f; begun = refl; acts = tt; sends = tt; names = tt; clocks = λ i. stay_off (ticker_on t i) (nat_eq i 0) (nat_lt t.ticks t.count) (off i) (grind (arith, nat_tests)) }

-- what is known where a tick comes
all_three : (g a x : Bool) → (g && (a && x)) ≡ true → (g ≡ true) × (a ≡ true) × (x ≡ true)
all_three true true true h = (refl, refl, refl)
all_three true true false h = absurd (cc)
all_three true false x h = absurd (cc)
all_three false a x h = absurd (cc)

off_at : (t : Ticker) (k i : ℕ) → t.begun ≡ true → k ≡ 0 → t.ticks < t.count → (raised t).ticks == t.count ≡ true → ClockKeeps {L = Load} (cause.Tick k) i (ticker_on t i) (cond {A = List Bool} (nat_eq 0 i) (false ∷ []) [] ++ []) (ticker_on (raised t) i)
off_at t k i g z h e = turn_off k i t.begun (nat_eq i 0) (nat_eq 0 i) (nat_lt t.ticks t.count) (nat_lt (raised t).ticks t.count) (λ b. grind (arith, nat_tests)) g (other_way i) (grind (arith, nat_tests))

on_at : (t : Ticker) (i : ℕ) → t.ticks < t.count → (raised t).ticks == t.count ≡ false → ticker_on (raised t) i ≡ ticker_on t i
on_at t i h e =
    let a : nat_lt (raised t).ticks t.count ≡ true = grind (arith, nat_tests) in
    let b : nat_lt t.ticks t.count ≡ true = grind (arith, nat_tests) in
    rw (a, b) refl

raised_fits : (t : Ticker) → ticker_fits (raised t) ≡ true
raised_fits t = grind (arith, nat_tests)

below_count : (t : Ticker) → TickerHolds t → nat_lt (raised t).ticks (2 ^ 32) ≡ true
below_count t h = let c = h.count in grind (arith, nat_tests)

tick_by : (t : Ticker) (now k : ℕ) (l d : Bool) → TickerHolds t → t.begun ≡ true → k ≡ 0 → t.ticks < t.count → (raised t).ticks == t.count ≡ d → t.linked ≡ l → TickerKept t now (cause.Tick k) (record { state = raised t; actions = action.Print (tick_text t.name (raised t).ticks now) ∷ cond l (sends (raised t).ticks ∷ []) [] ++ cond d (action.ClockOff 0 ∷ []) [] })
tick_by t now k true true f g z h e u = record { holds = record { count = f.count; place = f.place; stats = f.stats }; fit = raised_fits t; begun = g; acts = (tt, (omega arith, (tt, tt))); sends = (tt, (below_count t f, (tt, tt))); names = (tt, ((refl, u), (refl, tt))); clocks = λ i. off_at t k i g z h e }
tick_by t now k true false f g z h e u = record { holds = record { count = f.count; place = f.place; stats = f.stats }; fit = raised_fits t; begun = g; acts = (tt, (omega arith, tt)); sends = (tt, (below_count t f, tt)); names = (tt, ((refl, u), tt)); clocks = λ i. on_at t i h e }
tick_by t now k false true f g z h e u = record { holds = record { count = f.count; place = f.place; stats = f.stats }; fit = raised_fits t; begun = g; acts = (tt, (tt, tt)); sends = (tt, (tt, tt)); names = (tt, (refl, tt)); clocks = λ i. off_at t k i g z h e }
tick_by t now k false false f g z h e u = record { holds = record { count = f.count; place = f.place; stats = f.stats }; fit = raised_fits t; begun = g; acts = (tt, tt); sends = (tt, tt); names = (tt, tt); clocks = λ i. on_at t i h e }

due_tick : (t : Ticker) (now k : ℕ) → TickerHolds t → (t.begun ≡ true) × (nat_eq k 0 ≡ true) × (nat_lt t.ticks t.count ≡ true) → TickerKept t now (cause.Tick k) (ticker_handled t now (cause.Tick k))
due_tick t now k f h = tick_by t now k t.linked ((raised t).ticks == t.count) f h.0 (let e = h.1 in grind (arith, nat_tests)) (let e = h.2 in grind (arith, nat_tests)) refl refl

events_hold : (t : Ticker) (n : ℕ) → nat_lt n (2 ^ 32) ≡ true → TickerHolds t → TickerHolds (ticker_heard t n)
events_hold t n small h =
    let below = number_below n small in
    record {
      count = h.count;
      place = h.place ∙ place_kept t.stats (stat_text stat.Events) (stat_text stat.Events) n;
      stats = tallied_fits t.stats (stat_text stat.Events) n (omega arith) h.stats;
    }

kept : (t : Ticker) (now : ℕ) (why : Cause Load) → TickerHolds t → ticker_fits t ≡ true → MayHear ticker_kind t (now + 1) why → IsDue ticker_kind ticker_allowed t now why → TickerKept t now why (ticker_handled t now why)
kept t now cause.Start h f m due = start_ticker t now (nat_lt 0 t.count) refl h f due.1.0 due.2
kept t now (cause.Link port (load.Core n)) h f m due = record { holds = events_hold t n m h; fit = f; begun = due; acts = (tt, tt); sends = (tt, tt); names = (tt, tt); clocks = λ i. refl }
kept t now (cause.Link port (load.Net y)) h f m due = absurd cc
kept t now (cause.Own line y) h f m due = record { holds = h; fit = f; begun = due; acts = tt; sends = tt; names = tt; clocks = λ i. refl }
kept t now (cause.Tick k) h f m due = let a = all_three t.begun (nat_eq k 0) (nat_lt t.ticks t.count) due.1 in due_tick t now k h (due.0, a.1, a.2)

done_stays : (t : Ticker) (now : ℕ) (why : Cause Load) → ticker_done t ≡ true → ticker_done (ticker_handled t now why).state ≡ true
done_stays t now cause.Start d = d
done_stays t now (cause.Link port (load.Core n)) d = d
done_stays t now (cause.Link port (load.Net y)) d = d
done_stays t now (cause.Own line y) d = d
done_stays t now (cause.Tick k) d = done_again t.ticks t.count d

primary_stays : (t : Ticker) (now : ℕ) (why : Cause Load) → (ticker_handled t now why).state.primary ≡ t.primary
primary_stays t now cause.Start = refl
primary_stays t now (cause.Link port (load.Core n)) = refl
primary_stays t now (cause.Link port (load.Net y)) = refl
primary_stays t now (cause.Own line y) = refl
primary_stays t now (cause.Tick k) = refl

heard_fits : (t : Ticker) (at : ℕ) (why : Cause Load) → MayHear ticker_kind t at why → cause_fits why ≡ true
heard_fits t at cause.Start h = refl
heard_fits t at (cause.Link port y) h = h
heard_fits t at (cause.Own line y) h = h
heard_fits t at (cause.Tick clock) h = refl

pub ticker_laws : KindLaws ticker_kind ticker_allowed
ticker_laws = record {
  fits_later = λ t at later up early fit. fit;
  loads_later = λ t why at later up early fit. fit;
  capacity_fits = λ t port ch holds in_range. absurd (omega (arith, in_range));
  same_room = λ t u alike. no_room ticker_kind (λ z port. refl) t u;
  hears_alike = λ t u why at alike fit. fit;
  gives_alike = λ t u port y at alike may. may;
  names_alike = names_alike;
  meets = λ t now why may. (may.holds, heard_fits t (now + 1) why may.heard);
  keeps = λ t now why may. keeps_of ticker_kind ticker_allowed (λ y port. refl) t now why (ticker_handled t now why) (kept t now why may.holds may.fit may.heard may.due) (handled_alike t now why);
  primary_stays = primary_stays;
  done_stays = done_stays;
}

abbrev pub ticker_safe : Wiring → ℕ → State Ticker Load → Type 0
ticker_safe = Safe ticker_kind ticker_allowed

pub ticker_world : World ticker_kind ticker_safe
ticker_world = world_of ticker_kind ticker_allowed ticker_laws

-- ---- saving

ticker_is_form : (t : Ticker) → IsForm (ticker_form t)
ticker_is_form t = told_form (ticker_fields t)
    (λ v. with_ticker t true v.0 v.1)
    (λ u. (u.ticks, u.stats))
    (λ u. u ≡ with_ticker t true u.ticks u.stats)
    (λ v f. refl) (λ v f. refl) (λ u h. sym h)
    (pair_form (field 4) (λ n. stats_form t.stats) (field_form 4) (λ n. stats_are_form t.stats))

read_alike_too : (t u : Ticker) → (ticker_form t).Fits u → TickerAlike t u
read_alike_too t u f = record {
  same = f.0 ∙ ap (λ b. with_ticker t b u.ticks u.stats) (sym (ap (λ y. y.begun) f.0));
  stats = read_alike t.stats u.stats f.1.1;
}

read_holds : (t u : Ticker) → (ticker_form t).Fits u → TickerHolds t → TickerHolds u
read_holds t u f h = record {
  count = subst (λ n. n < 2 ^ 32) (sym (ap (λ y. y.count) f.0)) h.count;
  place = place_read t.stats u.stats (stat_text stat.Events) t.events u.events f.1.1 (ap (λ y. y.events) f.0) h.place;
  stats = read_fits t.stats u.stats f.1.1;
}

ticks_below : (t : Ticker) → t.count < 2 ^ 32 → ticker_fits t ≡ true → t.ticks < 256 ^ 4
ticks_below t c f = let h : t.ticks ≤ t.count = grind (arith, nat_tests) in omega arith

loads_saved : (t : Ticker) (why : Cause Load) (at : ℕ) → MayHear ticker_kind t at why → CauseIsOf ticker_saving t why
loads_saved t cause.Start at h = tt
loads_saved t (cause.Link port y) at h = number_saved y h
loads_saved t (cause.Own line y) at h = number_saved y h
loads_saved t (cause.Tick clock) at h = tt

pub ticker_saves : KindSaves ticker_kind ticker_allowed ticker_saving
ticker_saves = record {
  states = ticker_is_form;
  loads = λ t. core_load_is_form;
  begun = λ t u f. ap (λ y. y.begun) f.0;
  read_alike = read_alike_too;
  read_holds = read_holds;
  alike_same = same_ticker;
  alike_through = alike_through;
  handled_alike = λ t now why meets. handled_alike t now why;
  alike_read = λ t u a f. (a.same ∙ ap (λ b. with_ticker t b u.ticks u.stats) (ap (λ y. y.begun) f.0), (f.1.0, refit u.stats t.stats u.stats a.stats f.1.1));
  states_saved = λ t at early h b f. (ap (λ y. with_ticker t y t.ticks t.stats) b, (ticks_below t h.count f, h.stats));
  loads_saved = λ t why at early holds heard. loads_saved t why at heard;
}

pub ticker_saved : SavingLaws ticker_kind ticker_saving ticker_safe load_weight load_text
ticker_saved = saved_of ticker_kind ticker_allowed ticker_laws ticker_saving ticker_saves load_weight load_text (λ y. refl) (λ y. refl)
