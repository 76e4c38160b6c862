-- Pingers keep their local laws, and so have their world and are saved. The proofs.
use Rattle.std.proofs.Common.{◌≡◌, ℕ, ◌+◌, ◌-◌, ◌<◌, ◌≤◌, ◌^◌, min, Bool, true, false, ◌&&◌, [], ◌∷◌, cond, refl, sym, ap, subst, ◌∙◌, arith}
use Rattle.std.specs.Prelude.{nat_lt, nat_le}
use Rattle.std.proofs.lemmas.Bool.Decides.{nat_tests}
use Rattle.ss_wire.specs.Form.{IsForm}
use Rattle.ss_wire.proofs.Forms.{pair_form, told_form}
use Rattle.ss_model.specs.declared.Cause.{Cause}
use Rattle.ss_model.specs.declared.Cause.TheVariants as cause
use Rattle.ss_model.specs.declared.Action.TheVariants as action
use Rattle.ss_model.specs.Step.{State, Reaction}
use Rattle.ss_model.specs.Wiring.{Wiring}
use Rattle.ss_element.specs.World.{World}
use Rattle.ss_element.specs.Saving.{SavingLaws, CauseIsOf}
use Rattle.ss_element.specs.Stored.{field, stats_form}
use Rattle.ss_element.proofs.Stored.{field_form, stats_are_form}
use Rattle.ss_tally.specs.Kept.{place_kept, place_read, tallied_alike, tallied_fits, read_alike, read_fits, refit}
use Rattle.ss_safe.specs.Laws.{MayHear, KindLaws, KindSaves}
use Rattle.ss_safe.specs.Kept.Flow.{no_room}
use Rattle.ss_safe.specs.Safe.{Safe}
use Rattle.ss_safe.specs.Worlds.{world_of, saved_of}
use Rattle.mr_flow.specs.declared.Load.{Load}
use Rattle.mr_flow.specs.declared.Load.TheVariants as load
use Rattle.mr_flow.specs.Load.{load_weight}
use Rattle.mr_flow.specs.Saved.{load_text}
use Rattle.mr_flow.proofs.Saved.{core_load_is_form}
use Rattle.ss_kinds.specs.declared.pinger.Pinger.{Pinger}
use Rattle.ss_kinds.specs.declared.names.StatName.TheVariants as stat
use Rattle.ss_kinds.specs.Names.{stat_text}
use Rattle.ss_kinds.specs.Number.{sends, still, cause_fits}
use Rattle.ss_kinds.specs.Pinger.{pong_text, thrown, returned, pinger_handled, pinger_done, pinger_fits, PingerHolds, with_pinger, pinger_fields, pinger_form, pinger_saving, PingerAlike, pinger_kind, pinger_allowed}
use Rattle.ss_kinds.specs.Core.{both_true, less_true, done_again, number_saved, Kept, keeps_of}

-- ---- alike

same_pinger : (p : Pinger) → PingerAlike p p
same_pinger p = record { same = refl; stats = refl }

alike_through : (p q r : Pinger) → PingerAlike p q → PingerAlike q r → PingerAlike p r
alike_through p q r a b = record { same = b.same ∙ ap (λ y. with_pinger y r.sent r.got r.at r.stats) a.same; stats = b.stats ∙ a.stats }

start_alike : (p : Pinger) (now : ℕ) (b : Bool) → PingerAlike p (cond {A = Reaction Pinger Load} b (record { state = thrown p 1 now; actions = sends 1 ∷ [] }) (still p)).state
start_alike p now true = record { same = refl; stats = refl }
start_alike p now false = record { same = refl; stats = refl }

back_alike : (p : Pinger) (n now : ℕ) (b : Bool) → PingerAlike p (cond {A = Reaction Pinger Load} b (record { state = thrown (returned p now) (p.sent + 1) now; actions = action.Print (pong_text p.name n now) ∷ sends (p.sent + 1) ∷ [] }) (record { state = returned p now; actions = action.Print (pong_text p.name n now) ∷ [] })).state
back_alike p n now true = record { same = refl; stats = tallied_alike p.stats (stat_text stat.Roundtrip) (now - p.at) }
back_alike p n now false = record { same = refl; stats = tallied_alike p.stats (stat_text stat.Roundtrip) (now - p.at) }

handled_alike : (p : Pinger) (now : ℕ) (why : Cause Load) → PingerAlike p (pinger_handled p now why).state
handled_alike p now cause.Start = start_alike p now (nat_lt 0 p.count)
handled_alike p now (cause.Link port (load.Core n)) = back_alike p n now (nat_lt p.sent p.count)
handled_alike p now (cause.Link port (load.Net y)) = same_pinger p
handled_alike p now (cause.Own line y) = same_pinger p
handled_alike p now (cause.Tick clock) = same_pinger p

-- ---- what becomes of a pinger that is told something

abbrev PingerKept : Pinger → ℕ → Cause Load → Reaction Pinger Load → Type 0
PingerKept = Kept pinger_kind pinger_allowed

fits_by : (sent got count at t : ℕ) → sent ≤ count → got ≤ count → at < t → (nat_le sent count && (nat_le got count && nat_lt at t)) ≡ true
fits_by sent got count at t h k l = grind (arith, nat_tests)

fits_parts : (sent got count at t : ℕ) → (nat_le sent count && (nat_le got count && nat_lt at t)) ≡ true → (sent ≤ count) × (got ≤ count) × (at < t)
fits_parts sent got count at t h =
    let a = both_true (nat_le sent count) (nat_le got count && nat_lt at t) h in
    let b = both_true (nat_le got count) (nat_lt at t) a.1 in
    let x = a.0 in
    let y = b.0 in
    let z = b.1 in
    (grind (arith, nat_tests), grind (arith, nat_tests), grind (arith, nat_tests))

start_by : (p : Pinger) (now : ℕ) (b : Bool) → nat_lt 0 p.count ≡ b → PingerHolds p → pinger_fits p (now + 1) ≡ true → PingerKept p now cause.Start (cond b (record { state = thrown p 1 now; actions = sends 1 ∷ [] }) (still p))
start_by p now true e h f =
    let a = fits_parts p.sent p.got p.count p.at (now + 1) f in
    let more : 1 ≤ p.count = grind (arith, nat_tests) in
    record {
      holds = record { count = h.count; place = h.place; stats = h.stats };
      fit = fits_by 1 p.got p.count now (now + 1) more a.1 (omega arith);
      begun = refl;
      acts = (omega arith, tt);
      sends = (refl, tt);
      names = (refl, tt);
      clocks = λ i. refl;
    }
start_by p now false e h f = record { holds = h; fit = f; begun = refl; acts = tt; sends = tt; names = tt; clocks = λ i. refl }

returned_holds : (p : Pinger) (now : ℕ) → now < 2 ^ 62 → PingerHolds p → PingerHolds (returned p now)
returned_holds p now early h = record {
  count = h.count;
  place = h.place ∙ place_kept p.stats (stat_text stat.Roundtrip) (stat_text stat.Roundtrip) (now - p.at);
  stats = tallied_fits p.stats (stat_text stat.Roundtrip) (now - p.at) (omega arith) h.stats;
}

back_by : (p : Pinger) (port n now : ℕ) (b : Bool) → nat_lt p.sent p.count ≡ b → now < 2 ^ 62 → PingerHolds p → pinger_fits p (now + 1) ≡ true → PingerKept p now (cause.Link port (load.Core n)) (cond b (record { state = thrown (returned p now) (p.sent + 1) now; actions = action.Print (pong_text p.name n now) ∷ sends (p.sent + 1) ∷ [] }) (record { state = returned p now; actions = action.Print (pong_text p.name n now) ∷ [] }))
back_by p port n now true e early h f =
    let a = fits_parts p.sent p.got p.count p.at (now + 1) f in
    let more : p.sent + 1 ≤ p.count = grind (arith, nat_tests) in
    let k = returned_holds p now early h in
    record {
      holds = record { count = k.count; place = k.place; stats = k.stats };
      fit = fits_by (p.sent + 1) (min (p.got + 1) p.count) p.count now (now + 1) more (omega arith) (omega arith);
      begun = refl;
      acts = (tt, (omega arith, tt));
      sends = (tt, (less_true (p.sent + 1) (2 ^ 32) (omega (arith, h.count)), tt));
      names = (tt, (refl, tt));
      clocks = λ i. refl;
    }
back_by p port n now false e early h f =
    let a = fits_parts p.sent p.got p.count p.at (now + 1) f in
    record {
      holds = returned_holds p now early h;
      fit = fits_by p.sent (min (p.got + 1) p.count) p.count p.at (now + 1) a.0 (omega arith) a.2;
      begun = refl;
      acts = (tt, tt);
      sends = (tt, tt);
      names = (tt, tt);
      clocks = λ i. refl;
    }

kept : (p : Pinger) (now : ℕ) (why : Cause Load) → now < 2 ^ 62 → PingerHolds p → pinger_fits p (now + 1) ≡ true → PingerKept p now why (pinger_handled p now why)
kept p now cause.Start early h f = start_by p now (nat_lt 0 p.count) refl h f
kept p now (cause.Link port (load.Core n)) early h f = back_by p port n now (nat_lt p.sent p.count) refl early h f
kept p now (cause.Link port (load.Net y)) early h f = record { holds = h; fit = f; begun = refl; acts = tt; sends = tt; names = tt; clocks = λ i. refl }
kept p now (cause.Own line y) early h f = record { holds = h; fit = f; begun = refl; acts = tt; sends = tt; names = tt; clocks = λ i. refl }
kept p now (cause.Tick clock) early h f = record { holds = h; fit = f; begun = refl; acts = tt; sends = tt; names = tt; clocks = λ i. refl }

-- once a pinger is done it stays so
start_done : (p : Pinger) (now : ℕ) (b : Bool) → pinger_done p ≡ true → pinger_done (cond {A = Reaction Pinger Load} b (record { state = thrown p 1 now; actions = sends 1 ∷ [] }) (still p)).state ≡ true
start_done p now true d = d
start_done p now false d = d

back_done : (p : Pinger) (n now : ℕ) (b : Bool) → pinger_done p ≡ true → pinger_done (cond {A = Reaction Pinger Load} b (record { state = thrown (returned p now) (p.sent + 1) now; actions = action.Print (pong_text p.name n now) ∷ sends (p.sent + 1) ∷ [] }) (record { state = returned p now; actions = action.Print (pong_text p.name n now) ∷ [] })).state ≡ true
back_done p n now true d = done_again p.got p.count d
back_done p n now false d = done_again p.got p.count d

done_stays : (p : Pinger) (now : ℕ) (why : Cause Load) → pinger_done p ≡ true → pinger_done (pinger_handled p now why).state ≡ true
done_stays p now cause.Start d = start_done p now (nat_lt 0 p.count) d
done_stays p now (cause.Link port (load.Core n)) d = back_done p n now (nat_lt p.sent p.count) d
done_stays p now (cause.Link port (load.Net y)) d = d
done_stays p now (cause.Own line y) d = d
done_stays p now (cause.Tick clock) d = d

fits_up : (p : Pinger) (at later : ℕ) → at ≤ later → pinger_fits p at ≡ true → pinger_fits p later ≡ true
fits_up p at later up f = let a = fits_parts p.sent p.got p.count p.at at f in fits_by p.sent p.got p.count p.at later a.0 a.1 (omega arith)

heard_fits : (p : Pinger) (at : ℕ) (why : Cause Load) → MayHear pinger_kind p at why → cause_fits why ≡ true
heard_fits p at cause.Start h = refl
heard_fits p at (cause.Link port y) h = h
heard_fits p at (cause.Own line y) h = h
heard_fits p at (cause.Tick clock) h = refl

pub pinger_laws : KindLaws pinger_kind pinger_allowed
pinger_laws = record {
  fits_later = λ p at later up early fit. fits_up p at later up fit;
  loads_later = λ p why at later up early fit. fit;
  capacity_fits = λ p port ch holds in_range. absurd (omega (arith, in_range));
  same_room = λ p q alike. no_room pinger_kind (λ z port. refl) p q;
  hears_alike = λ p q why at alike fit. fit;
  gives_alike = λ p q port y at alike may. may;
  names_alike = λ p q alike. record { ports = λ n may. may; lines = λ i may. may; clocks = λ i may. may };
  meets = λ p now why may. (may.holds, heard_fits p (now + 1) why may.heard);
  keeps = λ p now why may. keeps_of pinger_kind pinger_allowed (λ y port. refl) p now why (pinger_handled p now why) (kept p now why may.early may.holds may.fit) (handled_alike p now why);
  primary_stays = λ p now why. refl;
  done_stays = done_stays;
}

abbrev pub pinger_safe : Wiring → ℕ → State Pinger Load → Type 0
pinger_safe = Safe pinger_kind pinger_allowed

pub pinger_world : World pinger_kind pinger_safe
pinger_world = world_of pinger_kind pinger_allowed pinger_laws

-- ---- saving

pinger_is_form : (p : Pinger) → IsForm (pinger_form p)
pinger_is_form p = told_form (pinger_fields p)
    (λ v. with_pinger p v.0 v.1.0 v.1.1.0 v.1.1.1)
    (λ q. (q.sent, (q.got, (q.at, q.stats))))
    (λ q. q ≡ with_pinger p q.sent q.got q.at q.stats)
    (λ v f. refl) (λ v f. refl) (λ q t. sym t)
    (pair_form (field 4) (λ n. _) (field_form 4) (λ n. pair_form (field 4) (λ m. _) (field_form 4) (λ m. pair_form (field 8) (λ k. stats_form p.stats) (field_form 8) (λ k. stats_are_form p.stats))))

read_holds : (p q : Pinger) → (pinger_form p).Fits q → PingerHolds p → PingerHolds q
read_holds p q f h = record {
  count = subst (λ n. n < 2 ^ 32) (sym (ap (λ y. y.count) f.0)) h.count;
  place = place_read p.stats q.stats (stat_text stat.Roundtrip) p.roundtrip q.roundtrip f.1.1.1.1 (ap (λ y. y.roundtrip) f.0) h.place;
  stats = read_fits p.stats q.stats f.1.1.1.1;
}

states_saved : (p : Pinger) (at : ℕ) → at ≤ 2 ^ 62 → PingerHolds p → pinger_fits p at ≡ true → (pinger_form p).Fits p
states_saved p at early h f =
    let a = fits_parts p.sent p.got p.count p.at at f in
    let c = h.count in
    (refl, (omega arith, (omega arith, (omega arith, h.stats))))

loads_saved : (p : Pinger) (why : Cause Load) (at : ℕ) → MayHear pinger_kind p at why → CauseIsOf pinger_saving p why
loads_saved p cause.Start at h = tt
loads_saved p (cause.Link port y) at h = number_saved y h
loads_saved p (cause.Own line y) at h = number_saved y h
loads_saved p (cause.Tick clock) at h = tt

pub pinger_saves : KindSaves pinger_kind pinger_allowed pinger_saving
pinger_saves = record {
  states = pinger_is_form;
  loads = λ p. core_load_is_form;
  begun = λ p q f. refl;
  read_alike = λ p q f. record { same = f.0; stats = read_alike p.stats q.stats f.1.1.1.1 };
  read_holds = read_holds;
  alike_same = same_pinger;
  alike_through = alike_through;
  handled_alike = λ p now why meets. handled_alike p now why;
  alike_read = λ p q a f. (a.same, (f.1.0, (f.1.1.0, (f.1.1.1.0, refit q.stats p.stats q.stats a.stats f.1.1.1.1))));
  states_saved = λ p at early h b f. states_saved p at early h f;
  loads_saved = λ p why at early holds heard. loads_saved p why at heard;
}

pub pinger_saved : SavingLaws pinger_kind pinger_saving pinger_safe load_weight load_text
pinger_saved = saved_of pinger_kind pinger_allowed pinger_laws pinger_saving pinger_saves load_weight load_text (λ y. refl) (λ y. refl)
