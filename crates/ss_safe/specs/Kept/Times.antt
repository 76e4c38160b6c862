-- A step keeps the events timely, real, and in phase.
use Rattle.std.proofs.Common.{◌≡◌, ℕ, ◌+◌, ◌-◌, ◌*◌, ◌/◌, ◌%◌, ◌^◌, ◌<◌, ◌≤◌, Some, refl, sym, ap, ◌∙◌, subst, arith}
use Rattle.std.proofs.Math.Nat.{add-mul-mod_self_left, mod_self}
use Rattle.ss_model.specs.declared.Event.{Event}
use Rattle.ss_model.specs.declared.Cause.{Cause}
use Rattle.ss_model.specs.declared.Cause.TheVariants as cause
use Rattle.ss_model.specs.declared.InnerLine.TheVariants as inner
use Rattle.ss_model.specs.Wiring.{Wiring, WiringFits, SecondFits, link_at, clock_at, inner_at, of_clock, told}
use Rattle.ss_model.specs.Step.{next_multiple}
use Rattle.ss_element.specs.Kind.{ActionFits}
use Rattle.ss_element.proofs.Places.{link_at_fits, clock_at_fits}
use Rattle.ss_safe.specs.Safe.{WiresHold, IsTimely, Reaches, IsReal, IsInPhase}
use Rattle.ss_safe.specs.Kept.Events.{Makes, arrival_event, tick_event}
use Rattle.ss_safe.specs.Kept.Found.{some_pair, link_at_found, own_at_found, clock_at_found, line_of_link, line_of_own, ToldAs, told_as, clock_of}

-- ---- times

link_latency : (w : Wiring) (c p n latency : ℕ) → WiringFits w → link_at w c p ≡ Some (n, latency) → (1 ≤ latency) × (latency ≤ 2 ^ 40)
link_latency w c p n latency h e = subst SecondFits e (link_at_fits w c p h)

pub clock_period : (w : Wiring) (c i n period : ℕ) → WiringFits w → clock_at w c i ≡ Some (n, period) → (1 ≤ period) × (period ≤ 2 ^ 40)
clock_period w c i n period h e = subst SecondFits e (clock_at_fits w c i h)

module _ {L : Type 0} where
  pub timely_later : (old now : ℕ) → old ≤ now → (e : Event L) → now ≤ e.key.time → IsTimely old e → IsTimely now e
  timely_later old now h e l t = record { from = l; below = omega (arith, t.below); start = t.start }

  soon : (now at n delay : ℕ) (x : L) → at ≡ now + delay → 1 ≤ delay → delay ≤ 2 ^ 41 → IsTimely now (arrival_event at n x)
  soon now at n delay x e l h = record { from = omega arith; below = omega arith; start = λ k. absurd (cc) }

  soon_tick : (now at n delay : ℕ) → at ≡ now + delay → 1 ≤ delay → delay ≤ 2 ^ 40 → IsTimely {L = L} now (tick_event at n)
  soon_tick now at n delay e l h = record { from = omega arith; below = omega arith; start = λ k. absurd (cc) }

  pub made_timely : (w : Wiring) (c now : ℕ) → WiringFits w → Makes {L = L} (IsTimely now) w c now ActionFits
  made_timely w c now h = record {
    link = λ p extra x n latency fit e.
        let bounds = link_latency w c p n latency h e in
        soon now (now + extra + latency) n (extra + latency) x (omega arith) (omega (arith, bounds.0)) (omega (arith, bounds.1, fit));
    own = λ i delay x n fit e. soon now (now + delay) n delay x refl fit.0 (omega (arith, fit.1));
    on = λ i n period e.
        let bounds = clock_period w c i n period h e in
        soon_tick now (next_multiple now period) n (period - now % period) refl (rest_some now period bounds.0) (omega (arith, bounds.1));
  }
    where
      rest_some : (now period : ℕ) → 1 ≤ period → 1 ≤ period - now % period
      rest_some now period h = omega arith

  pub again_timely : (w : Wiring) (c now i n period : ℕ) → WiringFits w → clock_at w c i ≡ Some (n, period) → IsTimely {L = L} now (tick_event (now + period) n)
  again_timely w c now i n period h e = let bounds = clock_period w c i n period h e in soon_tick now (now + period) n period refl bounds.0 bounds.1

-- ---- keys

module _ {L : Type 0} (w : Wiring) (count : ℕ) (hold : WiresHold w count) (c now : ℕ) (within : c < count) where
  pub made_real : Makes {L = L} (IsReal w count) w c now (λ a. Unit {0})
  made_real = record {
    link = λ p extra x n latency q e.
        let f = link_at_found w c p n latency e in
        record { reaches = subst (Reaches count) (sym (line_of_link w n f.link f.is)) (hold.ends n f.link f.is); loaded = refl };
    own = λ i delay x n q e. record { reaches = subst (Reaches count) (sym (line_of_own w n c i (own_at_found w c i n e))) within; loaded = refl };
    on = λ i n period e. record { reaches = subst (Reaches count) (sym (ap of_clock (clock_at_found w c i n period e))) within; loaded = refl };
  }

  pub again_real : (i n period : ℕ) → clock_at w c i ≡ Some (n, period) → IsReal {L = L} w count (tick_event (now + period) n)
  again_real i n period e = record { reaches = subst (Reaches count) (sym (ap of_clock (clock_at_found w c i n period e))) within; loaded = refl }

-- ---- phases

pub next_mod : (n p : ℕ) → 1 ≤ p → (n + (p - n % p)) % p ≡ 0
next_mod n p h =
    let whole : n + (p - n % p) ≡ p + p * (n / p) = omega arith in
    ap (λ x. x % p) whole ∙ add-mul-mod_self_left p p (n / p) ∙ mod_self p

again_mod : (n p : ℕ) → n % p ≡ 0 → (n + p) % p ≡ 0
again_mod n p h = ap (λ x. x % p) {x = n + p} {y = n + p * 1} (omega arith) ∙ add-mul-mod_self_left n p 1 ∙ h

-- a clock's period is one
period_of : (c i p d j q : ℕ) → Some (inner.Clock c i p) ≡ Some (inner.Clock d j q) → p ≡ q
period_of c i p d j q h = cc

module _ (L : Type 0) (w : Wiring) where
  pub phase_later : (old now : ℕ) → old ≤ now → (e : Event L) → now ≤ e.key.time → IsInPhase w old e → IsInPhase w now e
  phase_later old now h e l f c i period k g = let r = f c i period k g in (r.0, omega (arith, r.1))

  tick_phase : (now at n c i period : ℕ) → inner_at w n ≡ Some (inner.Clock c i period) → at % period ≡ 0 → at ≤ now + period → IsInPhase {L = L} w now (tick_event at n)
  tick_phase now at n c i period is m l d j q k g =
      let same : period ≡ q = period_of c i period d j q (sym is ∙ g) in
      (ap (λ r. at % r) (sym same) ∙ m, omega (arith, same))

  pub made_phase : (c now : ℕ) → WiringFits w → Makes {L = L} (IsInPhase w now) w c now (λ a. Unit {0})
  made_phase c now h = record {
    link = λ p extra x n latency q e d j r k g. absurd (cc);
    own = λ i delay x n q e d j r k g. absurd (cc);
    on = λ i n period e.
        let bounds = clock_period w c i n period h e in
        tick_phase now (next_multiple now period) n c i period (clock_at_found w c i n period e) (next_mod now period bounds.0) (omega arith);
  }

  -- the next tick of the clock that ticked
  pub again_phase : (e : Event L) (old now c : ℕ) (why : Cause L) → ((n c i period : ℕ) → inner_at w n ≡ Some (inner.Clock c i period) → clock_at w c i ≡ Some (n, period)) → now ≡ e.key.time → told w e ≡ Some (c, why) → IsInPhase w old e → (i n period : ℕ) → why ≡ cause.Tick i → clock_at w c i ≡ Some (n, period) → IsInPhase {L = L} w now (tick_event (now + period) n)
  again_phase e old now c why apart at t phase i n period y f =
      let k = subst (ToldAs w e.key.class e.key.line e.load c) y (told_as w e c why t) in
      let clock = clock_of w e.key.line c i k.1 in
      let same : period ≡ clock.0 = (some_pair n e.key.line period clock.0 (sym f ∙ apart e.key.line c i clock.0 clock.1)).1 in
      let whole : e.key.time % period ≡ 0 = ap (λ p. e.key.time % p) same ∙ (phase c i clock.0 k.0 clock.1).0 in
      tick_phase now (now + period) n c i period (clock_at_found w c i n period f) (again_mod now period (ap (λ m. m % period) at ∙ whole)) (omega arith)
