-- What look-ups in wires find, and who is told.
use Rattle.std.proofs.Common.{◌≡◌, ℕ, zero, suc, ◌+◌, ◌-◌, ◌<◌, ◌≤◌, Bool, true, false, ◌&&◌, cond, eqb, ltb, List, [], ◌∷◌, length, Option, Some, None, refl, ap, ◌∙◌, subst, arith, inl, inr}
use Rattle.std.specs.Prelude.{slice_get}
use Rattle.std.proofs.lemmas.Bool.{cases_Bool, eqb-true, and_parts, lt-ltb, le-ltb}
use Rattle.ss_model.specs.declared.Event.{Event}
use Rattle.ss_model.specs.declared.Cause.{Cause}
use Rattle.ss_model.specs.declared.LinkLine.{LinkLine}
use Rattle.ss_model.specs.declared.InnerLine.{InnerLine}
use Rattle.ss_model.specs.declared.InnerLine.TheVariants as inner
use Rattle.ss_model.specs.Wiring.{Wiring, link_from, own_from, clock_from, link_at, own_at, clock_at, inner_at, of_link, of_own, of_clock, target, arrival, told_load, told_of, told, LinksFit, InnerFits, InnersFit, WiringFits}
use Rattle.ss_parts.specs.Parts.{component_of, receiver, link_start, sender}

none_some : {X : Type 0} {x : X} → None ≡ Some x → ⊥
none_some h = cc

within : {X : Type 0} (xs : List X) (i : ℕ) (x : X) → slice_get xs i ≡ Some x → i < length xs
within [] i x h = absurd (none_some h)
within (y ∷ xs) zero x h = omega arith
within (y ∷ xs) (suc i) x h = let a = within xs i x h in omega (arith, a)

-- the entry of a look-up, with its place
pub record IsLinkAt (ls : List LinkLine) (c place latency : ℕ) : Type 0 where
  pub link : LinkLine
  pub is : slice_get ls place ≡ Some link
  pub sender : link.sender ≡ c
  pub latency_is : link.latency ≡ latency

link_is : (n : ℕ) (ls : List LinkLine) (c p : ℕ) (r : ℕ × ℕ) → link_from n ls c p ≡ Some r → (d : ℕ) × (r.0 ≡ n + d) × IsLinkAt ls c d r.1
link_is n [] c p r h = absurd (none_some h)
link_is n (l ∷ ls) c p r h =
    elim (cases_Bool (eqb l.sender c && eqb l.out_port p)) [
      | inl b ↦
          let k = rw b at h in
          let e : (n, l.latency) ≡ r = cc in
          (0, omega (arith, ap (λ (x : ℕ × ℕ). x.0) e), record { link = l; is = refl; sender = eqb-true l.sender c (and_parts (eqb l.sender c) (eqb l.out_port p) b).0; latency_is = ap (λ (x : ℕ × ℕ). x.1) e })
      | inr b ↦
          let a = link_is (n + 1) ls c p r (rw b at h) in
          (suc a.0, omega (arith, a.1), record { link = a.2.link; is = a.2.is; sender = a.2.sender; latency_is = a.2.latency_is })
    ]

pub link_at_is : (w : Wiring) (c p : ℕ) (r : ℕ × ℕ) → link_at w c p ≡ Some r → IsLinkAt w.links c r.0 r.1
link_at_is w c p r h =
    let a = link_is 0 w.links c p r h in
    let e : a.0 ≡ r.0 = omega (arith, a.1) in
    subst (λ d. IsLinkAt w.links c d r.1) e a.2

own_is : (n : ℕ) (ls : List InnerLine) (c i m : ℕ) → own_from n ls c i ≡ Some m → (d : ℕ) × (m ≡ n + d) × (j : ℕ) × (slice_get ls d ≡ Some (inner.Own c j))
own_is n [] c i m h = absurd (none_some h)
own_is n (inner.Own e j ∷ ls) c i m h =
    elim (cases_Bool (eqb e c && eqb j i)) [
      | inl b ↦
          let k = rw b at h in
          let q : n ≡ m = cc in
          (0, omega arith, j, ap (λ x. Some (inner.Own x j)) (eqb-true e c (and_parts (eqb e c) (eqb j i) b).0))
      | inr b ↦ let a = own_is (n + 1) ls c i m (rw b at h) in (suc a.0, omega (arith, a.1), a.2, a.3)
    ]
own_is n (inner.Clock e j period ∷ ls) c i m h = let a = own_is (n + 1) ls c i m h in (suc a.0, omega (arith, a.1), a.2, a.3)

clock_is : (n : ℕ) (ls : List InnerLine) (c i : ℕ) (r : ℕ × ℕ) → clock_from n ls c i ≡ Some r → (d : ℕ) × (r.0 ≡ n + d) × (j : ℕ) × (slice_get ls d ≡ Some (inner.Clock c j r.1))
clock_is n [] c i r h = absurd (none_some h)
clock_is n (inner.Own e j ∷ ls) c i r h = let a = clock_is (n + 1) ls c i r h in (suc a.0, omega (arith, a.1), a.2, a.3)
clock_is n (inner.Clock e j period ∷ ls) c i r h =
    elim (cases_Bool (eqb e c && eqb j i)) [
      | inl b ↦
          let k = rw b at h in
          let q : (n, period) ≡ r = cc in
          (0, omega (arith, ap (λ (x : ℕ × ℕ). x.0) q), j, ap (λ x. Some (inner.Clock x j period)) (eqb-true e c (and_parts (eqb e c) (eqb j i) b).0) ∙ ap (λ x. Some (inner.Clock c j x)) (ap (λ (x : ℕ × ℕ). x.1) q))
      | inr b ↦ let a = clock_is (n + 1) ls c i r (rw b at h) in (suc a.0, omega (arith, a.1), a.2, a.3)
    ]

behind : (w : Wiring) (m d : ℕ) → m ≡ length w.links + d → inner_at w m ≡ slice_get w.inner d
behind w m d h =
    let past : ltb m (length w.links) ≡ false = le-ltb m (length w.links) (omega arith) in
    let e : m - length w.links ≡ d = omega arith in
    ap (λ b. cond b None (slice_get w.inner (m - length w.links))) past ∙ ap (slice_get w.inner) e

-- ---- who sends on a line, and who receives

pub link_from_to : (w : Wiring) (c p : ℕ) (r : ℕ × ℕ) (at : ℕ) (a : link_at w c p ≡ Some r) → (sender w (record { time = at; class = 2; line = r.0 }) ≡ Some c) × (receiver w (record { time = at; class = 2; line = r.0 }) ≡ Some (link_at_is w c p r a).link.receiver)
link_from_to w c p r at a =
    let f = link_at_is w c p r a in
    let inside : ltb r.0 (length w.links) ≡ true = lt-ltb r.0 (length w.links) (within w.links r.0 f.link f.is) in (
      ap (λ b. cond b (link_start (slice_get w.links r.0)) (component_of (of_own (inner_at w r.0)))) inside ∙ (ap link_start f.is ∙ ap Some f.sender),
      ap (λ b. component_of (cond b (of_link (slice_get w.links r.0)) (of_own (inner_at w r.0)))) inside ∙ ap (λ o. component_of (of_link o)) f.is,
    )

pub own_from_to : (w : Wiring) (c i n at : ℕ) → own_at w c i ≡ Some n → (sender w (record { time = at; class = 2; line = n }) ≡ Some c) × (receiver w (record { time = at; class = 2; line = n }) ≡ Some c)
own_from_to w c i n at h =
    let a = own_is (length w.links) w.inner c i n h in
    let outside : ltb n (length w.links) ≡ false = le-ltb n (length w.links) (omega (arith, a.1)) in
    let e : of_own (inner_at w n) ≡ Some (c, a.2) = ap of_own (behind w n a.0 a.1 ∙ a.3) in (
      ap (λ b. cond b (link_start (slice_get w.links n)) (component_of (of_own (inner_at w n)))) outside ∙ ap component_of e,
      ap (λ b. component_of (cond b (of_link (slice_get w.links n)) (of_own (inner_at w n)))) outside ∙ ap component_of e,
    )

pub tick_from_to : (w : Wiring) (c i : ℕ) (r : ℕ × ℕ) (at : ℕ) → clock_at w c i ≡ Some r → (sender w (record { time = at; class = 1; line = r.0 }) ≡ Some c) × (receiver w (record { time = at; class = 1; line = r.0 }) ≡ Some c)
tick_from_to w c i r at h =
    let a = clock_is (length w.links) w.inner c i r h in
    let e : of_clock (inner_at w r.0) ≡ Some (c, a.2) = ap of_clock (behind w r.0 a.0 a.1 ∙ a.3) in
    (ap component_of e, ap component_of e)

-- ---- latencies and periods

link_fits : (ls : List LinkLine) (n : ℕ) (l : LinkLine) → slice_get ls n ≡ Some l → LinksFit ls → 1 ≤ l.latency
link_fits [] n l h f = absurd (none_some h)
link_fits (x ∷ ls) zero l h f = let e : x ≡ l = cc in subst (λ (z : LinkLine). 1 ≤ z.latency) e f.0
link_fits (x ∷ ls) (suc n) l h f = link_fits ls n l h f.2

clock_fits : (ls : List InnerLine) (n c i period : ℕ) → slice_get ls n ≡ Some (inner.Clock c i period) → InnersFit ls → 1 ≤ period
clock_fits [] n c i period h f = absurd (none_some h)
clock_fits (x ∷ ls) zero c i period h f = let e : x ≡ inner.Clock c i period = cc in (subst InnerFits e f.0).0
clock_fits (x ∷ ls) (suc n) c i period h f = clock_fits ls n c i period h f.1

pub latency_fits : (w : Wiring) (c p : ℕ) (r : ℕ × ℕ) → WiringFits w → link_at w c p ≡ Some r → 1 ≤ r.1
latency_fits w c p r f h =
    let a = link_at_is w c p r h in
    subst (λ n. 1 ≤ n) a.latency_is (link_fits w.links r.0 a.link a.is f.links)

pub period_fits : (w : Wiring) (c i : ℕ) (r : ℕ × ℕ) → WiringFits w → clock_at w c i ≡ Some r → 1 ≤ r.1
period_fits w c i r f h =
    let a = clock_is (length w.links) w.inner c i r h in
    clock_fits w.inner a.0 c a.2 r.1 a.3 f.inner

-- ---- who is told

module _ {L : Type 0} (w : Wiring) where
  load_told : (link : Bool) (r : ℕ × ℕ) (x : Option L) (t : ℕ × Cause L) → told_load link r x ≡ Some t → r.0 ≡ t.0
  load_told link r None t h = absurd (none_some h)
  load_told link r (Some x) t h = let e : ◌≡◌ {A = ℕ × Cause L} (r.0, arrival link r.1 x) t = cc in ap (λ (z : ℕ × Cause L). z.0) e

  told_by : (class n : ℕ) (o : Option (ℕ × ℕ)) (x : Option L) (t : ℕ × Cause L) → told_of w class n o x ≡ Some t → component_of o ≡ Some t.0
  told_by class n None x t h = absurd (none_some h)
  told_by class n (Some r) x t h =
      elim (cases_Bool (eqb class 0)) [
        | inl b ↦ let k = rw b at h in let e = some_first k in ap Some e
        | inr b ↦ elim (cases_Bool (eqb class 1)) [
          | inl d ↦ let k = rw (b, d) at h in let e = some_first k in ap Some e
          | inr d ↦ ap Some (load_told (ltb n (length w.links)) r x t (rw (b, d) at h))
        ]
      ]
    where
      some_first : {a : ℕ} {why : Cause L} {t : ℕ × Cause L} → ◌≡◌ {A = Option (ℕ × Cause L)} (Some (a, why)) (Some t) → a ≡ t.0
      some_first {a} {why} {t} h = let e : ◌≡◌ {A = ℕ × Cause L} (a, why) t = cc in ap (λ (z : ℕ × Cause L). z.0) e

  pub told_end : (e : Event L) (t : ℕ × Cause L) → told w e ≡ Some t → receiver w e.key ≡ Some t.0
  told_end e t h = told_by e.key.class e.key.line (target w e.key) e.load t h
