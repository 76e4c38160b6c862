-- Numbers below n that leave r, and places among others.
use Rattle.std.proofs.Common.{◌≡◌, ℕ, suc, ◌+◌, ◌-◌, ◌*◌, ◌/◌, ◌%◌, ◌<◌, ◌≤◌, ◌⊎◌, inl, inr, Bool, true, false, refl, sym, ap, ◌∙◌, arith}
use Rattle.std.specs.Prelude.{nat_lt}
use Rattle.std.proofs.Math.Nat.{suc-mul}
use Rattle.std.proofs.lemmas.Bool.{ltb-true, ltb-false}
use Rattle.std.proofs.lemmas.Nat.{mod_below, div-mul-add, div-add-mod'}
use Rattle.mr_works.specs.Numbers.{below, place_of}

-- (q * k + s) / k, for n that is so
div_is : (n q k s : ℕ) → n ≡ q * k + s → s < k → n / k ≡ q
div_is n q k s e h = ap (λ m. m / k) e ∙ div-mul-add q k s h

lesser : (a b : ℕ) → (a < b) ⊎ (b ≤ a)
lesser a b = by_test (nat_lt a b) refl
  where
    by_test : (t : Bool) → nat_lt a b ≡ t → (a < b) ⊎ (b ≤ a)
    by_test true e = inl (ltb-true a b e)
    by_test false e = inr (ltb-false a b e)

-- a number that leaves r comes behind as many as its quotient
pub below_here : (n k r : ℕ) → 0 < k → n % k ≡ r → below n k r ≡ n / k
below_here n k r some e =
    let parts : n / k * k + n % k ≡ n = div-add-mod' n k in
    let small : n % k < k = mod_below n k some in
    div_is (n + (k - 1 - r)) (n / k) k (k - 1) (omega (arith, parts, small, e)) (omega (arith, some))

-- and counts as one more
pub below_hit : (n k r : ℕ) → 0 < k → n % k ≡ r → below (n + 1) k r ≡ n / k + 1
below_hit n k r some e =
    let parts : n / k * k + n % k ≡ n = div-add-mod' n k in
    let small : n % k < k = mod_below n k some in
    let more : (n / k + 1) * k ≡ n / k * k + k = arith_step (n / k) k in
    div_is (n + 1 + (k - 1 - r)) (n / k + 1) k 0 (omega (arith, parts, small, e, more)) some
  where
    arith_step : (q k : ℕ) → (q + 1) * k ≡ q * k + k
    arith_step q k = ap (λ z. z * k) {x = q + 1} {y = suc q} (omega arith) ∙ suc-mul q k

-- another doesn't
pub below_miss : (n k r : ℕ) → r < k → (n % k ≡ r → ⊥) → below (n + 1) k r ≡ below n k r
below_miss n k r within other = by_side (lesser (n % k) r)
  where
    parts : n / k * k + n % k ≡ n
    parts = div-add-mod' n k

    small : n % k < k
    small = mod_below n k (omega (arith, within))

    arith_step : (q k : ℕ) → (q + 1) * k ≡ q * k + k
    arith_step q k = ap (λ z. z * k) {x = q + 1} {y = suc q} (omega arith) ∙ suc-mul q k

    by_side : (n % k < r) ⊎ (r ≤ n % k) → below (n + 1) k r ≡ below n k r
    by_side (inl h) =
        div_is (n + 1 + (k - 1 - r)) (n / k) k (n % k + 1 + (k - 1 - r)) (omega (arith, parts)) (omega (arith, h, within))
        ∙ sym (div_is (n + (k - 1 - r)) (n / k) k (n % k + (k - 1 - r)) (omega (arith, parts)) (omega (arith, h, within)))
    by_side (inr h) =
        let above : r < n % k = at_least in
        let more = arith_step (n / k) k in
        div_is (n + 1 + (k - 1 - r)) (n / k + 1) k (n % k - r) (omega (arith, parts, more, above, within)) (omega (arith, small, above))
        ∙ sym (div_is (n + (k - 1 - r)) (n / k + 1) k (n % k - r - 1) (omega (arith, parts, more, above, within)) (omega (arith, small, above)))
      where
        at_least : r < n % k
        at_least = by_same (lesser r (n % k))
          where
            by_same : (r < n % k) ⊎ (n % k ≤ r) → r < n % k
            by_same (inl l) = l
            by_same (inr l) = absurd (other (omega (arith, h, l)))

-- ---- places among others

mod_is : (n q k s : ℕ) → n ≡ q * k + s → s < k → n % k ≡ s
mod_is n q k s e h =
    let quotient : n / k ≡ q = div_is n q k s e h in
    let same : n / k * k ≡ q * k = ap (λ z. z * k) quotient in
    let parts : n / k * k + n % k ≡ n = div-add-mod' n k in
    omega (arith, parts, same, e)

once : (k : ℕ) → 1 * k ≡ k
once k = omega arith

none : (k : ℕ) → 0 * k ≡ 0
none k = omega arith

-- the endpoint at a place is at that place
pub place_there : (peers id j : ℕ) → id < peers → j < peers - 1 → place_of peers id ((id + 1 + j) % peers) ≡ j
place_there peers id j here few = by_side (lesser (id + 1 + j) peers)
  where
    one : 1 * peers ≡ peers
    one = once peers

    zero_times : 0 * peers ≡ 0
    zero_times = none peers

    by_side : (id + 1 + j < peers) ⊎ (peers ≤ id + 1 + j) → place_of peers id ((id + 1 + j) % peers) ≡ j
    by_side (inl h) =
        let d : (id + 1 + j) % peers ≡ id + 1 + j = mod_is (id + 1 + j) 0 peers (id + 1 + j) (omega (arith, zero_times)) h in
        mod_is ((id + 1 + j) % peers + (peers - id - 1)) 1 peers j (omega (arith, d, one, here)) (omega (arith, few))
    by_side (inr h) =
        let d : (id + 1 + j) % peers ≡ id + 1 + j - peers = mod_is (id + 1 + j) 1 peers (id + 1 + j - peers) (omega (arith, one, h)) (omega (arith, here, few)) in
        mod_is ((id + 1 + j) % peers + (peers - id - 1)) 0 peers j (omega (arith, d, zero_times, here, h)) (omega (arith, few))

-- and no other is
pub place_only : (peers id d : ℕ) → id < peers → d < peers → (id + 1 + place_of peers id d) % peers ≡ d
place_only peers id d here within = by_side (lesser id d)
  where
    one : 1 * peers ≡ peers
    one = once peers

    zero_times : 0 * peers ≡ 0
    zero_times = none peers

    by_side : (id < d) ⊎ (d ≤ id) → (id + 1 + place_of peers id d) % peers ≡ d
    by_side (inl h) =
        let j : place_of peers id d ≡ d - id - 1 = mod_is (d + (peers - id - 1)) 1 peers (d - id - 1) (omega (arith, one, h, here)) (omega (arith, within)) in
        mod_is (id + 1 + place_of peers id d) 0 peers d (omega (arith, j, zero_times, h)) within
    by_side (inr h) =
        let j : place_of peers id d ≡ d + (peers - id - 1) = mod_is (d + (peers - id - 1)) 0 peers (d + (peers - id - 1)) (omega (arith, zero_times)) (omega (arith, h, here)) in
        mod_is (id + 1 + place_of peers id d) 1 peers d (omega (arith, j, one, here)) within

-- below 0 there is none
pub below_none : (k r : ℕ) → r < k → below 0 k r ≡ 0
below_none k r h =
    let zero_times : 0 * k ≡ 0 = none k in
    div_is (0 + (k - 1 - r)) 0 k (k - 1 - r) (omega (arith, zero_times)) (omega (arith, h))
