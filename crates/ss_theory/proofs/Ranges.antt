-- The numbers of all parts, in their own order.
use Rattle.std.proofs.Common.{◌≡◌, ℕ, zero, suc, ◌+◌, ◌<◌, ◌≤◌, false, sym, refl, ap, ◌∙◌, inl, inr, arith, ltb}
use Rattle.std.proofs.lemmas.Bool.{cases_eq, eq-eqb, ne_eqb, lt-ltb, le-ltb}
use Rattle.ss_theory.specs.Queue.{has, IsOnce, IsOrderOf, range_from}

-- the numbers from k on, in order
range_below : (k n i : ℕ) → i < k → has (range_from k n) i ≡ false
range_below k zero i lt = refl
range_below k (suc n) i lt = rw (ne_eqb k i (λ e. omega arith)) (range_below (k + 1) n i (omega arith))

range_once : (k n : ℕ) → IsOnce (range_from k n)
range_once k zero = tt
range_once k (suc n) = (range_below (k + 1) n k (omega arith), range_once (k + 1) n)

range_is : (k n i : ℕ) → k ≤ i → has (range_from k n) i ≡ ltb i (k + n)
range_is k zero i le = sym (le-ltb i (k + 0) (omega arith))
range_is k (suc n) i le =
    elim (cases_eq k i) [
      | inl e ↦ rw (eq-eqb k i e) (sym (lt-ltb i (k + suc n) (omega arith)))
      | inr ne ↦ let e : k + 1 + n ≡ k + suc n = omega arith in rw (ne_eqb k i ne) (range_is (k + 1) n i (omega arith) ∙ ap (ltb i) e)
    ]

pub range_order : (n : ℕ) → IsOrderOf n (range_from 0 n)
range_order n = (range_once 0 n, λ j. let e : 0 + n ≡ n = omega arith in range_is 0 n j (omega arith) ∙ ap (ltb j) e)
