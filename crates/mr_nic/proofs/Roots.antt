-- Square roots of whole numbers.
use Rattle.std.proofs.Common.{◌≡◌, ℕ, zero, suc, ◌+◌, ◌*◌, ◌<◌, ◌≤◌, Bool, true, false, cond, refl, sym, subst, arith}
use Rattle.std.specs.Prelude.{nat_le, nat_eq}
use Rattle.std.proofs.Math.Nat.{mul-le-mul_left}
use Rattle.std.proofs.lemmas.Bool.Decides.{nat_tests}
use Rattle.mr_nic.specs.Pattern.{root_to, root}

square_up : (a b : ℕ) → a ≤ b → a * a ≤ b * b
square_up a b h = let x = mul-le-mul_left {m = a} {n = b} a h in let y = mul-le-mul_left {m = a} {n = b} b h in omega (arith, x, y)

not_above : (r k n : ℕ) → k * k ≤ n → n < (r + 1) * (r + 1) → k ≤ r
not_above r k n a b = by_order (nat_le k r) refl
  where
    by_order : (t : Bool) → nat_le k r ≡ t → k ≤ r
    by_order true e = grind (arith, nat_tests)
    by_order false e = let x : r + 1 ≤ k = grind (arith, nat_tests) in let y = square_up (r + 1) k x in absurd (omega (arith, y, a, b))

root_by : (n k r : ℕ) (t : Bool) → nat_le (suc k * suc k) n ≡ t → r ≤ suc k → r * r ≤ n → n < (r + 1) * (r + 1) → (r ≤ k → root_to n k ≡ r) → cond t (suc k) (root_to n k) ≡ r
root_by n k r true e h a b again =
    let low : suc k * suc k ≤ n = grind (arith, nat_tests) in
    let up = not_above r (suc k) n low b in
    omega (arith, up, h)
root_by n k r false e h a b again = again (below (nat_eq r (suc k)) refl)
  where
    high : n < suc k * suc k
    high = grind (arith, nat_tests)

    below : (t : Bool) → nat_eq r (suc k) ≡ t → r ≤ k
    below true g =
        let same : r ≡ suc k = grind (arith, nat_tests) in
        let x : suc k * suc k ≤ n = subst (λ m. m * m ≤ n) same a in
        absurd (omega (arith, x, high))
    below false g = grind (arith, nat_tests)

root_to_is : (n k r : ℕ) → r ≤ k → r * r ≤ n → n < (r + 1) * (r + 1) → root_to n k ≡ r
root_to_is n zero r h a b = omega (arith, h)
root_to_is n (suc k) r h a b = root_by n k r (nat_le (suc k * suc k) n) refl h a b (λ g. root_to_is n k r g a b)

self_square : (r : ℕ) → r ≤ r * r
self_square zero = omega arith
self_square (suc r) = let x = mul-le-mul_left {m = 1} {n = suc r} (suc r) (omega arith) in omega (arith, x)

pub root_is : (n r : ℕ) → r * r ≤ n → n < (r + 1) * (r + 1) → r ≡ root n
unfolding root
root_is n r a b = let x = self_square r in sym (root_to_is n n r (omega (arith, x, a)) a b)
