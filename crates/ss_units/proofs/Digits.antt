-- Digits that a loop reads one by one.
use Rattle.std.proofs.Common.{◌≡◌, ℕ, ◌+◌, ◌-◌, ◌*◌, ◌^◌, ◌<◌, ◌≤◌, List, [], ◌∷◌, ◌++◌, length, get_or, drop, refl, arith, true, false, drop-cons, add-one, lit<}
use Rattle.std.proofs.lemmas.Grind.{common_steps}
use Rattle.std.proofs.Math.Nat.{pow-suc, pow-le-pow_right, one-le-pow}
use Rattle.ss_units.specs.Units.{digits, number, unspaced, is_digit}

pub digits-none : (s : List ℕ) → digits s 0 ≡ []
digits-none [] = refl
digits-none (b ∷ s) = refl

pub digits-end : (s : List ℕ) (at n : ℕ) → length s ≤ at → digits (drop at s) n ≡ []
digits-end s at n h = let e : drop at s ≡ [] = grind (arith, common_steps) in rw e refl

pub digits-stop : (s : List ℕ) (at n : ℕ) → at < length s → is_digit (get_or s at 0) ≡ false → digits (drop at s) n ≡ []
digits-stop s at n h e = rw (drop-cons s at 0 h, e) (grind arith)

pub digits-more : (s : List ℕ) (at n : ℕ) → at < length s → is_digit (get_or s at 0) ≡ true → 0 < n → digits (drop at s) n ≡ get_or s at 0 ∷ digits (drop (at + 1) s) (n - 1)
digits-more s at n h e p = rw (drop-cons s at 0 h, e, add-one) (grind arith)

pub pow-more : (v b k n : ℕ) → v < 10 ^ k → b ≤ 9 → n ≡ k + 1 → v * 10 + b < 10 ^ n
pow-more v b k n h l e = rw (e, add-one, pow-suc) (grind arith)

pub pow-most : (v k : ℕ) → v < 10 ^ k → k ≤ 24 → v < 10 ^ 24
pow-most v k h l = let m : 10 ^ k ≤ 10 ^ 24 = pow-le-pow_right (lit< tt) l in omega (arith, h, m)

pub digits-left : (s : List ℕ) (n : ℕ) → n ≤ 0 → digits s n ≡ []
digits-left s n h = let e : n ≡ 0 = omega arith in rw e (digits-none s)

pub number-append : (n : ℕ) (xs ys : List ℕ) → number n (xs ++ ys) ≡ number (number n xs) ys
number-append n [] ys = refl
number-append n (x ∷ xs) ys = number-append (n * 10 + (x - 48)) xs ys

pub unspaced-end : (s : List ℕ) (at : ℕ) → length s ≤ at → unspaced (drop at s) ≡ drop at s
unspaced-end s at h = let e : drop at s ≡ [] = grind (arith, common_steps) in rw e refl

pub unspaced-stop : (s : List ℕ) (at : ℕ) → at < length s → (get_or s at 0 ≡ 32 → ⊥) → unspaced (drop at s) ≡ drop at s
unspaced-stop s at h e = rw (drop-cons s at 0 h) (grind arith)

pub unspaced-more : (s : List ℕ) (at : ℕ) → at < length s → get_or s at 0 ≡ 32 → unspaced (drop at s) ≡ unspaced (drop (at + 1) s)
unspaced-more s at h e = rw (drop-cons s at 0 h, add-one) (grind arith)

pub length-digits : (s : List ℕ) (n : ℕ) → length (digits s n) ≤ n
length-digits [] n = grind arith
length-digits (b ∷ s) n = grind (arith, length-digits s (n - 1))

pub pow-fits : (k : ℕ) → k ≤ 24 → 10 ^ k < 2 ^ 128
pow-fits k l = let m : 10 ^ k ≤ 10 ^ 24 = pow-le-pow_right (lit< tt) l in omega (arith, m)

pub pow-some : (k q : ℕ) → q ≡ 10 ^ k → 0 < q
pow-some k q e = rw e (one-le-pow k 10 (lit< tt))
