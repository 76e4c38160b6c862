-- Numbers within their fields, and places of statistics.
use Rattle.std.proofs.Common.{◌≡◌, ℕ, zero, suc, ◌+◌, ◌-◌, ◌*◌, ◌/◌, ◌%◌, ◌^◌, ◌<◌, ◌≤◌, Bool, true, false, cond, List, [], ◌∷◌, length, set, get_or, Option, Some, None, refl, sym, ap, ◌∙◌, subst, arith}
use Rattle.std.specs.Prelude.{nat_lt, bytes_eq, IfSome}
use Rattle.std.specs.List.{position_or_len}
use Rattle.std.proofs.lemmas.Bool.Decides.{nat_tests}
use Rattle.std.proofs.lemmas.Nat.{mod_below, mul-add-lt}
use Rattle.std.proofs.Math.Nat.{div-lt_iff_lt-mul}
use Rattle.ss_wire.specs.Form.{IsForm, big_bytes}
use Rattle.ss_wire.proofs.Forms.{each_as_form, each_length}
use Rattle.ss_element.specs.Stored.{field}
use Rattle.ss_element.proofs.Stored.{field_form}
use Rattle.ss_stats.specs.Set.{Entry, place_of}
use Rattle.ss_gen.specs.Word.{word_of}
use Rattle.mr_nic.specs.declared.pattern.Pattern.{Pattern}
use Rattle.mr_nic.specs.declared.pattern.Pattern.TheVariants as pattern
use Rattle.mr_nic.specs.Pattern.{but, root, mirrored, destination, IsFor}
use Rattle.mr_nic.specs.Endpoint.{next_number, disorder}
use Rattle.mr_nic.specs.Saved.{numbers_form}

pub numbers_are_form : (xs : List ℕ) → IsForm (numbers_form xs)
numbers_are_form xs = each_as_form (big_bytes 8) (λ n. field 8) (λ y x f. refl) (λ y. field_form 8) xs

pub numbers_small : (xs ys : List ℕ) → (numbers_form xs).Fits ys → (i : ℕ) → get_or ys i 0 < 2 ^ 64
numbers_small [] ys h i = subst (λ (l : List ℕ). get_or l i 0 < 2 ^ 64) (sym h) (omega arith)
numbers_small (x ∷ xs) [] h i = absurd h
numbers_small (x ∷ xs) (y ∷ ys) h zero = omega (arith, h.0)
numbers_small (x ∷ xs) (y ∷ ys) h (suc i) = numbers_small xs ys h.1 i

pub numbers_set : (xs : List ℕ) (i v : ℕ) → v < 2 ^ 64 → (numbers_form xs).Fits xs → (numbers_form (set xs i v)).Fits (set xs i v)
numbers_set [] i v small h = h
numbers_set (x ∷ xs) zero v small h = (omega (arith, small), h.1)
numbers_set (x ∷ xs) (suc i) v small h = (h.0, numbers_set xs i v small h.1)

pub numbers_refit : (a b xs : List ℕ) → length a ≡ length b → (numbers_form a).Fits xs → (numbers_form b).Fits xs
numbers_refit [] [] xs e h = h
numbers_refit [] (m ∷ b) xs e h = absurd (omega (arith, e))
numbers_refit (n ∷ a) [] xs e h = absurd (omega (arith, e))
numbers_refit (n ∷ a) (m ∷ b) [] e h = absurd h
numbers_refit (n ∷ a) (m ∷ b) (x ∷ xs) e h = (h.0, numbers_refit a b xs (omega (arith, e)) h.1)

pub numbers_length : (a xs : List ℕ) → (numbers_form a).Fits xs → length xs ≡ length a
numbers_length a xs h = each_length (λ n. field 8) a xs h

-- ---- one more

pub next_small : (n : ℕ) → n < 2 ^ 64 → next_number n < 2 ^ 64
next_small n h = by_test (nat_lt n (2 ^ 64 - 1)) refl
  where
    by_test : (b : Bool) → nat_lt n (2 ^ 64 - 1) ≡ b → cond b (n + 1) n < 2 ^ 64
    by_test true e = let l : n < 2 ^ 64 - 1 = grind (arith, nat_tests) in omega (arith, l)
    by_test false e = h

pub next_above : (n : ℕ) → n ≤ next_number n
next_above n = by_test (nat_lt n (2 ^ 64 - 1))
  where
    by_test : (b : Bool) → n ≤ cond b (n + 1) n
    by_test true = omega arith
    by_test false = omega arith

pub disorder_small : (m n : ℕ) → disorder m n < 2 ^ 64
disorder_small m n = by_test _
  where
    by_test : (b : Bool) → cond b 0 1 < 2 ^ 64
    by_test true = omega arith
    by_test false = omega arith

-- ---- places

pub place_within : (set : List Entry) (name : List ℕ) → IfSome (place_of set name) (λ i. i < length set)
place_within set name = by_test (position_or_len (λ e. bytes_eq e.0 name) set) (nat_lt (position_or_len (λ e. bytes_eq e.0 name) set) (length set)) refl
  where
    by_test : (k : ℕ) (b : Bool) → nat_lt k (length set) ≡ b → IfSome (cond b (Some k) None) (λ i. i < length set)
    by_test k true e = grind (arith, nat_tests)
    by_test k false e = tt

-- ---- destinations

pub div_below : (a b : ℕ) → a / b ≤ a
div_below a zero = grind arith
div_below a (suc b) = grind arith

mirrored_below : (s i : ℕ) → i < s * s → mirrored s i < s * s
mirrored_below zero i h = absurd (omega (arith, h))
mirrored_below (suc s) i h =
    let some : 0 < suc s = omega arith in
    let row : i / suc s < suc s = (div-lt_iff_lt-mul {k = suc s} {x = i} {y = suc s} some).1 h in
    mul-add-lt (i % suc s) (suc s) (i / suc s) (suc s) (mod_below i (suc s) some) row

but_below : (i w n : ℕ) → 2 ≤ n → w < n - 1 → but i w < n
but_below i w n some h = by_test (nat_lt w i)
  where
    by_test : (b : Bool) → cond b w (w + 1) < n
    by_test true = omega (arith, h)
    by_test false = omega (arith, h, some)

pub destination_below : (p : Pattern) (i n k seed hot : ℕ) → 2 ≤ n → i < n → hot < n → IsFor p n → destination p i n k seed hot < n
destination_below pattern.Uniform i n k seed hot some here there f = but_below i (word_of seed k % (n - 1)) n some (mod_below (word_of seed k) (n - 1) (omega arith))
destination_below pattern.Complement i n k seed hot some here there f = omega (arith, some, here)
destination_below pattern.Transpose i n k seed hot some here there f = subst (λ m. mirrored (root n) i < m) f (mirrored_below (root n) i (subst (λ m. i < m) (sym f) here))
destination_below pattern.Hotspot i n k seed hot some here there f = there
destination_below pattern.Tornado i n k seed hot some here there f = mod_below (i + (n + 1) / 2 - 1) n (omega arith)
