-- Which limits a checkpoint passes.
use Rattle.std.proofs.Common.{◌≡◌, ℕ, ◌≤◌, Bool, true, false, cond, Option, Some, None, refl, ap, arith}
use Rattle.std.specs.Prelude.{nat_lt}
use Rattle.std.proofs.lemmas.Bool.Decides.{nat_tests}
use Rattle.ss_course.specs.Kept.{most_bytes, most_kept, passed}

fewer_so : (n m most : ℕ) → m ≤ n → nat_lt n most ≡ true → nat_lt m most ≡ true
fewer_so n m most h e = grind (arith, nat_tests)

within_so : (n most : ℕ) → nat_lt most n ≡ false → n ≤ most
within_so n most e = grind (arith, nat_tests)

by_tests : {X : Type 0} (a b d : Bool) (x y : X) → (b ≡ true → d ≡ true) → cond a (Some x) (cond b None (Some y)) ≡ None → cond a (Some x) (cond d None (Some y)) ≡ None
by_tests true b d x y f h = absurd cc
by_tests false true d x y f h = ap (λ t. cond t None (Some y)) (f refl)
by_tests false false d x y f h = absurd cc

first_test : {X : Type 0} (a : Bool) (x : X) (o : Option X) → cond a (Some x) o ≡ None → a ≡ false
first_test true x o h = absurd cc
first_test false x o h = refl

-- what passes none behind so many others passes none behind fewer
pub none_sooner : (n m size : ℕ) → m ≤ n → passed n size ≡ None → passed m size ≡ None
none_sooner n m size h e = by_tests (nat_lt most_bytes size) (nat_lt n most_kept) (nat_lt m most_kept) _ _ (fewer_so n m most_kept h) e

-- and has no more bytes than a checkpoint may have
pub within_bytes : (n size : ℕ) → passed n size ≡ None → size ≤ most_bytes
within_bytes n size e = within_so size most_bytes (first_test (nat_lt most_bytes size) _ _ e)
