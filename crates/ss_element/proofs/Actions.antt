-- What stands from one place of a list to another.
use Rattle.std.proofs.Common.{◌≡◌, ℕ, ◌+◌, ◌-◌, ◌<◌, ◌≤◌, List, ◌∷◌, length, get_or, take, drop, sym, ap, ◌∙◌, arith}
use Rattle.std.proofs.Math.ListN.{set}
use Rattle.std.proofs.Math.Seq.{take-set-lt}
use Rattle.std.proofs.lemmas.List.{drop-take, drop-drop, drop-set-lt}
use Rattle.std.proofs.lemmas.Grind.{common_steps}

pub part : {X : Type 0} → (n e : ℕ) (xs : List X) → n ≤ e → take (e - n) (drop n xs) ≡ drop n (take e xs)
part n e xs h =
    let k : n + (e - n) ≡ e = omega arith in
    sym (drop-take n (e - n) xs) ∙ ap (λ m. drop n (take m xs)) k

pub passed : {X : Type 0} → (n e : ℕ) (xs : List X) → drop (n + 1) (take e xs) ≡ drop 1 (drop n (take e xs))
passed n e xs = sym (drop-drop 1 n (take e xs))

pub left_behind : {X : Type 0} → (n e : ℕ) (xs : List X) (x : X) → n < e → drop (n + 1) (take e (set xs n x)) ≡ drop (n + 1) (take e xs)
left_behind n e xs x h = ap (drop (n + 1)) (take-set-lt e xs n x h) ∙ drop-set-lt (n + 1) (take e xs) n x (omega arith)

pub first_of_part : {X : Type 0} → (n e : ℕ) (xs : List X) (d : X) → n < e → e ≤ length xs → drop n (take e xs) ≡ get_or xs n d ∷ drop (n + 1) (take e xs)
first_of_part n e xs d h k = grind (arith, common_steps)
