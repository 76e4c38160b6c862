-- Two pieces of two components.
use Rattle.std.proofs.Common.{◌≡◌, ℕ, zero, suc, ◌-◌, ◌^◌, ◌≤◌, min, ◌||◌, Bool, true, false, eqb, List, [], ◌∷◌, arith, refl, sym, ap, ◌∙◌}
use Rattle.std.proofs.lemmas.Bool.{false≢true, eqb-true}
use Rattle.ss_piece.specs.Pieces.{Slip}
use Rattle.ss_compose.specs.Compose.{has_state, AreApart}

one_state : (n c : ℕ) (bytes : List ℕ) (states : List (ℕ × List ℕ)) → states ≡ (n, bytes) ∷ [] → has_state states c ≡ true → n ≡ c
one_state n c bytes states is h = by_test (eqb n c) refl (ap (λ l. has_state l c) (sym is) ∙ h)
  where
    by_test : (b : Bool) → eqb n c ≡ b → (b || false) ≡ true → n ≡ c
    by_test true e h = eqb-true n c e
    by_test false e h = absurd (false≢true h)

-- pieces of components 1 and 0 share none
pub apart_two : (p q : Slip) (x y : List ℕ) → p.states ≡ (1, x) ∷ [] → q.states ≡ (0, y) ∷ [] → AreApart (p ∷ q ∷ [])
apart_two p q x y a b c zero zero h k = refl
apart_two p q x y a b c zero (suc zero) h k = let one = one_state 1 c x p.states a h in let none = one_state 0 c y q.states b k in absurd (omega (arith, one, none))
apart_two p q x y a b c zero (suc (suc j)) h k = absurd (false≢true k)
apart_two p q x y a b c (suc zero) zero h k = let one = one_state 1 c x p.states a k in let none = one_state 0 c y q.states b h in absurd (omega (arith, one, none))
apart_two p q x y a b c (suc zero) (suc zero) h k = refl
apart_two p q x y a b c (suc zero) (suc (suc j)) h k = absurd (false≢true k)
apart_two p q x y a b c (suc (suc i)) j h k = absurd (false≢true h)

-- a size that is told exactly where it is small
pub small_enough : (n told : ℕ) → told ≡ min n (2 ^ 64 - 1) → told ≡ 269 → n ≤ 2 ^ 30
small_enough n told is few = omega (arith, is, few)
