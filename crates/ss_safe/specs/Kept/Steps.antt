-- The state that a step leaves, and what became of each component.
use Rattle.std.proofs.Common.{◌≡◌, ℕ, zero, suc, inl, inr, eqb, List, [], ◌∷◌, length, Some, refl, sym, ap, ◌∙◌}
use Rattle.std.specs.Prelude.{slice_get, slice_set}
use Rattle.std.proofs.lemmas.Bool.{cases_Bool, eqb-true, eqb-false}
use Rattle.ss_model.specs.declared.Event.{Event}
use Rattle.ss_model.specs.declared.Cause.{Cause}
use Rattle.ss_model.specs.Wiring.{Wiring, told}
use Rattle.ss_model.specs.Step.{State, Reaction, reaction, reacted, step_reacted, step_told, step_from, step}
use Rattle.ss_safe.specs.Kept.Found.{some_same, none_some}

-- a component reacts to the first event
pub step_reacts : {S L : Type 0} (handled : S → ℕ → Cause L → Reaction S L) (w : Wiring) (s : State S L) (e : Event L) (rest : List (Event L)) (c : ℕ) (why : Cause L) (x : S) → s.pending ≡ e ∷ rest → told w e ≡ Some (c, why) → slice_get s.components c ≡ Some x → step handled w s ≡ reacted w s.components rest e.key.time c why (handled x e.key.time why)
step_reacts handled w s e rest c why x is t g =
    ap (step_from handled w s) is
    ∙ ap (step_told handled w s.components rest e.key.time) t
    ∙ ap (λ o. step_reacted w s.components rest e.key.time c why (reaction handled e.key.time why o)) g

module _ {X : Type 0} where
  pub get_set_other : (xs : List X) (c d : ℕ) (y : X) → (c ≡ d → ⊥) → slice_get (slice_set xs c y) d ≡ slice_get xs d
  get_set_other [] c d y n = refl
  get_set_other (x ∷ xs) zero zero y n = absurd (n refl)
  get_set_other (x ∷ xs) zero (suc d) y n = refl
  get_set_other (x ∷ xs) (suc c) zero y n = refl
  get_set_other (x ∷ xs) (suc c) (suc d) y n = get_set_other xs c d y (λ h. n (ap suc h))

  pub get_set_same : (xs : List X) (c : ℕ) (x y : X) → slice_get xs c ≡ Some x → slice_get (slice_set xs c y) c ≡ Some y
  get_set_same [] c x y h = absurd (none_some h)
  get_set_same (z ∷ xs) zero x y h = refl
  get_set_same (z ∷ xs) (suc c) x y h = get_set_same xs c x y h

  pub length_set : (xs : List X) (c : ℕ) (y : X) → length (slice_set xs c y) ≡ length xs
  length_set [] c y = refl
  length_set (x ∷ xs) zero y = refl
  length_set (x ∷ xs) (suc c) y = ap suc (length_set xs c y)

  -- a component is the one that reacted, or is as it was
  pub data After (xs : List X) (c : ℕ) (new : X) (d : ℕ) (z : X) : Type 0 where
    reacts : c ≡ d → new ≡ z → After xs c new d z
    stays : (c ≡ d → ⊥) → slice_get xs d ≡ Some z → After xs c new d z

  pub after : (xs : List X) (c : ℕ) (x new : X) (d : ℕ) (z : X) → slice_get xs c ≡ Some x → slice_get (slice_set xs c new) d ≡ Some z → After xs c new d z
  after xs c x new d z g h =
      elim (cases_Bool (eqb c d)) [
        | inl u ↦ let same : c ≡ d = eqb-true c d u in reacts same (some_same (sym (get_set_same xs c x new g) ∙ ap (slice_get (slice_set xs c new)) same ∙ h))
        | inr u ↦ stays (eqb-false c d u) (sym (get_set_other xs c d new (eqb-false c d u)) ∙ h)
      ]
