-- A run has one outcome.
use Rattle.std.proofs.Common.{◌≡◌, ℕ, zero, suc, ◌+◌, ◌-◌, ◌<◌, ◌≤◌, ◌⊎◌, inl, inr, Bool, true, false, List, [], ◌∷◌, ◌++◌, refl, sym, ap, ◌∙◌, subst, arith}
use Rattle.std.proofs.lemmas.Bool.{cases_lt}
use Rattle.ss_model.specs.Wiring.{Wiring}
use Rattle.ss_model.specs.Step.{State, IsUntil}
use Rattle.ss_model.specs.End.{Behaviour, Limits, end_of, Outcome, IsAsked, AgreesAt, IsAgreed, IsBound, IsRun}
use Rattle.ss_model.proofs.Runs.{until_one}

module _ {S L : Type 0} (b : Behaviour S L) (w : Wiring) (l : Limits) (s : State S L) where
  agreed_one : (q r : ℕ) → IsAgreed b w l s q → IsAgreed b w l s r → q ≡ r
  agreed_one q r f g = by_order (cases_lt q r) (cases_lt r q)
    where
      by_order : (q < r) ⊎ (r ≤ q) → (r < q) ⊎ (q ≤ r) → q ≡ r
      by_order (inl h) k = absurd (g.first q f.asked h f.agrees)
      by_order (inr h) (inl k) = absurd (f.first r g.asked k g.agrees)
      by_order (inr h) (inr k) = omega arith

  -- a bound, and whether it was agreed on
  abbrev same : ℕ → Bool → ℕ → Bool → Type 0
  same q f r g = (q ≡ r) × (f ≡ g)

  bound_one : (f g : Bool) (q r : ℕ) → IsBound b w l s f q → IsBound b w l s g r → same q f r g
  bound_one true true q r x y = (agreed_one q r x y, refl)
  bound_one true false q r x y = absurd (y.1 q x.asked x.agrees)
  bound_one false true q r x y = absurd (x.1 r y.asked y.agrees)
  bound_one false false q r x y = (x.0 ∙ sym y.0, refl)

  same_outcome : (o p : Outcome) → o.steps ≡ p.steps → o.bound ≡ p.bound → o.agreed ≡ p.agreed → o ≡ p
  same_outcome o p e f g =
      let put : ℕ → ℕ → Bool → Outcome = λ n q a. record { steps = n; bound = q; agreed = a } in
      ap (λ n. put n o.bound o.agreed) e ∙ ap (λ q. put p.steps q o.agreed) f ∙ ap (λ a. put p.steps p.bound a) g

  pub run_one : (o p : Outcome) → IsRun b w l s o → IsRun b w l s p → o ≡ p
  run_one o p x y =
      let e = bound_one o.agreed p.agreed o.bound p.bound x.bound y.bound in
      same_outcome o p (until_one b.handled w p.bound o.steps p.steps s (subst (λ t. IsUntil b.handled w t o.steps s) e.0 x.until) y.until) e.0 e.1
