-- The bound of a run, in the theory's words.
use Rattle.std.proofs.Common.{◌≡◌, ℕ, zero, suc, ◌<◌, ◌≤◌, List, [], ◌∷◌, Bool, true, false, ◌&&◌, cond, Option, Some, None, refl, sym, ap, ◌∙◌, subst, arith, inl, inr}
use Rattle.std.specs.Prelude.{slice_get}
use Rattle.std.specs.List.{list_any}
use Rattle.std.proofs.lemmas.Bool.{cases_Bool, and_parts}
use Rattle.ss_model.specs.declared.Key.{Key}
use Rattle.ss_model.specs.declared.Event.{Event}
use Rattle.ss_model.specs.declared.Cause.{Cause}
use Rattle.ss_model.specs.declared.Line.{Line}
use Rattle.ss_model.specs.Wiring.{Wiring, told}
use Rattle.ss_model.specs.Step.{State, reaction, step_told, step_reacted, step_from, step, after}
use Rattle.ss_model.specs.End.{Limits, end_of, agree}
use Rattle.ss_model.specs.End as run
use Rattle.ss_element.specs.Kind.{Kind, behaviour}
use Rattle.ss_element.specs.World as element
use Rattle.ss_window.specs.declared.Cuts.{Cuts}
use Rattle.ss_window.specs.Least.{IsMultiple, OnPeriod}
use Rattle.ss_theory.specs.World.{World, Global}
use Rattle.ss_theory.specs.Rounds.{Asking, IsAsked, AgreesAt, IsBound}
use Rattle.ss_parts.specs.Parts.{world, glob}
use Rattle.ss_parts.specs.Division.{all_idle, IsCutBy}
use Rattle.ss_parts.proofs.Safety.{any_set}
use Rattle.ss_parts.proofs.Bridge.{after_same, until_back, until_same}

module _ {S L : Type 0} (kind : Kind S L) (Safe : Wiring → ℕ → State S L → Type 0) (rests : element.World kind Safe) (w : Wiring) (part_of : ℕ → ℕ) (s : State S L) where
  abbrev V : World (List S) (List (ℕ × S)) Key (Event L) Line
  V = world kind.handled w part_of

  abbrev any : List S → Bool
  any xs = list_any kind.primary xs

  -- whether there is a primary doesn't change
  any_step : (t : State S L) → any (step kind.handled w t).components ≡ any t.components
  any_step t = go t.pending
    where
      react : (rest : List (Event L)) (now c : ℕ) (why : Cause L) (o : Option S) → slice_get t.components c ≡ o → any (step_reacted w t.components rest now c why (reaction kind.handled now why o)).components ≡ any t.components
      react rest now c why None g = refl
      react rest now c why (Some x) g = any_set kind.primary t.components c x (kind.handled x now why).state g (rests.primary_stays x now why)

      tell : (rest : List (Event L)) (now : ℕ) (o : Option (ℕ × Cause L)) → any (step_told kind.handled w t.components rest now o).components ≡ any t.components
      tell rest now None = refl
      tell rest now (Some r) = react rest now r.0 r.1 (slice_get t.components r.0) refl

      go : (xs : List (Event L)) → any (step_from kind.handled w t xs).components ≡ any t.components
      go [] = refl
      go (e ∷ rest) = tell rest e.key.time (told w e)

  any_after : (n : ℕ) → any (after kind.handled w n s).components ≡ any s.components
  any_after zero = refl
  any_after (suc n) = any_step (after kind.handled w n s) ∙ any_after n

  module _ (l : Limits) (c : Cuts) (by : IsCutBy l c (any s.components)) where
    abbrev a : Asking
    a = record { asked = OnPeriod c.exit; origin = c.origin; stop = c.stop }

    agrees_to : (q : ℕ) → run.AgreesAt (behaviour kind) w s q → AgreesAt V (all_idle kind) a (glob s) q
    agrees_to q x = record {
      steps = x.steps;
      until = until_back kind.handled w part_of q x.steps s x.until;
      agree = ap (λ (g : Global (List S) (Event L)). all_idle kind g.state) (sym (after_same kind.handled w part_of x.steps s))
          ∙ (and_parts (any (after kind.handled w x.steps s).components) (all_idle kind (after kind.handled w x.steps s).components) x.agree).1;
    }

    agrees_back : any s.components ≡ true → (q : ℕ) → AgreesAt V (all_idle kind) a (glob s) q → run.AgreesAt (behaviour kind) w s q
    agrees_back p q x = record {
      steps = x.steps;
      until = until_same kind.handled w part_of q x.steps s x.until;
      agree = ap (λ b. b && all_idle kind (after kind.handled w x.steps s).components) (any_after x.steps ∙ p)
          ∙ ap (λ (g : Global (List S) (Event L)). all_idle kind g.state) (after_same kind.handled w part_of x.steps s) ∙ x.agree;
    }

    exit_is : (b : Bool) → any s.components ≡ b → c.exit ≡ cond b (Some l.exit) None
    exit_is b h = by.exit ∙ ap (λ b. cond b (Some l.exit) None) h

    -- with a primary
    asked_to : any s.components ≡ true → (q : ℕ) → run.IsAsked l q → IsAsked V (all_idle kind) a (glob s) q
    asked_to p q x = record {
      asked = subst (λ o. OnPeriod o q) (sym (exit_is true p)) (record { times = x.times; is = x.multiple });
      above = let e : c.origin ≡ l.origin = by.origin in let k : l.origin < q = x.above in omega arith;
      within = let e : c.stop ≡ end_of l = by.stop in let k : q ≤ end_of l = x.within in omega arith;
    }

    asked_back : any s.components ≡ true → (q : ℕ) → IsAsked V (all_idle kind) a (glob s) q → run.IsAsked l q
    asked_back p q x =
        let m : IsMultiple l.exit q = subst (λ o. OnPeriod o q) (exit_is true p) x.asked in
        record {
          times = m.times;
          multiple = m.is;
          above = let e : c.origin ≡ l.origin = by.origin in let k : c.origin < q = x.above in omega arith;
          within = let e : c.stop ≡ end_of l = by.stop in let k : q ≤ c.stop = x.within in omega arith;
        }

    -- the bound is the theory's
    pub bound_to : (f : Bool) (q : ℕ) → run.IsBound (behaviour kind) w l s f q → IsBound V (all_idle kind) a (glob s) f q
    bound_to true q x =
        let p : any s.components ≡ true = sym (any_after x.agrees.steps) ∙ (and_parts (any (after kind.handled w x.agrees.steps s).components) (all_idle kind (after kind.handled w x.agrees.steps s).components) x.agrees.agree).0 in
        record { asked = asked_to p q x.asked; agrees = agrees_to q x.agrees; first = λ r k lt y. x.first r (asked_back p r k) lt (agrees_back p r y) }
    bound_to false q x = (
      x.0 ∙ sym by.stop,
      λ r k y. elim (cases_Bool (any s.components)) [
        | inl p ↦ x.1 r (asked_back p r k) (agrees_back p r y)
        | inr p ↦ subst (λ o. OnPeriod o r) (exit_is false p) k.asked
      ],
    )
