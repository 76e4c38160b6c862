-- Starts come first, and a step keeps the number of starts to come of each component.
use Rattle.std.proofs.Common.{◌≡◌, ℕ, ◌≤◌, Bool, true, false, ◌&&◌, ◌||◌, eqb, ltb, List, [], ◌∷◌, Some, refl, sym, ap, ◌∙◌, subst, arith}
use Rattle.std.specs.Prelude.{slice_get, slice_set}
use Rattle.std.proofs.lemmas.Bool.{false≢true, eqb-true, eq-eqb}
use Rattle.std.proofs.lemmas.Bool.Decides.{nat_tests}
use Rattle.ss_model.specs.declared.Key.{Key}
use Rattle.ss_model.specs.declared.Event.{Event}
use Rattle.ss_model.specs.declared.Cause.{Cause}
use Rattle.ss_model.specs.declared.Cause.TheVariants as cause
use Rattle.ss_model.specs.declared.Action.{Action}
use Rattle.ss_model.specs.Order.{insert_all, key_before, NoneBefore}
use Rattle.ss_model.specs.Wiring.{Wiring, told}
use Rattle.ss_model.specs.Step.{made_all, again}
use Rattle.ss_element.specs.Kind.{Kind}
use Rattle.ss_safe.specs.Laws.{Allowed}
use Rattle.ss_safe.specs.Safe.{Each, total, one, start_at, IsTimely, Awaits, StartsMatch}
use Rattle.ss_safe.specs.Kept.Events.{Makes, AllActions, made_all_each, again_each, total-insert_all, total-zero}
use Rattle.ss_safe.specs.Kept.Found.{some_pair, told_start}
use Rattle.ss_safe.specs.Kept.Steps.{After, reacts, stays, after}

-- an event that is no start
pub no_start : {L : Type 0} (c : ℕ) (e : Event L) → (e.key.class ≡ 0 → e.key.line ≡ c → ⊥) → start_at c e ≡ 0
no_start c e h = by_tests (eqb e.key.class 0) refl (eqb e.key.line c) refl
  where
    by_tests : (a : Bool) → eqb e.key.class 0 ≡ a → (b : Bool) → eqb e.key.line c ≡ b → one (a && b) ≡ 0
    by_tests true x true y = absurd (h (eqb-true e.key.class 0 x) (eqb-true e.key.line c y))
    by_tests true x false y = refl
    by_tests false x b y = refl

pub is_start : {L : Type 0} (c : ℕ) (e : Event L) → e.key.class ≡ 0 → e.key.line ≡ c → start_at c e ≡ 1
is_start c e k l = both (eqb e.key.class 0) (eqb e.key.line c) (eq-eqb e.key.class 0 k) (eq-eqb e.key.line c l)
  where
    both : (a b : Bool) → a ≡ true → b ≡ true → one (a && b) ≡ 1
    both true true x y = refl
    both true false x y = absurd (false≢true y)
    both false b x y = absurd (false≢true x)

-- nothing but starts comes before a start at time 0
before3 : (t k l u m : ℕ) → t ≡ 0 → 1 ≤ m → (ltb t u || (eqb t u && (ltb 0 m || (eqb 0 m && ltb k l)))) ≡ true
before3 t k l u m h g = grind (arith, nat_tests)

-- behind an event that is no start there are no starts
pub none_behind : {L : Type 0} (c now : ℕ) (k : Key) (es : List (Event L)) → 1 ≤ k.class → NoneBefore k es → Each (IsTimely now) es → total (start_at c) es ≡ 0
none_behind c now k [] h n t = refl
none_behind c now k (e ∷ es) h n t =
    let here : start_at c e ≡ 0 = no_start c e (λ z l.
    let before : key_before e.key k ≡ true = ap (λ m. ltb e.key.time k.time || (eqb e.key.time k.time && (ltb m k.class || (eqb m k.class && ltb e.key.line k.line)))) z ∙ before3 e.key.time e.key.line k.line k.time k.class (t.0.start z) h in
    false≢true (sym n.0 ∙ before)) in
    omega (arith, here, none_behind c now k es h n.1 t.1)

module _ (L : Type 0) (w : Wiring) (d c now : ℕ) where
  makes_none : Makes {L = L} (λ e. start_at d e ≡ 0) w c now (λ a. Unit {0})
  makes_none = record {
    link = λ p extra x n latency q e. refl;
    own = λ i delay x n q e. refl;
    on = λ i n period e. refl;
  }

  all_actions : (acts : List (Action L)) → AllActions (λ a. Unit {0}) acts
  all_actions [] = tt
  all_actions (a ∷ acts) = (tt, all_actions acts)

  -- no start is made
  pub starts_news : (why : Cause L) (acts : List (Action L)) (rest : List (Event L)) → total (start_at d) (insert_all (again w c now why acts) (insert_all (made_all w c now acts) rest)) ≡ total (start_at d) rest
  starts_news why acts rest =
      let made_none = total-zero (start_at d) (made_all w c now acts) (made_all_each (λ e. start_at d e ≡ 0) w c now (λ a. Unit {0}) makes_none acts (all_actions acts)) in
      let again_none = total-zero (start_at d) (again w c now why acts) (again_each (λ e. start_at d e ≡ 0) w c now why acts (λ i n period y e. refl)) in
      omega (arith, total-insert_all (start_at d) (again w c now why acts) (insert_all (made_all w c now acts) rest), total-insert_all (start_at d) (made_all w c now acts) rest, made_none, again_none)

module _ {S L : Type 0} (kind : Kind S L) (allowed : Allowed S L) where
  -- a step keeps the starts of all components
  pub starts_kept : (w : Wiring) (xs : List S) (e : Event L) (rest : List (Event L)) (c : ℕ) (why : Cause L) (x new : S) (acts : List (Action L)) → told w e ≡ Some (c, why) → slice_get xs c ≡ Some x → total (start_at c) rest ≡ 0 → kind.begun new ≡ true → StartsMatch kind allowed xs (e ∷ rest) → StartsMatch kind allowed (slice_set xs c new) (insert_all (again w c e.key.time why acts) (insert_all (made_all w c e.key.time acts) rest))
  starts_kept w xs e rest c why x new acts t g none begun old d z is =
      subst (λ m. Awaits kind allowed m z) (sym (starts_news L w d c e.key.time why acts rest)) (by_component (after xs c x new d z g is))
    where
      by_component : After xs c new d z → Awaits kind allowed (total (start_at d) rest) z
      by_component (reacts same is_new) =
          let nothing : total (start_at d) rest ≡ 0 = ap (λ k. total (start_at k) rest) (sym same) ∙ none in
          record {
            few = omega (arith, nothing);
            begun = λ h. subst (λ y. kind.begun y ≡ true) is_new begun;
            first = λ h. absurd (omega (arith, nothing, h));
            off = λ h. absurd (omega (arith, nothing, h));
          }
      by_component (stays other is_old) =
          let not_here : start_at d e ≡ 0 = no_start d e (λ k l. other (some_pair c d why cause.Start (sym t ∙ told_start w e k ∙ ap (λ m. Some (m, cause.Start)) l)).0) in
          let same : total (start_at d) (e ∷ rest) ≡ total (start_at d) rest = omega (arith, not_here) in
          subst (λ m. Awaits kind allowed m z) same (old d z is_old)
