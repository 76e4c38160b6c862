-- Steps keep the agreement of the primaries, and what is idle stays idle.
use Rattle.std.proofs.Common.{◌≡◌, ℕ, zero, suc, ◌+◌, ◌-◌, ◌<◌, ◌≤◌, ◌⊎◌, inl, inr, Bool, true, false, not, ◌&&◌, ◌||◌, List, [], ◌∷◌, take, Option, Some, None, refl, sym, ap, ◌∙◌, subst, arith}
use Rattle.std.specs.Prelude.{slice_get, slice_set}
use Rattle.std.specs.List.{list_any, list_all}
use Rattle.std.proofs.lemmas.Bool.{false≢true, cases_lt}
use Rattle.ss_model.specs.declared.Event.{Event}
use Rattle.ss_model.specs.declared.Cause.{Cause}
use Rattle.ss_model.specs.Order.{begins_before}
use Rattle.ss_model.specs.Wiring.{Wiring, told}
use Rattle.ss_model.specs.Step.{State, after, step, step_from, step_told, step_reacted, reaction}
use Rattle.ss_model.specs.End.{is_idle, agree, AgreesAt}
use Rattle.ss_model.proofs.Runs.{after_add}
use Rattle.ss_element.specs.Kind.{Kind, behaviour}
use Rattle.ss_element.specs.World.{World}
use Rattle.ss_serial.proofs.Running.{begins_sooner}

-- what the test says of an element, it says of the element at its place
abbrev Keep : {S : Type 0} → (S → Bool) → List S → List S → Type 0
Keep test [] [] = Unit {0}
Keep test [] (y ∷ ys) = ⊥
Keep test (x ∷ xs) [] = ⊥
Keep test (x ∷ xs) (y ∷ ys) = (test x ≡ true → test y ≡ true) × Keep test xs ys

module _ {S : Type 0} (test : S → Bool) where
  Keep-refl : (xs : List S) → Keep test xs xs
  Keep-refl [] = tt
  Keep-refl (x ∷ xs) = (λ h. h, Keep-refl xs)

  Keep-trans : (xs ys zs : List S) → Keep test xs ys → Keep test ys zs → Keep test xs zs
  Keep-trans [] [] [] k j = tt
  Keep-trans [] [] (z ∷ zs) k j = absurd j
  Keep-trans [] (y ∷ ys) zs k j = absurd k
  Keep-trans (x ∷ xs) [] zs k j = absurd k
  Keep-trans (x ∷ xs) (y ∷ ys) [] k j = absurd j
  Keep-trans (x ∷ xs) (y ∷ ys) (z ∷ zs) k j = (λ h. j.0 (k.0 h), Keep-trans xs ys zs k.1 j.1)

  Keep-set : (xs : List S) (c : ℕ) (x y : S) → slice_get xs c ≡ Some x → (test x ≡ true → test y ≡ true) → Keep test xs (slice_set xs c y)
  Keep-set [] c x y g k = tt
  Keep-set (z ∷ zs) zero x y g k = let same : z ≡ x = cc in (λ h. k (ap test (sym same) ∙ h), Keep-refl zs)
  Keep-set (z ∷ zs) (suc c) x y g k = (λ h. h, Keep-set zs c x y g k)

  all_first : (x : S) (xs : List S) → list_all test (x ∷ xs) ≡ true → (test x ≡ true) × (list_all test xs ≡ true)
  all_first x xs h = by_bool (test x) (list_all test xs) h
    where
      by_bool : (a b : Bool) → (a && b) ≡ true → (a ≡ true) × (b ≡ true)
      by_bool true b h = (refl, h)
      by_bool false b h = absurd (false≢true h)

  all_cons : (x : S) (xs : List S) → test x ≡ true → list_all test xs ≡ true → list_all test (x ∷ xs) ≡ true
  all_cons x xs h k = rw (h, k) refl

  Keep-all : (xs ys : List S) → Keep test xs ys → list_all test xs ≡ true → list_all test ys ≡ true
  Keep-all [] [] k h = refl
  Keep-all [] (y ∷ ys) k h = absurd k
  Keep-all (x ∷ xs) [] k h = absurd k
  Keep-all (x ∷ xs) (y ∷ ys) k h = let a = all_first x xs h in all_cons y ys (k.0 a.0) (Keep-all xs ys k.1 a.1)

  Keep-take : (n : ℕ) (xs ys : List S) → Keep test xs ys → list_all test (take n xs) ≡ true → list_all test (take n ys) ≡ true
  Keep-take zero xs ys k h = refl
  Keep-take (suc n) [] [] k h = refl
  Keep-take (suc n) [] (y ∷ ys) k h = absurd k
  Keep-take (suc n) (x ∷ xs) [] k h = absurd k
  Keep-take (suc n) (x ∷ xs) (y ∷ ys) k h = let a = all_first x (take n xs) h in all_cons y (take n ys) (k.0 a.0) (Keep-take n xs ys k.1 a.1)

  any_set : (xs : List S) (c : ℕ) (x y : S) → slice_get xs c ≡ Some x → test y ≡ test x → list_any test (slice_set xs c y) ≡ list_any test xs
  any_set [] c x y g k = refl
  any_set (z ∷ zs) zero x y g k = let same : z ≡ x = cc in ap (λ a. a || list_any test zs) (k ∙ ap test (sym same))
  any_set (z ∷ zs) (suc c) x y g k = ap (λ a. test z || a) (any_set zs c x y g k)

idle_stays : (p q d e : Bool) → q ≡ p → (d ≡ true → e ≡ true) → (not p || d) ≡ true → (not q || e) ≡ true
idle_stays false q d e s k h = rw s refl
idle_stays true q d e s k h = rw (s, k h) refl

agree_stays : (a b c d : Bool) → c ≡ a → (b ≡ true → d ≡ true) → (a && b) ≡ true → (c && d) ≡ true
agree_stays false b c d s k h = absurd (false≢true h)
agree_stays true b c d s k h = rw (s, k h) refl

module _ {S L : Type 0} (kind : Kind S L) (Safe : Wiring → ℕ → State S L → Type 0) (world : World kind Safe) where
  -- the components are as primary as they were, and those that were idle are idle
  pub record Stay (xs ys : List S) : Type 0 where
    pub any : list_any kind.primary ys ≡ list_any kind.primary xs
    pub idle : Keep (is_idle (behaviour kind)) xs ys

  Stay-refl : (xs : List S) → Stay xs xs
  Stay-refl xs = record { any = refl; idle = Keep-refl (is_idle (behaviour kind)) xs }

  Stay-trans : (xs ys zs : List S) → Stay xs ys → Stay ys zs → Stay xs zs
  Stay-trans xs ys zs s t = record { any = t.any ∙ s.any; idle = Keep-trans (is_idle (behaviour kind)) xs ys zs s.idle t.idle }

  set_stays : (xs : List S) (c : ℕ) (x : S) (now : ℕ) (why : Cause L) → slice_get xs c ≡ Some x → Stay xs (slice_set xs c (kind.handled x now why).state)
  set_stays xs c x now why g =
      let y = (kind.handled x now why).state in
      record {
        any = any_set kind.primary xs c x y g (world.primary_stays x now why);
        idle = Keep-set (is_idle (behaviour kind)) xs c x y g (idle_stays (kind.primary x) (kind.primary y) (kind.done x) (kind.done y) (world.primary_stays x now why) (world.done_stays x now why));
      }

  told_stays : (w : Wiring) (xs : List S) (rest : List (Event L)) (now : ℕ) (o : Option (ℕ × Cause L)) → Stay xs (step_told kind.handled w xs rest now o).components
  told_stays w xs rest now None = Stay-refl xs
  told_stays w xs rest now (Some (c, why)) = at_component (slice_get xs c) refl
    where
      at_component : (o : Option S) → slice_get xs c ≡ o → Stay xs (step_reacted w xs rest now c why (reaction kind.handled now why o)).components
      at_component None g = Stay-refl xs
      at_component (Some x) g = set_stays xs c x now why g

  step_stays : (w : Wiring) (s : State S L) → Stay s.components (step kind.handled w s).components
  step_stays w s = at_pending s.pending
    where
      at_pending : (p : List (Event L)) → Stay s.components (step_from kind.handled w s p).components
      at_pending [] = Stay-refl s.components
      at_pending (e ∷ rest) = told_stays w s.components rest e.key.time (told w e)

  pub after_stays : (w : Wiring) (n : ℕ) (s : State S L) → Stay s.components (after kind.handled w n s).components
  after_stays w zero s = Stay-refl s.components
  after_stays w (suc n) s = Stay-trans s.components (after kind.handled w n s).components (step kind.handled w (after kind.handled w n s)).components (after_stays w n s) (step_stays w (after kind.handled w n s))

  -- what agrees, agrees after more steps
  agrees_on : (xs ys : List S) → Stay xs ys → agree (behaviour kind) xs ≡ true → agree (behaviour kind) ys ≡ true
  agrees_on xs ys s h = agree_stays (list_any kind.primary xs) (list_all (is_idle (behaviour kind)) xs) (list_any kind.primary ys) (list_all (is_idle (behaviour kind)) ys) s.any (Keep-all (is_idle (behaviour kind)) xs ys s.idle) h

  pub agrees_after : (w : Wiring) (n : ℕ) (s : State S L) → agree (behaviour kind) s.components ≡ true → agree (behaviour kind) (after kind.handled w n s).components ≡ true
  agrees_after w n s h = agrees_on s.components (after kind.handled w n s).components (after_stays w n s) h

  pub idle_after : (w : Wiring) (n : ℕ) (s : State S L) (i : ℕ) → list_all (is_idle (behaviour kind)) (take i s.components) ≡ true → list_all (is_idle (behaviour kind)) (take i (after kind.handled w n s).components) ≡ true
  idle_after w n s i h = Keep-take (is_idle (behaviour kind)) i s.components (after kind.handled w n s).components (after_stays w n s).idle h

  -- where the primaries don't agree after k steps, and nothing is left before m, they don't agree at any time up to m
  pub never : (w : Wiring) (s : State S L) (k m r : ℕ) → begins_before m (after kind.handled w k s).pending ≡ false → agree (behaviour kind) (after kind.handled w k s).components ≡ false → r ≤ m → AgreesAt (behaviour kind) w s r → ⊥
  never w s k m r none busy h x = by_order (cases_lt k x.steps)
    where
      by_order : (k < x.steps) ⊎ (x.steps ≤ k) → ⊥
      by_order (inl l) = absurd (false≢true (sym none ∙ begins_sooner r m (after kind.handled w k s).pending h (x.until.each k l)))
      by_order (inr g) =
          let there : after kind.handled w (k - x.steps) (after kind.handled w x.steps s) ≡ after kind.handled w k s = sym (after_add kind.handled w x.steps (k - x.steps) s) ∙ ap (λ j. after kind.handled w j s) {x = x.steps + (k - x.steps)} {y = k} (omega arith) in
          let agreed = subst (λ (t : State S L). agree (behaviour kind) t.components ≡ true) there (agrees_after w (k - x.steps) (after kind.handled w x.steps s) x.agree) in
          false≢true (sym busy ∙ agreed)
