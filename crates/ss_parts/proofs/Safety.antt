-- What an engine rests on gives the laws of the theory.
use Rattle.std.proofs.Common.{◌≡◌, ℕ, zero, suc, ◌+◌, ◌<◌, ◌^◌, List, [], ◌∷◌, Bool, true, false, not, ◌&&◌, ◌||◌, Option, Some, None, refl, sym, ap, ◌∙◌, subst, arith, eqb, inl, inr}
use Rattle.std.specs.Prelude.{slice_get, slice_set}
use Rattle.std.specs.List.{list_all, list_any}
use Rattle.std.proofs.lemmas.Bool.{cases_Bool, cases_eq, eq-eqb, and_parts}
use Rattle.ss_model.specs.declared.Key.{Key}
use Rattle.ss_model.specs.declared.Event.{Event}
use Rattle.ss_model.specs.declared.Cause.{Cause}
use Rattle.ss_model.specs.declared.Line.{Line}
use Rattle.ss_model.specs.Wiring.{Wiring, told}
use Rattle.ss_model.specs.Step.{State, Reaction, reaction}
use Rattle.ss_model.specs.Step as run
use Rattle.ss_model.specs.End.{is_idle}
use Rattle.ss_element.specs.Kind.{Kind, behaviour}
use Rattle.ss_element.specs.World.{IsNext}
use Rattle.ss_element.specs.World as element
use Rattle.ss_theory.specs.Queue.{insert_all}
use Rattle.ss_theory.specs.World.{World, Global, Laws, MayStep, before}
use Rattle.ss_theory.specs.Rounds.{DoneLaws, all_of}
use Rattle.ss_parts.specs.Parts.{answer, answer_told, answer_at, world, components_of, IsAhead}
use Rattle.ss_parts.specs.Division.{IsSafe, all_idle}
use Rattle.ss_parts.proofs.Laws.{ActsFit, laws_under}
use Rattle.ss_parts.proofs.Bridge.{step_pending}

-- what holds of each in a list
module _ {X : Type 0} (p : X → Bool) where
  all_set : (xs : List X) (c : ℕ) (y : X) → p y ≡ true → list_all p xs ≡ true → list_all p (slice_set xs c y) ≡ true
  all_set [] c y h k = refl
  all_set (x ∷ xs) zero y h k = ap (λ b. b && list_all p xs) h ∙ (and_parts (p x) (list_all p xs) k).1
  all_set (x ∷ xs) (suc c) y h k = let a = and_parts (p x) (list_all p xs) k in ap (λ b. b && list_all p (slice_set xs c y)) a.0 ∙ all_set xs c y h a.1

  all_get : (xs : List X) (c : ℕ) (x : X) → slice_get xs c ≡ Some x → list_all p xs ≡ true → p x ≡ true
  all_get [] c x g k = absurd (cc)
  all_get (y ∷ xs) zero x g k = let e : y ≡ x = cc in ap p (sym e) ∙ (and_parts (p y) (list_all p xs) k).0
  all_get (y ∷ xs) (suc c) x g k = all_get xs c x g (and_parts (p y) (list_all p xs) k).1

  pub any_set : (xs : List X) (c : ℕ) (x y : X) → slice_get xs c ≡ Some x → p y ≡ p x → list_any p (slice_set xs c y) ≡ list_any p xs
  any_set [] c x y g h = refl
  any_set (z ∷ xs) zero x y g h = let e : z ≡ x = cc in ap (λ b. b || list_any p xs) (h ∙ ap p (sym e))
  any_set (z ∷ xs) (suc c) x y g h = ap (λ b. p z || b) (any_set xs c x y g h)

same_truth : (a b : Bool) → (a ≡ true → b ≡ true) → (b ≡ true → a ≡ true) → a ≡ b
same_truth true b f g = sym (f refl)
same_truth false true f g = g refl
same_truth false false f g = refl

-- ---- a property of all components is one of those of all parts

module _ {S : Type 0} (q : S → Bool) (part_of : ℕ → ℕ) (parts : ℕ) (within : (c : ℕ) → part_of c < parts) where
  abbrev of_part : ℕ → ℕ → List S → Bool
  of_part k p ss = list_all (λ (x : ℕ × S). q x.1) (components_of part_of p k ss)

  whole_part : (k p : ℕ) (ss : List S) → list_all q ss ≡ true → of_part k p ss ≡ true
  whole_part k p [] h = refl
  whole_part k p (s ∷ ss) h =
      let a = and_parts (q s) (list_all q ss) h in
      let i = whole_part (k + 1) p ss a.1 in
      elim (cases_Bool (eqb (part_of k) p)) [ inl b ↦ rw b (ap (λ x. x && of_part (k + 1) p ss) a.0 ∙ i) | inr b ↦ rw b i ]

  parts_whole : (k : ℕ) (ss : List S) → ((p : ℕ) → p < parts → of_part k p ss ≡ true) → list_all q ss ≡ true
  parts_whole k [] h = refl
  parts_whole k (s ∷ ss) h =
      let mine = rw (eq-eqb (part_of k) (part_of k) refl) at (h (part_of k) (within k)) in
      ap (λ x. x && list_all q ss) (and_parts (q s) (of_part (k + 1) (part_of k) ss) mine).0
      ∙ parts_whole (k + 1) ss (λ p lt. rest p (h p lt))
    where
      rest : (p : ℕ) → of_part k p (s ∷ ss) ≡ true → of_part (k + 1) p ss ≡ true
      rest p h = elim (cases_Bool (eqb (part_of k) p)) [ inl b ↦ (and_parts (q s) (of_part (k + 1) p ss) (rw b at h)).1 | inr b ↦ rw b at h ]

  all_true : (n : ℕ) (f : ℕ → Bool) → ((p : ℕ) → p < n → f p ≡ true) → all_of n f ≡ true
  all_true zero f h = refl
  all_true (suc n) f h = ap (λ b. b && f n) (all_true n f (λ p lt. h p (omega arith))) ∙ h n (omega arith)

  each_true : (n : ℕ) (f : ℕ → Bool) → all_of n f ≡ true → (p : ℕ) → p < n → f p ≡ true
  each_true zero f h p lt = absurd (omega arith)
  each_true (suc n) f h p lt = elim (cases_eq p n) [ inl e ↦ ap f e ∙ (and_parts (all_of n f) (f n) h).1 | inr ne ↦ each_true n f (and_parts (all_of n f) (f n) h).0 p (omega arith) ]

  pub all_parts : (ss : List S) → list_all q ss ≡ all_of parts (λ p. of_part 0 p ss)
  all_parts ss =
      same_truth (list_all q ss) (all_of parts (λ p. of_part 0 p ss))
      (λ h. all_true parts (λ p. of_part 0 p ss) (λ p lt. whole_part 0 p ss h))
      (λ h. parts_whole 0 ss (λ p lt. each_true parts (λ p. of_part 0 p ss) h p lt))

-- ---- the laws

module _ {S L : Type 0} (kind : Kind S L) (Safe : Wiring → ℕ → State S L → Type 0) (rests : element.World kind Safe) (w : Wiring) (part_of : ℕ → ℕ) (look : ℕ) (ahead : IsAhead w part_of look) where
  abbrev V : World (List S) (List (ℕ × S)) Key (Event L) Line
  V = world kind.handled w part_of

  abbrev pub SafeIn : List S → List (Event L) → Type 0
  SafeIn = IsSafe Safe w

  safe_state : (s : State S L) (now : ℕ) → Safe w now s → SafeIn s.components s.pending
  safe_state s now h = record { now = now; last = s.last; safe = h }

  keeps : (ss : List S) (e : Event L) (rest : List (Event L)) → MayStep V SafeIn (2 ^ 62) ss e rest → SafeIn (answer kind.handled w slice_get slice_set ss e).after (insert_all (before V) (answer kind.handled w slice_get slice_set ss e).sends rest)
  keeps ss e rest m =
      let s : State S L = record { components = ss; pending = e ∷ rest; last = m.safe.last } in
      let next = run.step kind.handled w s in
      subst (λ (g : Global (List S) (Event L)). SafeIn g.state g.pending) (step_pending kind.handled w part_of ss m.safe.last (e ∷ rest))
      (safe_state next e.key.time (rests.steps w m.safe.now s e rest m.safe.safe refl m.early))

  pub is_next : (ss : List S) (e : Event L) (rest : List (Event L)) (m : MayStep V SafeIn (2 ^ 62) ss e rest) (c : ℕ) (why : Cause L) (x : S) → told w e ≡ Some (c, why) → slice_get ss c ≡ Some x → IsNext kind w (record { components = ss; pending = e ∷ rest; last = m.safe.last }) e c why x
  is_next ss e rest m c why x t g = record { rest = rest; pending = refl; early = m.early; told = t; component = g }

  pub acts_fit : (ss : List S) (e : Event L) (rest : List (Event L)) → MayStep V SafeIn (2 ^ 62) ss e rest → ActsFit kind.handled w part_of look ss e
  acts_fit ss e rest m c why x t g = rests.acts w m.safe.now (record { components = ss; pending = e ∷ rest; last = m.safe.last }) e c why x m.safe.safe (is_next ss e rest m c why x t g)

  pub meets : (ss : List S) (e : Event L) (rest : List (Event L)) → MayStep V SafeIn (2 ^ 62) ss e rest → (c : ℕ) (why : Cause L) (x : S) → told w e ≡ Some (c, why) → slice_get ss c ≡ Some x → kind.Meets x e.key.time why
  meets ss e rest m c why x t g = rests.meets w m.safe.now (record { components = ss; pending = e ∷ rest; last = m.safe.last }) e c why x m.safe.safe (is_next ss e rest m c why x t g)

  pub laws : Laws (world kind.handled w part_of) (IsSafe Safe w) look (2 ^ 62)
  laws = laws_under kind.handled w part_of look SafeIn (2 ^ 62) ahead keeps (λ ss e rest m. (acts_fit ss e rest m, rests.wires w m.safe.now (record { components = ss; pending = e ∷ rest; last = m.safe.last }) m.safe.safe))

  -- what is idle stays idle
  idle_stays : (x : S) (now : ℕ) (why : Cause L) → is_idle (behaviour kind) x ≡ true → is_idle (behaviour kind) (kind.handled x now why).state ≡ true
  idle_stays x now why h =
      elim (cases_Bool (kind.primary x)) [
        | inl b ↦
            let d : kind.done x ≡ true = ap (λ p. not p || kind.done x) (sym b) ∙ h in
            ap (λ p. not p || kind.done (kind.handled x now why).state) (rests.primary_stays x now why ∙ b) ∙ rests.done_stays x now why d
        | inr b ↦ ap (λ p. not p || kind.done (kind.handled x now why).state) (rests.primary_stays x now why ∙ b)
      ]

  pub done_laws : DoneLaws (world kind.handled w part_of) (IsSafe Safe w) (2 ^ 62) (all_idle kind)
  done_laws = record { stays = λ ss e rest m h. go ss e h (told w e) }
    where
      more : (ss : List S) (e : Event L) (t : ℕ × Cause L) → all_idle kind ss ≡ true → (o : Option S) → slice_get ss t.0 ≡ o → all_idle kind (answer_at w slice_set ss e.key t.0 t.1 (reaction kind.handled e.key.time t.1 o)).after ≡ true
      more ss e t h None g = h
      more ss e t h (Some x) g = all_set (is_idle (behaviour kind)) ss t.0 (kind.handled x e.key.time t.1).state (idle_stays x e.key.time t.1 (all_get (is_idle (behaviour kind)) ss t.0 x g h)) h

      go : (ss : List S) (e : Event L) → all_idle kind ss ≡ true → (o : Option (ℕ × Cause L)) → all_idle kind (answer_told kind.handled w slice_get slice_set ss e.key o).after ≡ true
      go ss e h None = h
      go ss e h (Some t) = more ss e t h (slice_get ss t.0) refl
