-- Elements by their numbers and by their places.
use Rattle.std.proofs.Common.{◌≡◌, ℕ, zero, suc, ◌+◌, ◌<◌, cond, eqb, List, [], ◌∷◌, length, get_or, Some, None, refl, sym, ap, ◌∙◌, subst, arith, inl, inr}
use Rattle.std.specs.Prelude.{slice_get, slice_set}
use Rattle.std.proofs.lemmas.Bool.{cases_Bool, eqb-true}
use Rattle.ss_parts.specs.Parts.{state_of, with_state}
use Rattle.ss_worker.specs.Placed.{place_from}

none_some : {X : Type 0} {x : X} → None ≡ Some x → ⊥
none_some h = cc

some_same : {X : Type 0} {x y : X} → Some x ≡ Some y → x ≡ y
some_same h = cc

pub get_some : {S : Type 0} (xs : List S) (i : ℕ) (x : S) → i < length xs → x ≡ get_or xs i x → slice_get xs i ≡ Some x
get_some [] i x l e = absurd (omega arith)
get_some (y ∷ ys) zero x l e = ap Some (sym e)
get_some (y ∷ ys) (suc i) x l e = get_some ys i x (omega arith) e

module _ {S : Type 0} where
  -- what stands at the place of a number
  pub record IsFound (k : ℕ) (xs : List (ℕ × S)) (c i : ℕ) : Type 0 where
    pub at : ℕ
    pub is : i ≡ k + at
    pub below : at < length xs
    pub entry : ℕ × S
    pub there : slice_get xs at ≡ Some entry
    pub number : entry.0 ≡ c
    pub state : state_of xs c ≡ Some entry.1
    pub written : (y : S) → with_state xs c y ≡ slice_set xs at (entry.0, y)

  pub found : (k : ℕ) (xs : List (ℕ × S)) (c i : ℕ) → place_from k xs c ≡ Some i → IsFound k xs c i
  found k [] c i h = absurd (none_some h)
  found k (x ∷ xs) c i h =
      elim (cases_Bool (eqb x.0 c)) [
        | inl b ↦
            let e : k ≡ i = some_same (rw b at h) in
            record { at = 0; is = omega arith; below = omega arith; entry = x; there = refl; number = eqb-true x.0 c b; state = rw b refl; written = λ y. rw b refl }
        | inr b ↦
            let f = found (k + 1) xs c i (rw b at h) in
            let e : i ≡ k + 1 + f.at = f.is in
            let l : f.at < length xs = f.below in
            record { at = suc f.at; is = omega arith; below = omega arith; entry = f.entry; there = f.there; number = f.number; state = rw b f.state; written = λ y. rw b (ap (λ l. x ∷ l) (f.written y)) }
      ]

  pub absent : (k : ℕ) (xs : List (ℕ × S)) (c : ℕ) → place_from k xs c ≡ None → state_of xs c ≡ None
  absent k [] c h = refl
  absent k (x ∷ xs) c h =
      elim (cases_Bool (eqb x.0 c)) [
        | inl b ↦ absurd (none_some (sym (rw b at h)))
        | inr b ↦ rw b (absent (k + 1) xs c (rw b at h))
      ]

  -- a new state at a place leaves all places
  pub places_stay : (k : ℕ) (xs : List (ℕ × S)) (d c : ℕ) (x : ℕ × S) (y : S) → slice_get xs d ≡ Some x → place_from k (slice_set xs d (x.0, y)) c ≡ place_from k xs c
  places_stay k [] d c x y h = refl
  places_stay k (z ∷ xs) zero c x y h =
      let e : x ≡ z = some_same (sym h) in
      ap (λ (n : ℕ). cond (eqb n c) (Some k) (place_from (k + 1) xs c)) (ap (λ (q : ℕ × S). q.0) e)
  places_stay k (z ∷ xs) (suc d) c x y h = ap (λ o. cond (eqb z.0 c) (Some k) o) (places_stay (k + 1) xs d c x y h)

  -- the same, of places that begin with 0
  pub record IsHere (xs : List (ℕ × S)) (c i : ℕ) : Type 0 where
    pub below : i < length xs
    pub entry : ℕ × S
    pub there : slice_get xs i ≡ Some entry
    pub number : entry.0 ≡ c
    pub state : state_of xs c ≡ Some entry.1
    pub written : (y : S) → with_state xs c y ≡ slice_set xs i (entry.0, y)

  pub here : (xs : List (ℕ × S)) (c i : ℕ) → place_from 0 xs c ≡ Some i → IsHere xs c i
  here xs c i h =
      let f = found 0 xs c i h in
      let e : f.at ≡ i = omega (arith, f.is) in
      subst (λ n. IsHere xs c n) e (record { below = f.below; entry = f.entry; there = f.there; number = f.number; state = f.state; written = f.written })

  -- the entry that was read is that one
  pub entry_is : (xs : List (ℕ × S)) (c i : ℕ) (h : IsHere xs c i) (x : ℕ × S) → x ≡ get_or xs i x → h.entry ≡ x
  entry_is xs c i h x e = some_same (sym h.there ∙ get_some xs i x h.below e)
