-- A chain has no place twice, since a chain that came to a place again would never end.
use Rattle.std.proofs.Common.{◌≡◌, ◌+◌, List, [], ◌∷◌, ◌++◌, length, length-append, Option, Some, None, refl, sym, ap, ◌∙◌, subst, inl, inr, arith}
use Rattle.mr_moves.specs.Moves.{Stands, IsOnce, head, IsChain}

some_same : {X : Type 0} {x y : X} → Some x ≡ Some y → x ≡ y
some_same h = cc

module _ {A : Type 0} where
  -- a list that has a place is what is before it, the place, and what is behind it
  pub record Split (a : A) (xs : List A) : Type 0 where
    pub before : List A
    pub after : List A
    pub is : xs ≡ before ++ a ∷ after

  pub split : (a : A) (xs : List A) → Stands a xs → Split a xs
  split a [] h = absurd h
  split a (x ∷ xs) (inl e) = record { before = []; after = xs; is = ap (λ y. y ∷ xs) (sym e) }
  split a (x ∷ xs) (inr h) = let s = split a xs h in record { before = x ∷ s.before; after = s.after; is = ap (λ l. x ∷ l) s.is }

module _ {A : Type 0} (next : A → Option A) where
  -- the chain from a place is determined
  chain_one : (x : A) (xs ys : List A) → IsChain next (x ∷ xs) → IsChain next (x ∷ ys) → length xs ≡ length ys
  chain_one x [] [] h k = refl
  chain_one x [] (y ∷ ys) h k = absurd (let e : None ≡ Some y = sym h.0 ∙ k.0 in cc)
  chain_one x (z ∷ xs) [] h k = absurd (let e : None ≡ Some z = sym k.0 ∙ h.0 in cc)
  chain_one x (z ∷ xs) (y ∷ ys) h k =
      let e : z ≡ y = some_same (sym h.0 ∙ k.0) in
      let ih = chain_one y xs ys (subst (λ a. IsChain next (a ∷ xs)) e h.1) k.1 in
      omega (arith, ih)

  pub chain_right : (xs ys : List A) → IsChain next (xs ++ ys) → IsChain next ys
  chain_right [] ys h = h
  chain_right (x ∷ xs) ys h = chain_right xs ys h.1

  pub chain_once : (xs : List A) → IsChain next xs → IsOnce xs
  chain_once [] h = tt
  chain_once (x ∷ xs) h = (again, chain_once xs h.1)
    where
      again : Stands x xs → ⊥
      again k =
          let s = split x xs k in
          let tail = chain_right s.before (x ∷ s.after) (subst (λ l. IsChain next l) s.is h.1) in
          let same = chain_one x xs s.after h tail in
          let long : length xs ≡ length s.before + length (x ∷ s.after) = ap (λ (l : List A). length l) s.is ∙ length-append s.before (x ∷ s.after) in
          omega (arith, same, long)

  -- the place behind a place of the chain is where it leads
  pub record Step (a b : A) (xs : List A) : Type 0 where
    pub before : List A
    pub after : List A
    pub is : xs ≡ before ++ a ∷ b ∷ after

  pub chain_next : (a b : A) (xs : List A) → IsChain next xs → Stands a xs → next a ≡ Some b → Step a b xs
  chain_next a b xs h k e =
      let s = split a xs k in
      let tail = chain_right s.before (a ∷ s.after) (subst (λ l. IsChain next l) s.is h) in
      at_after s.before s.after s.is (sym tail.0 ∙ e)
    where
      at_after : (before after : List A) → xs ≡ before ++ a ∷ after → head after ≡ Some b → Step a b xs
      at_after before [] is h = absurd (cc)
      at_after before (y ∷ after) is h = record { before = before; after = after; is = is ∙ ap (λ z. before ++ a ∷ z ∷ after) (some_same h) }

  pub chain_last : (a : A) (xs : List A) → IsChain next xs → Stands a xs → next a ≡ None → (before : List A) × (xs ≡ before ++ a ∷ [])
  chain_last a xs h k e =
      let s = split a xs k in
      let tail = chain_right s.before (a ∷ s.after) (subst (λ l. IsChain next l) s.is h) in
      at_after s.before s.after s.is (sym tail.0 ∙ e)
    where
      at_after : (before after : List A) → xs ≡ before ++ a ∷ after → head after ≡ None → (before : List A) × (xs ≡ before ++ a ∷ [])
      at_after before [] is h = (before, is)
      at_after before (y ∷ after) is h = absurd (cc)
