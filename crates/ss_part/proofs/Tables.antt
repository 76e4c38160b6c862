-- Lists of what a function gives at each number.
use Rattle.std.proofs.Common.{◌≡◌, ℕ, ◌+◌, List, [], ◌∷◌, ◌++◌, map, sym, ◌∙◌, ap, arith, map-id, subst}
use Rattle.std.specs.List.{range_with_len}
use Rattle.std.proofs.lemmas.List.FromFn.{map-range_with_len_more}

pub push_more : {X : Type 0} (f : ℕ → X) (k : ℕ) (xs ys : List X) (x : X) → xs ≡ map f (range_with_len 0 k) → ys ≡ xs ++ x ∷ [] → x ≡ f k → ys ≡ map f (range_with_len 0 (k + 1))
push_more f k xs ys x old pushed is = pushed ∙ ap (λ l. l ++ x ∷ []) old ∙ ap (λ y. map f (range_with_len 0 k) ++ y ∷ []) is ∙ sym (map-range_with_len_more f 0 k k (omega arith))

pub range_more : (k : ℕ) → range_with_len 0 (k + 1) ≡ range_with_len 0 k ++ k ∷ []
range_more k = sym (map-id _) ∙ map-range_with_len_more (λ x. x) 0 k k (omega arith) ∙ ap (λ l. l ++ k ∷ []) (map-id _)

pub filled : {X : Type 0} (f : ℕ → X) (n k : ℕ) (xs : List X) → xs ≡ map f (range_with_len 0 k) → k ≡ n → xs ≡ map f (range_with_len 0 n)
filled f n k xs h e = subst (λ m. xs ≡ map f (range_with_len 0 m)) e h
