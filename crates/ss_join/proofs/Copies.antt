-- Lists that are copied, one after another.
use Rattle.std.proofs.Common.{◌≡◌, ℕ, ◌+◌, ◌<◌, List, [], ◌∷◌, ◌++◌, length, map, take, get_or, refl, sym, ap, ◌∙◌}
use Rattle.std.proofs.lemmas.List.{take_more}

map_append : {A B : Type 0} (f : A → B) (xs ys : List A) → map f (xs ++ ys) ≡ map f xs ++ map f ys
map_append f [] ys = refl
map_append f (x ∷ xs) ys = ap (λ l. f x ∷ l) (map_append f xs ys)

-- one more of each, and these two look the same
pub copied : {A C : Type 0} (f : A → C) (old new : List A) (a : A) (xs : List A) (i : ℕ) (x d : A) → new ≡ old ++ a ∷ [] → map f old ≡ map f (take i xs) → f a ≡ f x → i < length xs → get_or xs i d ≡ x → map f new ≡ map f (take (i + 1) xs)
copied f old new a xs i x d pushed same one lt is =
    ap (map f) pushed
    ∙ map_append f old (a ∷ [])
    ∙ ap (λ l. l ++ f a ∷ []) same
    ∙ ap (λ b. map f (take i xs) ++ b ∷ []) one
    ∙ sym (map_append f (take i xs) (x ∷ []))
    ∙ ap (λ y. map f (take i xs ++ y ∷ [])) (sym is)
    ∙ ap (map f) (sym (take_more xs i d lt))
