-- A list that grows beside another one.
use Rattle.std.proofs.Common.{◌≡◌, ℕ, ◌+◌, ◌<◌, List, [], ◌∷◌, ◌++◌, length, map, take, get_or, refl, sym, ap, ◌∙◌}
use Rattle.std.proofs.lemmas.List.{take_more}

map_append : {A B : Type 0} (f : A → B) (xs ys : List A) → map f (xs ++ ys) ≡ map f xs ++ map f ys
map_append f [] ys = refl
map_append f (x ∷ xs) ys = ap (λ l. f x ∷ l) (map_append f xs ys)

-- where each list has one more, and these two are seen as the same
pub grown : {A B C : Type 0} (f : A → C) (g : B → C) (old new : List A) (a : A) (xs : List B) (i : ℕ) (x d : B) → new ≡ old ++ a ∷ [] → map f old ≡ map g (take i xs) → f a ≡ g x → i < length xs → get_or xs i d ≡ x → map f new ≡ map g (take (i + 1) xs)
grown f g old new a xs i x d pushed same one lt is =
    ap (map f) pushed
    ∙ map_append f old (a ∷ [])
    ∙ ap (λ l. l ++ f a ∷ []) same
    ∙ ap (λ b. map g (take i xs) ++ b ∷ []) one
    ∙ sym (map_append g (take i xs) (x ∷ []))
    ∙ ap (λ y. map g (take i xs ++ y ∷ [])) (sym is)
    ∙ ap (map g) (sym (take_more xs i d lt))
