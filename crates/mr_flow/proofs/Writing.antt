-- Writing one field behind another, and each of a list.
use Rattle.std.proofs.Common.{◌≡◌, ℕ, zero, suc, ◌+◌, ◌<◌, List, [], ◌∷◌, ◌++◌, length, take, get_or, sym, ap, ◌∙◌, append_assoc, append-nil, arith}
use Rattle.std.specs.List.{flat_map}
use Rattle.std.proofs.lemmas.List.Concat.{flat_map-cons}
use Rattle.ss_wire.proofs.Loops.{wrote2, wrote5}

pub wrote6 : (o p q r s t u a b c d e f : List ℕ) → p ≡ o ++ a → q ≡ p ++ b → r ≡ q ++ c → s ≡ r ++ d → t ≡ s ++ e → u ≡ t ++ f → u ≡ o ++ (a ++ (b ++ (c ++ (d ++ (e ++ f)))))
wrote6 o p q r s t u a b c d e f h i j k l m = wrote2 o p u a (b ++ (c ++ (d ++ (e ++ f)))) h (wrote5 p q r s t u b c d e f i j k l m)

pub wrote7 : (o p q r s t u v a b c d e f g : List ℕ) → p ≡ o ++ a → q ≡ p ++ b → r ≡ q ++ c → s ≡ r ++ d → t ≡ s ++ e → u ≡ t ++ f → v ≡ u ++ g → v ≡ o ++ (a ++ (b ++ (c ++ (d ++ (e ++ (f ++ g))))))
wrote7 o p q r s t u v a b c d e f g h i j k l m n = wrote2 o p v a (b ++ (c ++ (d ++ (e ++ (f ++ g))))) h (wrote6 p q r s t u v b c d e f g i j k l m n)

-- the text of one more
text_more : {X : Type 0} (f : X → List ℕ) (xs : List X) (i : ℕ) (x : X) → i < length xs → flat_map f (take (i + 1) xs) ≡ flat_map f (take i xs) ++ f (get_or xs i x)
text_more f [] i x h = absurd (omega arith)
text_more f (y ∷ xs) zero x h = flat_map-cons f y [] ∙ append-nil (f y)
text_more f (y ∷ xs) (suc i) x h =
    ap (λ n. flat_map f (take n (y ∷ xs))) {x = suc i + 1} {y = suc (i + 1)} (omega arith)
    ∙ flat_map-cons f y (take (i + 1) xs)
    ∙ ap (λ l. f y ++ l) (text_more f xs i x (omega arith))
    ∙ sym (append_assoc (f y) (flat_map f (take i xs)) (f (get_or xs i x)))
    ∙ ap (λ l. l ++ f (get_or xs i x)) (sym (flat_map-cons f y (take i xs)))

pub wrote_more : {X : Type 0} (f : X → List ℕ) (xs : List X) (i : ℕ) (x : X) (o p q : List ℕ) → i < length xs → x ≡ get_or xs i x → p ≡ o ++ flat_map f (take i xs) → q ≡ p ++ f x → q ≡ o ++ flat_map f (take (i + 1) xs)
wrote_more f xs i x o p q h is so_far now =
    now ∙ ap (λ l. l ++ f x) so_far
    ∙ append_assoc o (flat_map f (take i xs)) (f x)
    ∙ ap (λ y. o ++ (flat_map f (take i xs) ++ f y)) is
    ∙ ap (λ l. o ++ l) (sym (text_more f xs i x h))
