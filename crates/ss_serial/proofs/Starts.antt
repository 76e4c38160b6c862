-- The opening.
use Rattle.std.proofs.Common.{◌≡◌, ℕ, zero, suc, ◌+◌, ◌<◌, ◌≤◌, true, cond, List, [], ◌∷◌, length, drop, refl, sym, ap, ◌∙◌, arith}
use Rattle.std.proofs.lemmas.Bool.Decides.{nat_tests}
use Rattle.ss_model.specs.declared.Event.{Event}
use Rattle.ss_model.specs.Order.{key_before, insert}
use Rattle.ss_model.specs.Step.{start_of, starts}

-- one more start goes before those of the components behind it
insert_start : {S L : Type 0} (n : ℕ) (xs : List S) → insert {L = L} (start_of n) (starts (n + 1) xs) ≡ start_of n ∷ starts (n + 1) xs
insert_start n [] = refl
insert_start {S} {L} n (x ∷ xs) =
    let before : key_before (start_of {L = L} n).key (start_of {L = L} (n + 1)).key ≡ true = grind (arith, nat_tests) in
    ap (λ b. cond b (start_of n ∷ start_of (n + 1) ∷ starts (n + 1 + 1) xs) (start_of (n + 1) ∷ insert (start_of n) (starts (n + 1 + 1) xs))) before

starts_at : {S L : Type 0} (n i : ℕ) (xs : List S) → i < length xs → starts {L = L} n (drop i xs) ≡ start_of n ∷ starts (n + 1) (drop (suc i) xs)
starts_at n i [] h = absurd (omega arith)
starts_at n zero (x ∷ xs) h = refl
starts_at n (suc i) (x ∷ xs) h = starts_at n i xs (omega arith)

pub opening_step : {S L : Type 0} (xs : List S) (i j : ℕ) (p q : List (Event L)) → i ≡ j + 1 → i ≤ length xs → p ≡ starts i (drop i xs) → q ≡ insert (start_of j) p → q ≡ starts j (drop j xs)
opening_step {S} {L} xs i j p q e h before new =
    new ∙ ap (insert (start_of j)) (before ∙ ap (λ k. starts k (drop k xs)) e)
    ∙ insert_start j (drop (j + 1) xs)
    ∙ ap (λ k. start_of j ∷ starts (j + 1) (drop k xs)) {x = j + 1} {y = suc j} (omega arith)
    ∙ sym (starts_at j j xs (omega arith))
