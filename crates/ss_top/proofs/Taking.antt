-- What a sink has taken of a text that is written in parts.
use Rattle.std.proofs.Common.{◌≡◌, ℕ, ◌≤◌, List, [], ◌∷◌, ◌++◌, Option, Some, None, refl, ap, sym, ◌∙◌, subst, arith, append_assoc, inl, inr}
use Rattle.std.proofs.lemmas.List.{append-nil}
use Rattle.ss_edge.specs.Edge.{more, TookSome, Rose}
use Rattle.ss_top.specs.Answer.{line}
use Rattle.ss_top.specs.Printing.{Told}

pub more-both : (a b : List ℕ) (o : Option (List ℕ)) → more b (more a o) ≡ more (a ++ b) o
more-both a b None = refl
more-both a b (Some t) = ap Some (append_assoc t a b)

pub more-nothing : (o : Option (List ℕ)) → o ≡ more [] o
more-nothing None = refl
more-nothing (Some t) = ap Some (sym (append-nil t))

pub took-first : (a b : List ℕ) (o n : Option (List ℕ)) → TookSome a o n → TookSome (a ++ b) o n
took-first a b o n t = record { front = t.front; rest = t.rest ++ b; whole = ap (λ x. x ++ b) t.whole ∙ append_assoc t.front t.rest b; took = t.took }

pub took-then : (a b : List ℕ) (o m n : Option (List ℕ)) → m ≡ more a o → TookSome b m n → TookSome (a ++ b) o n
took-then a b o m n e t = record { front = a ++ t.front; rest = t.rest; whole = ap (λ x. a ++ x) t.whole ∙ sym (append_assoc a t.front t.rest); took = t.took ∙ ap (λ x. more t.front x) e ∙ more-both a t.front o }

-- a line of three parts, of which the first is written otherwise
module _ (t m a b : List ℕ) (o : Option (List ℕ)) (k l : ℕ) where
  abbrev parts : List ℕ → List ℕ
  parts x = x ++ (a ++ b)

  told_as : (n : Option (List ℕ)) → t ≡ m → Told (line (parts t)) o n k l → Told (line (parts m)) o n k l
  told_as n e h = subst (λ (x : List ℕ). Told (line (parts x)) o n k l) e h

  pub told_first : (n : Option (List ℕ)) → t ≡ m → Rose k l → TookSome t o n → Told (line (parts m)) o n k l
  told_first n e r h = told_as n e (inr (r, took-first (parts t) _ o n (took-first t (a ++ b) o n h)))

  pub told_second : (p n : Option (List ℕ)) → t ≡ m → p ≡ more t o → Rose k l → TookSome a p n → Told (line (parts m)) o n k l
  told_second p n e f r h = told_as n e (inr (r, took-first (parts t) _ o n (took-then t (a ++ b) o p n f (took-first a b p n h))))

  pub told_third : (p q n : Option (List ℕ)) → t ≡ m → p ≡ more t o → q ≡ more a p → Rose k l → TookSome b q n → Told (line (parts m)) o n k l
  told_third p q n e f g r h = told_as n e (inr (r, took-first (parts t) _ o n (took-then t (a ++ b) o p n f (took-then a b p q n g h))))

pub rose-first : (a b c d : ℕ) → a ≤ b → b ≤ c → c ≤ d → Rose b c → Rose a d
rose-first a b c d h k l r = grind arith

-- what was told in two parts
pub told-two : (f b t u : List ℕ) (o n : Option (List ℕ)) (k l : ℕ) → f ≡ t → b ≡ u → Told (line (f ++ b)) o n k l → Told (line (t ++ u)) o n k l
told-two f b t u o n k l e z h = subst (λ (x : List ℕ). Told (line x) o n k l) (ap (λ y. y ++ b) e ∙ ap (λ y. t ++ y) z) h

pub told-at : (f b t : List ℕ) (o n : Option (List ℕ)) (k l : ℕ) → f ≡ t → b ≡ [] → Told (line (f ++ b)) o n k l → Told (line t) o n k l
told-at f b t o n k l e z h = subst (λ (x : List ℕ). Told (line x) o n k l) (append-nil t) (told-two f b t [] o n k l e z h)

-- ---- a text in any number of pieces

-- it was told, by a sink whose count doesn't fall
abbrev pub IsTelling : List ℕ → Option (List ℕ) → Option (List ℕ) → ℕ → ℕ → Type 0
IsTelling text o n k l = Told text o n k l × (k ≤ l)

pub tells_part : (a b : List ℕ) (o n : Option (List ℕ)) (k l : ℕ) → TookSome a o n → Rose k l → k ≤ l → IsTelling (a ++ b) o n k l
tells_part a b o n k l t r h = (inr (r, took-first a b o n t), h)

-- the last piece, which is written otherwise
pub tells_last : (a b : List ℕ) (o n : Option (List ℕ)) (k l : ℕ) → b ≡ a → n ≡ more b o → k ≤ l → IsTelling a o n k l
tells_last a b o n k l same e h = (inl (e ∙ ap (λ x. more x o) same), h)

pub tells_last_part : (a b : List ℕ) (o n : Option (List ℕ)) (k l : ℕ) → b ≡ a → TookSome b o n → Rose k l → k ≤ l → IsTelling a o n k l
tells_last_part a b o n k l same t r h = (inr (r, subst (λ (x : List ℕ). TookSome x o n) same t), h)

-- a piece, and what was told behind it
pub tells_then : (a b : List ℕ) (o p n : Option (List ℕ)) (j k l : ℕ) → p ≡ more a o → j ≤ k → IsTelling b p n k l → IsTelling (a ++ b) o n j l
tells_then a b o p n j k l e h (inl f, g) = (inl (f ∙ ap (more b) e ∙ more-both a b o), omega (arith, h, g))
tells_then a b o p n j k l e h (inr r, g) = (inr (rose-first j k l l h g (omega arith) r.0, took-then a b o p n e r.1), omega (arith, h, g))

-- a line of five pieces, of which the first is written otherwise
pub told_line : (t m a b c d : List ℕ) (o n : Option (List ℕ)) (k l : ℕ) → t ≡ m → IsTelling (t ++ (a ++ (b ++ (c ++ (d ++ 10 ∷ []))))) o n k l → Told (line (m ++ (a ++ (b ++ (c ++ d))))) o n k l
told_line t m a b c d o n k l e h =
    let pieces : m ++ (a ++ (b ++ (c ++ (d ++ 10 ∷ [])))) ≡ line (m ++ (a ++ (b ++ (c ++ d)))) =
    sym (append_assoc m (a ++ (b ++ (c ++ d))) (10 ∷ []) ∙ ap (λ x. m ++ x) (append_assoc a (b ++ (c ++ d)) (10 ∷ []) ∙ ap (λ x. a ++ x) (append_assoc b (c ++ d) (10 ∷ []) ∙ ap (λ x. b ++ x) (append_assoc c d (10 ∷ []))))) in
    subst (λ (x : List ℕ). Told x o n k l) (ap (λ x. x ++ (a ++ (b ++ (c ++ (d ++ 10 ∷ []))))) e ∙ pieces) h.0

-- told to a sink that was as before
pub told-since : (text : List ℕ) (o p n : Option (List ℕ)) (j k l : ℕ) → p ≡ o → k ≡ j → Told text p n k l → Told text o n j l
told-since text o p n j k l e f h = subst (λ m. Told text o n m l) f (subst (λ (q : Option (List ℕ)). Told text q n k l) e h)
