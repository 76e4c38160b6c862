-- Reading one after another in place, as a loop does, and writing one field behind another.
use Rattle.std.proofs.Common.{◌≡◌, ℕ, zero, suc, ◌+◌, List, [], ◌∷◌, ◌++◌, length, take, drop, set, Some, Result, Ok, Err, refl, sym, ap, ◌∙◌, append_assoc, append-nil, arith}
use Rattle.std.specs.Prelude.{slice_get}
use Rattle.std.proofs.lemmas.List.{take_more_set, drop-set-lt, take_all, drop_all}
use Rattle.std.proofs.lemmas.Option.{slice_get_within}
use Rattle.ss_wire.specs.Wire.{Cursor}
use Rattle.ss_wire.specs.Form.{◌>>=◌, Form, each}

-- what was read before, and what is still read
abbrev pub with_front : {F A : Type 0} → List A → Result (List A × Cursor) F → Result (List A × Cursor) F
with_front front read = read >>= λ x. Ok (front ++ x.0, x.1)

pub front_none : {F A : Type 0} (read : Result (List A × Cursor) F) → with_front [] read ≡ read
front_none (Ok x) = refl
front_none (Err e) = refl

regroup : {F A : Type 0} (front : List A) (x : A) (read : Result (List A × Cursor) F) → with_front front (read >>= λ xs. Ok (x ∷ xs.0, xs.1)) ≡ with_front (front ++ x ∷ []) read
regroup front x (Ok xs) = ap (λ l. Ok (l, xs.1)) (sym (append_assoc front (x ∷ []) xs.0))
regroup front x (Err e) = refl

drop_here : {A : Type 0} (ys : List A) (i : ℕ) (y : A) → slice_get ys i ≡ Some y → drop i ys ≡ y ∷ drop (i + 1) ys
drop_here [] i y g = absurd cc
drop_here (z ∷ ys) zero y g = let e : z ≡ y = cc in ap (λ a. a ∷ ys) e
drop_here (z ∷ ys) (suc i) y g = drop_here ys i y g ∙ ap (λ n. y ∷ drop n (z ∷ ys)) {x = suc (i + 1)} {y = suc i + 1} (omega arith)

module _ {F A : Type 0} (f : A → Form F A) where
  -- one is read in the place of another
  read_next : (front rest : List A) (y x : A) (c d : Cursor) → (f y).read c ≡ Ok (x, d) → with_front front ((each f (y ∷ rest)).read c) ≡ with_front (front ++ x ∷ []) ((each f rest).read d)
  read_next front rest y x c d h = rw h (regroup front x ((each f rest).read d))

  pub goes_on : (ys : List A) (i : ℕ) (y x : A) (c d : Cursor) → slice_get ys i ≡ Some y → (f y).read c ≡ Ok (x, d) →
      with_front (take i ys) ((each f (drop i ys)).read c) ≡ with_front (take (i + 1) (set ys i x)) ((each f (drop (i + 1) (set ys i x))).read d)
  goes_on ys i y x c d g h =
      let within = slice_get_within ys i y g in
      ap (λ l. with_front (take i ys) ((each f l).read c)) (drop_here ys i y g)
      ∙ read_next (take i ys) (drop (i + 1) ys) y x c d h
      ∙ ap (λ l. with_front l ((each f (drop (i + 1) ys)).read d)) (sym (take_more_set ys i x within))
      ∙ ap (λ l. with_front (take (i + 1) (set ys i x)) ((each f l).read d)) (sym (drop-set-lt (i + 1) ys i x (omega arith)))

  pub ends : (ys : List A) (i : ℕ) (y : A) (e : F) (c : Cursor) → slice_get ys i ≡ Some y → (f y).read c ≡ Err e →
      with_front (take i ys) ((each f (drop i ys)).read c) ≡ Err e
  ends ys i y e c g h = ap (λ l. with_front (take i ys) ((each f l).read c)) (drop_here ys i y g) ∙ rw h refl

  pub is_done : (ys : List A) (i : ℕ) (c : Cursor) → length ys ≡ i → with_front (take i ys) ((each f (drop i ys)).read c) ≡ Ok (ys, c)
  is_done ys i c h =
      ap (λ l. with_front (take i ys) ((each f l).read c)) (drop_all i ys (omega (arith, h)))
      ∙ ap (λ l. Ok (l, c)) (append-nil (take i ys) ∙ take_all i ys (omega (arith, h)))

-- ---- writing

pub wrote2 : (o p q a b : List ℕ) → p ≡ o ++ a → q ≡ p ++ b → q ≡ o ++ (a ++ b)
wrote2 o p q a b x y = y ∙ ap (λ l. l ++ b) x ∙ append_assoc o a b

pub wrote3 : (o p q r a b c : List ℕ) → p ≡ o ++ a → q ≡ p ++ b → r ≡ q ++ c → r ≡ o ++ (a ++ (b ++ c))
wrote3 o p q r a b c x y z = wrote2 o p r a (b ++ c) x (wrote2 p q r b c y z)

pub wrote4 : (o p q r s a b c d : List ℕ) → p ≡ o ++ a → q ≡ p ++ b → r ≡ q ++ c → s ≡ r ++ d → s ≡ o ++ (a ++ (b ++ (c ++ d)))
wrote4 o p q r s a b c d x y z u = wrote2 o p s a (b ++ (c ++ d)) x (wrote3 p q r s b c d y z u)

pub wrote5 : (o p q r s t a b c d e : List ℕ) → p ≡ o ++ a → q ≡ p ++ b → r ≡ q ++ c → s ≡ r ++ d → t ≡ s ++ e → t ≡ o ++ (a ++ (b ++ (c ++ (d ++ e))))
wrote5 o p q r s t a b c d e x y z u v = wrote2 o p t a (b ++ (c ++ (d ++ e))) x (wrote4 p q r s t b c d e y z u v)
