-- Lists of turns and of slots, one by one.
use Rattle.std.proofs.Common.{◌≡◌, ℕ, zero, suc, ◌+◌, ◌<◌, Bool, true, false, List, [], ◌∷◌, ◌++◌, length, map, take, drop, get_or, Some, Result, Ok, Err, refl, sym, ap, ◌∙◌, append_assoc, append-nil, arith}
use Rattle.std.specs.Prelude.{◌==◌, count_by, slice_get, slice_index}
use Rattle.std.specs.List.{flat_map, list_all, range_with_len}
use Rattle.std.proofs.lemmas.Bool.Decides.{nat_tests}
use Rattle.std.proofs.lemmas.List.Concat.{flat_map-cons}
use Rattle.ss_wire.specs.Wire.{Cursor}
use Rattle.ss_wire.specs.Form.{◌>>=◌, Form, each}
use Rattle.ss_wire.proofs.Loops.{with_front}
use Rattle.ss_element.specs.declared.fault.RestoreFault.{RestoreFault}
use Rattle.ss_element.specs.declared.fault.RestoreFault.TheVariants as fault
use Rattle.ss_element.specs.Gives.{Fails}
use Rattle.mr_arb.specs.declared.turn.Turn.{Turn}
use Rattle.mr_arb.specs.Arbitrating.{EachFits}
use Rattle.mr_router.specs.Turns.{holds_once, turn_fits}
use Rattle.mr_router.specs.Kept.Keeping.{fits_turns, turns_fit}
use Rattle.mr_router.specs.Kept.Judging.{both, of_each, each_of}

pub not_eq : (a b : ℕ) → (a ≡ b → ⊥) → a == b ≡ false
not_eq a b h = grind (arith, nat_tests)

-- ---- a test of each

each_at : {X Y : Type 0} (p : Y → Bool) (f : X → Y) (xs : List X) (i : ℕ) (d : X) → i < length xs → list_all p (map f xs) ≡ true → p (f (get_or xs i d)) ≡ true
each_at p f [] i d l h = absurd (omega (arith, l))
each_at p f (x ∷ xs) zero d l h = (both (p (f x)) (list_all p (map f xs)) h).0
each_at p f (x ∷ xs) (suc i) d l h = each_at p f xs i d (omega (arith, l)) (both (p (f x)) (list_all p (map f xs)) h).1

pub not_all : {X Y : Type 0} (p : Y → Bool) (f : X → Y) (xs : List X) (i : ℕ) (d : X) → i < length xs → p (f (get_or xs i d)) ≡ false → false ≡ list_all p (map f xs)
not_all p f xs i d l h = by_value (list_all p (map f xs)) refl
  where
    by_value : (b : Bool) → list_all p (map f xs) ≡ b → false ≡ b
    by_value false e = refl
    by_value true e = let x = each_at p f xs i d l e in absurd cc

each_same : (p q : ℕ → Bool) (n : ℕ) → ((k : ℕ) → k < n → p k ≡ q k) → list_all p (range_with_len 0 n) ≡ list_all q (range_with_len 0 n)
each_same p q n h = by_values (list_all p (range_with_len 0 n)) (list_all q (range_with_len 0 n)) refl refl
  where
    by_values : (a b : Bool) → list_all p (range_with_len 0 n) ≡ a → list_all q (range_with_len 0 n) ≡ b → list_all p (range_with_len 0 n) ≡ list_all q (range_with_len 0 n)
    by_values true b e f = e ∙ sym (of_each q n (λ k l. sym (h k l) ∙ each_of p n k e l))
    by_values false true e f = of_each p n (λ k l. h k l ∙ each_of q n k f l) ∙ sym f
    by_values false false e f = e ∙ sym f

-- ---- turns that fit

-- a test of each slot by its count
pub counts_same : (order counts : List ℕ) (r : Bool) → ((s : ℕ) → s < length counts → slice_index counts s ≡ count_by (λ t. t == s) order) → r ≡ list_all (λ s. slice_index counts s == 1) (range_with_len 0 (length counts)) → r ≡ list_all (holds_once order) (range_with_len 0 (length counts))
counts_same order counts r same is = is ∙ each_same (λ s. slice_index counts s == 1) (holds_once order) (length counts) (λ k l. ap (λ n. n == 1) (same k l))

pub not_fit : (slots : ℕ) (turns : List Turn) → (EachFits slots turns → ⊥) → false ≡ list_all (turn_fits slots) turns
not_fit slots turns never = by_value (list_all (turn_fits slots) turns) refl
  where
    by_value : (b : Bool) → list_all (turn_fits slots) turns ≡ b → false ≡ b
    by_value false e = refl
    by_value true e = absurd (never (fits_turns slots turns e))

pub unfit : (slots : ℕ) (turns : List Turn) → list_all (turn_fits slots) turns ≡ false → EachFits slots turns → ⊥
unfit slots turns h all = let k = turns_fit slots turns all in differ (sym k ∙ h)
  where
    differ : true ≡ false → ⊥
    differ e = absurd cc

-- ---- turns, read one after another behind those that were read

drop_here : {A : Type 0} (ys : List A) (i : ℕ) (y : A) → slice_get ys i ≡ Some y → drop i ys ≡ y ∷ drop (i + 1) ys
drop_here [] i y g = absurd cc
drop_here (z ∷ ys) zero y g = let e : z ≡ y = cc in ap (λ a. a ∷ ys) e
drop_here (z ∷ ys) (suc i) y g = drop_here ys i y g ∙ ap (λ n. y ∷ drop n (z ∷ ys)) {x = suc (i + 1)} {y = suc i + 1} (omega arith)

regroup : {F A : Type 0} (front : List A) (x : A) (read : Result (List A × Cursor) F) → with_front front (read >>= λ xs. Ok (x ∷ xs.0, xs.1)) ≡ with_front (front ++ x ∷ []) read
regroup front x (Ok xs) = ap (λ l. Ok (l, xs.1)) (sym (append_assoc front (x ∷ []) xs.0))
regroup front x (Err e) = refl

map-push : {X Y : Type 0} (f : X → Y) (xs : List X) (x : X) → map f (xs ++ x ∷ []) ≡ map f xs ++ f x ∷ []
map-push f [] x = refl
map-push f (y ∷ xs) x = ap (λ l. f y ∷ l) (map-push f xs x)

module _ {X A : Type 0} (f : X → A) (form : A → Form RestoreFault A) where
  pub next_read : (ys : List A) (i : ℕ) (y : A) (xs new : List X) (x : X) (c d : Cursor) (total : Result (List A × Cursor) RestoreFault) →
      slice_get ys i ≡ Some y → (form y).read c ≡ Ok (f x, d) → new ≡ xs ++ x ∷ [] →
      with_front (map f xs) ((each form (drop i ys)).read c) ≡ total → with_front (map f new) ((each form (drop (i + 1) ys)).read d) ≡ total
  next_read ys i y xs new x c d total g h is so_far =
      ap (λ l. with_front (map f l) ((each form (drop (i + 1) ys)).read d)) is
      ∙ ap (λ l. with_front l ((each form (drop (i + 1) ys)).read d)) (map-push f xs x)
      ∙ sym (ap (λ l. with_front (map f xs) ((each form l).read c)) (drop_here ys i y g) ∙ rw h (regroup (map f xs) (f x) ((each form (drop (i + 1) ys)).read d)))
      ∙ so_far

  next_err : (ys : List A) (i : ℕ) (y : A) (xs : List X) (c : Cursor) (e : RestoreFault) (total : Result (List A × Cursor) RestoreFault) →
      slice_get ys i ≡ Some y → (form y).read c ≡ Err e →
      with_front (map f xs) ((each form (drop i ys)).read c) ≡ total → total ≡ Err e
  next_err ys i y xs c e total g h so_far = sym so_far ∙ ap (λ l. with_front (map f xs) ((each form l).read c)) (drop_here ys i y g) ∙ rw h refl

  pub next_fails : (ys : List A) (i : ℕ) (y : A) (xs : List X) (c : Cursor) (e : RestoreFault) (total : Result (List A × Cursor) RestoreFault) →
      slice_get ys i ≡ Some y → Fails e ((form y).read c) →
      with_front (map f xs) ((each form (drop i ys)).read c) ≡ total → Fails e total
  next_fails ys i y xs c (fault.Short at) total g h so_far = next_err ys i y xs c (fault.Short at) total g h so_far
  next_fails ys i y xs c (fault.Value at) total g h so_far = next_err ys i y xs c (fault.Value at) total g h so_far
  next_fails ys i y xs c fault.NoMemory total g h so_far = tt

-- one more of a list was written
text_more : {X : Type 0} (f : X → List ℕ) (xs : List X) (i : ℕ) (x : X) → slice_get xs i ≡ Some x → flat_map f (take (suc i) xs) ≡ flat_map f (take i xs) ++ f x
text_more f [] i x g = absurd cc
text_more f (y ∷ xs) zero x g = let same : y ≡ x = cc in flat_map-cons f y [] ∙ append-nil (f y) ∙ ap f same
text_more f (y ∷ xs) (suc i) x g =
    flat_map-cons f y (take (suc i) xs)
    ∙ ap (λ l. f y ++ l) (text_more f xs i x g)
    ∙ sym (append_assoc (f y) (flat_map f (take i xs)) (f x))
    ∙ ap (λ l. l ++ f x) (sym (flat_map-cons f y (take i xs)))

pub text_step : {X : Type 0} (f : X → List ℕ) (xs : List X) (i : ℕ) (x : X) (o p q : List ℕ) → slice_get xs i ≡ Some x → p ≡ o ++ flat_map f (take i xs) → q ≡ p ++ f x → q ≡ o ++ flat_map f (take (i + 1) xs)
text_step f xs i x o p q g so_far now =
    now ∙ ap (λ l. l ++ f x) so_far ∙ append_assoc o (flat_map f (take i xs)) (f x)
    ∙ ap (λ l. o ++ l) (sym (text_more f xs i x g))
    ∙ ap (λ n. o ++ flat_map f (take n xs)) {x = suc i} {y = i + 1} (omega arith)

-- what stands at a place of a list
pub get_map : {X Y : Type 0} (f : X → Y) (xs : List X) (i : ℕ) (d : X) → i < length xs → slice_get (map f xs) i ≡ Some (f (get_or xs i d))
get_map f [] i d l = absurd (omega (arith, l))
get_map f (x ∷ xs) zero d l = refl
get_map f (x ∷ xs) (suc i) d l = get_map f xs i d (omega (arith, l))

pub get_there : {X : Type 0} (xs : List X) (i : ℕ) (d : X) → i < length xs → slice_get xs i ≡ Some (get_or xs i d)
get_there [] i d l = absurd (omega (arith, l))
get_there (x ∷ xs) zero d l = refl
get_there (x ∷ xs) (suc i) d l = get_there xs i d (omega (arith, l))
