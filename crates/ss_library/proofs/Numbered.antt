-- Lists of checks that go item by item.
use Rattle.std.proofs.Common.{◌≡◌, ℕ, ◌+◌, ◌<◌, ◌≤◌, List, [], ◌∷◌, ◌++◌, length, drop, get_or, map, Bool, Some, None, refl, arith, drop-cons, append_assoc, append-nil, length-append, sym, ◌∙◌, ◌*◌, true, false}
use Rattle.std.proofs.lemmas.Grind.{common_steps}
use Rattle.ss_graph.specs.Checks.{Check, first_fault, Fails}
use Rattle.ss_graph.proofs.Judging.{first_fault_append, fails_front}
use Rattle.ss_library.specs.Make.{each_numbered}

pub dropped : {X : Type 0} (xs : List X) (i : ℕ) (x : X) → i < length xs → x ≡ get_or xs i x → drop i xs ≡ x ∷ drop (i + 1) xs
dropped xs i x h e = grind (arith, drop-cons xs i x h, e)

pub emptied : {X : Type 0} (xs : List X) (i : ℕ) → length xs ≤ i → drop i xs ≡ []
emptied xs i h = grind (arith, common_steps)

module _ {X F : Type 0} (f : ℕ → X → List (Check F)) where
  pub numbered_passed : (xs : List X) (i : ℕ) (x : X) → i < length xs → x ≡ get_or xs i x → first_fault (f i x) ≡ None → first_fault (each_numbered f i (drop i xs)) ≡ first_fault (each_numbered f (i + 1) (drop (i + 1) xs))
  unfolding each_numbered
  numbered_passed xs i x h e p = rw (dropped xs i x h e, first_fault_append (f i x) (each_numbered f (i + 1) (drop (i + 1) xs)), p) refl

  pub numbered_fails : (m : F → Bool) (e : F) (xs : List X) (i : ℕ) (x : X) → i < length xs → x ≡ get_or xs i x → Fails m e (first_fault (f i x)) → Fails m e (first_fault (each_numbered f i (drop i xs)))
  unfolding each_numbered
  numbered_fails m e xs i x h g p = rw (dropped xs i x h g) (fails_front m e (f i x) (each_numbered f (i + 1) (drop (i + 1) xs)) p)

  pub numbered_done : (xs : List X) (i : ℕ) → length xs ≤ i → first_fault (each_numbered f i (drop i xs)) ≡ None
  unfolding each_numbered first_fault
  numbered_done xs i h = rw (emptied xs i h) refl

-- what lists give so far, one after another, and one more
module _ {X Y : Type 0} (f : ℕ → X → List Y) where
  pub numbered_read : (ys all : List Y) (xs : List X) (i : ℕ) (x : X) → i < length xs → x ≡ get_or xs i x → ys ++ each_numbered f i (drop i xs) ≡ all → (ys ++ f i x) ++ each_numbered f (i + 1) (drop (i + 1) xs) ≡ all
  unfolding each_numbered
  numbered_read ys all xs i x h e p = rw append_assoc (rw (dropped xs i x h e) at p)

  pub numbered_all : (ys all : List Y) (xs : List X) (i : ℕ) → length xs ≤ i → ys ++ each_numbered f i (drop i xs) ≡ all → ys ≡ all
  unfolding each_numbered
  numbered_all ys all xs i h p = sym (append-nil ys) ∙ rw (emptied xs i h) at p

  pub numbered_length : (k n : ℕ) (xs : List X) → ((i : ℕ) (x : X) → length (f i x) ≡ k) → length (each_numbered f n xs) ≡ k * length xs
  unfolding each_numbered
  numbered_length k n [] h = grind arith
  numbered_length k n (x ∷ xs) h = grind (arith, length-append, numbered_length k (n + 1) xs h, h n x)

-- checks one by one
module _ {X F : Type 0} (f : X → Check F) where
  pub map_passed : (xs : List X) (i : ℕ) (x : X) → i < length xs → x ≡ get_or xs i x → (f x).holds ≡ true → first_fault (map f (drop i xs)) ≡ first_fault (map f (drop (i + 1) xs))
  unfolding first_fault
  map_passed xs i x h e p = rw (dropped xs i x h e, p) refl

  pub map_fails : (xs : List X) (i : ℕ) (x : X) → i < length xs → x ≡ get_or xs i x → (f x).holds ≡ false → first_fault (map f (drop i xs)) ≡ Some (f x).fault
  unfolding first_fault
  map_fails xs i x h e p = rw (dropped xs i x h e, p) refl

  pub map_done : (xs : List X) (i : ℕ) → length xs ≤ i → first_fault (map f (drop i xs)) ≡ None
  unfolding first_fault
  map_done xs i h = rw (emptied xs i h) refl

-- what was read so far, and one more
pub read_next : {X Y : Type 0} (f : X → Y) (ys all : List Y) (xs : List X) (i : ℕ) (x : X) → i < length xs → x ≡ get_or xs i x → ys ++ map f (drop i xs) ≡ all → (ys ++ f x ∷ []) ++ map f (drop (i + 1) xs) ≡ all
read_next f ys all xs i x h e p = rw append_assoc (rw (dropped xs i x h e) at p)
