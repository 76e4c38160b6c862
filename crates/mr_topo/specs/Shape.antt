-- Texts of shapes: decimal numbers with separators between them.
use Rattle.std.specs.Prelude.{◌≡◌, ℕ, zero, suc, ◌+◌, ◌-◌, ◌*◌, ◌<◌, ◌≤◌, ◌==◌, ◌&&◌, List, [], ◌∷◌, ◌++◌, length, slice_index, decimal, Bool, true, not, nat_le, if◌then◌else◌, Option, Some, None}

-- numbers with the separators a and b between them in turn
abbrev pub spelled : ℕ → ℕ → List ℕ → List ℕ
spelled a b [] = []
spelled a b (n ∷ []) = decimal n
spelled a b (n ∷ m ∷ ns) = decimal n ++ a ∷ spelled b a (m ∷ ns)

abbrev pub is_digit : ℕ → Bool
is_digit c = nat_le 48 c && nat_le c 57

-- a text is that of these numbers, each of which is from 1 to 256
pub record Spells (a b : ℕ) (ns text : List ℕ) : Type 0 where
  pub some : 1 ≤ length ns
  pub least : (i : ℕ) → i < length ns → 1 ≤ slice_index ns i
  pub most : (i : ℕ) → i < length ns → slice_index ns i ≤ 256
  pub text_is : spelled a b ns ≡ text

-- a number from 1 to 256
abbrev pub fits : ℕ → Bool
fits n = nat_le 1 n && nat_le n 256

abbrev pub with_digit : ℕ → ℕ → ℕ
with_digit n c = n * 10 + (c - 48)

-- more numbers in front
abbrev pub behind : List ℕ → Option (List ℕ) → Option (List ℕ)
behind ns None = None
behind ns (Some ms) = Some (ns ++ ms)

-- the numbers of a text, where n is what was read of the first: those that it spells, where it spells any
abbrev pub reading : ℕ → ℕ → ℕ → List ℕ → Option (List ℕ)
reading a b n [] = if n == 0 then None else Some (n ∷ [])
reading a b n (c ∷ s) = if is_digit c then (if fits (with_digit n c) then reading a b (with_digit n c) s else None) else (if (c == a) && not (n == 0) then behind (n ∷ []) (reading b a 0 s) else None)

-- whether all numbers below one pass a test
abbrev pub all_below : ℕ → (ℕ → Bool) → Bool
all_below zero f = true
all_below (suc n) f = f n && all_below n f
