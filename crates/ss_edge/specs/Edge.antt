-- What a shelf holds, what a sink has taken, and how their faults are counted.
use Rattle.std.specs.Prelude.{ℕ, ◌+◌, ◌-◌, ◌<◌, ◌≤◌, ◌^◌, ◌≡◌, ◌⊎◌, List, ◌++◌, length, take, drop, Option, Some, None, IsSomeAnd, option_map}
use Rattle.std.specs.Ordering.{nat_cmp}
use Rattle.std.specs.Cmp.Lexicographic.{slice_cmp}
use Rattle.std.specs.FinMap.{FinMap, get, insert}

-- names and the bytes that stand under them
abbrev pub Contents : Type 0
Contents = FinMap (slice_cmp nat_cmp) (List ℕ)

-- a count that is kept in 64 bits has risen; at its end it counts as risen
abbrev pub Rose : ℕ → ℕ → Type 0
Rose before after = before < 2 ^ 64 - 1 → before < after

-- no name's count has fallen
abbrev pub Kept : (List ℕ → ℕ) → (List ℕ → ℕ) → Type 0
Kept before after = (name : List ℕ) → before name ≤ after name

-- n bytes of an entry have been read from a place on
pub record HasRead (entry : List ℕ) (at n : ℕ) (buf : List ℕ) : Type 0 where
  pub bytes : drop at entry ≡ take n buf ++ drop (at + n) entry
  pub ended : 0 < length buf → n ≡ 0 → length entry ≤ at
  pub goes_on : length entry ≤ at → n ≡ 0

-- what a read says, where the shelf tells what it holds
abbrev pub Reads : Option Contents → List ℕ → ℕ → ℕ → List ℕ → Type 0
Reads None name at n buf = Unit {0}
Reads (Some held) name at n buf = IsSomeAnd (get held name) (λ entry. HasRead entry at n buf)

-- what a shelf holds after a put
abbrev pub with_entry : List ℕ → List ℕ → Option Contents → Option Contents
with_entry name bytes held = option_map (λ m. insert m name bytes) held

-- a put that failed has left a beginning, or all as it was
abbrev pub PartlyPut : List ℕ → List ℕ → Option Contents → Option Contents → Type 0
PartlyPut name bytes before after = (after ≡ before) ⊎ ((n : ℕ) × (after ≡ with_entry name (take n bytes) before))

-- what a sink has taken after more bytes, where it tells that
abbrev pub more : List ℕ → Option (List ℕ) → Option (List ℕ)
more bytes taken = option_map (λ t. t ++ bytes) taken

-- a sink took a beginning of these bytes
pub record TookSome (bytes : List ℕ) (before after : Option (List ℕ)) : Type 0 where
  pub front : List ℕ
  pub rest : List ℕ
  pub whole : bytes ≡ front ++ rest
  pub took : after ≡ more front before
