-- Numbers that are marked in a list.
use Rattle.std.specs.Prelude.{◌≡◌, ℕ, ◌<◌, ◌==◌, Bool, false, List, length, slice_index_or}
use Rattle.std.specs.List.{list_any}

-- of the numbers below the list's length, just these are marked
abbrev pub AreMarked : List ℕ → List Bool → Type 0
AreMarked ids marks = (k : ℕ) → k < length marks → slice_index_or marks k false ≡ list_any (λ x. x == k) ids
