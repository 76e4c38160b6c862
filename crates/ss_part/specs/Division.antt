-- A division of components into numbered parts.
use Rattle.std.specs.Prelude.{ℕ, ◌<◌, List, length, slice_index}

-- how many parts there are, and for each component the number of its part
pub record Division : Type 0 where
  pub parts : ℕ
  pub list : List ℕ

-- each part number is below the number of parts
pub record AreBelow (list : List ℕ) (parts : ℕ) : Type 0 where
  pub below : (c : ℕ) → c < length list → slice_index list c < parts
