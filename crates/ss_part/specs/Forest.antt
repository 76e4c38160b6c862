-- Tables of entries that lead to a group's name.
use Rattle.std.specs.Prelude.{◌≡◌, ℕ, ◌<◌, ◌≤◌, List, length, slice_index}
use Rattle.ss_part.specs.Groups.{groups}

-- each component's name names itself, and is no higher than the component
pub record IsNaming (names : List ℕ) : Type 0 where
  pub own : (c : ℕ) → c < length names → slice_index names (slice_index names c) ≡ slice_index names c
  pub lowest : (c : ℕ) → c < length names → slice_index names c ≤ c

-- no entry leads to a higher component
pub record GoesDown (table : List ℕ) : Type 0 where
  pub down : (c : ℕ) → c < length table → slice_index table c ≤ c

-- each entry leads to a component of the same group, and an entry that leads to itself stands at the group's name
pub record Stands (table names : List ℕ) : Type 0 where
  pub whole : length table ≡ length names
  pub naming : IsNaming names
  pub same : (c : ℕ) → c < length table → slice_index names (slice_index table c) ≡ slice_index names c
  pub ends : (c : ℕ) → c < length table → slice_index table c ≡ c → slice_index names c ≡ c

-- a table, and the number of the groups that it stands for
pub record StandsFor (table : List ℕ) (left : ℕ) (names : List ℕ) : Type 0 where
  pub stands : Stands table names
  pub count : left ≡ groups names
