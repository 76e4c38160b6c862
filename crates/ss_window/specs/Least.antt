-- Least numbers of sets.
use Rattle.std.specs.Prelude.{◌≡◌, ℕ, ◌*◌, ◌<◌, ◌≤◌, Option, Some, None}

-- the least number of a set
pub record IsLeast (P : ℕ → Type 0) (n : ℕ) : Type 0 where
  pub member : P n
  pub least : (m : ℕ) → P m → n ≤ m

-- the least number of a set, or none where the set is empty
abbrev pub IsFirst : (ℕ → Type 0) → Option ℕ → Type 0
IsFirst P None = (m : ℕ) → P m → ⊥
IsFirst P (Some n) = IsLeast P n

-- a whole number of periods
pub record IsMultiple (period t : ℕ) : Type 0 where
  pub times : ℕ
  pub is : t ≡ times * period

-- the same of a period that may be absent, and then nothing is a multiple of it
abbrev pub OnPeriod : Option ℕ → ℕ → Type 0
OnPeriod None t = ⊥
OnPeriod (Some period) t = IsMultiple period t

-- the number that an option has
abbrev pub IsIn : Option ℕ → ℕ → Type 0
IsIn None t = ⊥
IsIn (Some s) t = t ≡ s

-- a number of a set that is above another number
abbrev pub Above : (ℕ → Type 0) → ℕ → ℕ → Type 0
Above P x t = P t × (x < t)
