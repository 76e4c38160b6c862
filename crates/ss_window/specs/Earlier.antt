-- The lesser of two numbers that may be absent.
use Rattle.std.specs.Prelude.{ℕ, min, Option, Some, None}

abbrev pub earlier_of : Option ℕ → Option ℕ → Option ℕ
earlier_of None y = y
earlier_of (Some x) None = Some x
earlier_of (Some x) (Some y) = Some (min x y)
