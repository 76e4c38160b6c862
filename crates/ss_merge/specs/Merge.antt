-- Printed lines in the order of their keys.
use Rattle.std.specs.Prelude.{◌≡◌, ℕ, Bool, List}
use Rattle.std.specs.List.Sorted.{IsSortedBy, IsStableBy}
use Rattle.ss_model.specs.declared.Line.{Line}
use Rattle.ss_model.specs.Order.{key_before}

-- a line whose key comes before another's
abbrev pub line_before : Line → Line → Bool
line_before a b = key_before a.key b.key

-- the lines of a list in the order of their keys, those of one key in the order that they have there
pub record IsMerged (lines merged : List Line) : Type 0 where
  pub sorted : IsSortedBy line_before merged
  pub stable : IsStableBy line_before lines merged
