-- Rows that stand behind each other in one list of slots.
use Rattle.std.specs.Prelude.{◌≡◌, ℕ, ◌+◌, ◌<◌, ◌≤◌, List, length, map, take, drop, slice_index_or, nat_lt, Option, None, if◌then◌else◌}
use Rattle.ss_element.specs.declared.table.Span.{Span}
use Rattle.ss_element.specs.Index.{slot}

-- the span of a component, which is empty past the last
abbrev pub span : List Span → ℕ → Span
span spans c = slice_index_or spans c (record { start = 0; room = 0 })

-- what a span has at an index
abbrev pub within : {X : Type 0} → List (Option X) → Span → ℕ → Option X
within slots s i = if nat_lt i s.room then slot slots (s.start + i) else None

-- the row of each component
abbrev pub rows : {X : Type 0} → List (Option X) → List Span → List (List (Option X))
rows slots spans = map (λ (s : Span). take s.room (drop s.start slots)) spans

-- the spans stand among n slots, and no slot is in two of them
pub record AreApart (n : ℕ) (spans : List Span) : Type 0 where
  pub inside : (c : ℕ) → (span spans c).start + (span spans c).room ≤ n
  pub apart : (c d i j : ℕ) → i < (span spans c).room → j < (span spans d).room → (span spans c).start + i ≡ (span spans d).start + j → c ≡ d

-- a span's slots stand behind all others, with room for more
pub record IsCopied {X : Type 0} (from : Span) (room : ℕ) (old new : List (Option X)) : Type 0 where
  pub end : length new ≡ length old + room
  pub slots : (i : ℕ) → i < room → slot new (length old + i) ≡ within old from i
