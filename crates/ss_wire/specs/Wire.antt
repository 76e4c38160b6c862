-- Fields, as they are written and read.
use Rattle.std.specs.Prelude.{◌≡◌, ◌<◌, slice_index, ℕ, ◌+◌, List, length, take, drop, Result, Ok, Err, nat_lt, if◌then◌else◌}
use Rattle.byteorder.specs.Endian.{big_number}
use Rattle.ss_wire.specs.declared.Short.{Short}

-- where a reader stands: what is left, and how much it has passed
pub record Cursor : Type 0 where
  pub rest : List ℕ
  pub at : ℕ

-- behind the next k bytes
abbrev pub passed : ℕ → Cursor → Cursor
passed k c = record { rest = drop k c.rest; at = c.at + k }

-- a number of k bytes, or where it lacks some
abbrev pub number : ℕ → Cursor → Result (ℕ × Cursor) ℕ
number k c = if nat_lt (length c.rest) k then Err c.at else Ok (big_number k c.rest, passed k c)

-- k bytes as they are
abbrev pub taken : ℕ → Cursor → Result (List ℕ × Cursor) ℕ
taken k c = if nat_lt (length c.rest) k then Err c.at else Ok (take k c.rest, passed k c)

-- what a reader's call answered and left is what reading gives; it left itself unchanged where bytes lack
abbrev pub Reads : {X Y : Type 0} → (X → Y) → Result X Short → Cursor → Cursor → Result (Y × Cursor) ℕ → Type 0
Reads view (Ok x) old new r = r ≡ Ok (view x, new)
Reads view (Err e) old new r = (r ≡ Err e.at) × (new ≡ old)

-- a list of bytes
abbrev pub IsBytes : List ℕ → Type 0
IsBytes bytes = (i : ℕ) → slice_index bytes i < 256
