-- The entries of a shelf in memory.
use Rattle.std.specs.Prelude.{ℕ, ◌+◌, ◌-◌, ◌^◌, ◌<◌, ◌≡◌, ◌≢◌, ◌==◌, ◌&&◌, ◌||◌, Bool, nat_lt, is_none, List, [], ◌∷◌, map, length, take, slice_index_or, Option, Some, None, if◌then◌else◌}
use Rattle.std.specs.Str.{bytes_eq}
use Rattle.std.specs.FinMap.{from_entries, get}
use Rattle.std.specs.declared.vec.Vec.{Vec}
use Rattle.std.specs.declared.alloc.Global.{Global}
use Rattle.ss_edge.specs.Edge.{Contents}
use Rattle.ss_edge.specs.declared.mem_shelf.Entry.{Entry}

abbrev pub pair_of : Entry → List ℕ × List ℕ
pair_of e = (e.name, e.bytes.items)

-- a name and bytes as they are handed in
abbrev pub raw_of : List ℕ × Vec ℕ Global → List ℕ × List ℕ
raw_of e = (e.0, e.1.items)

abbrev pub contents : List Entry → Contents
contents es = from_entries (map pair_of es)

-- a number of the first entry of a name, or one for all names that aren't there
abbrev pub look : (Entry → ℕ) → ℕ → List ℕ → List Entry → ℕ
look f others name [] = others
look f others name (e ∷ es) = if bytes_eq name e.name then f e else look f others name es

abbrev pub reads_of : ℕ → List Entry → List ℕ → ℕ
reads_of others es name = look (λ e. e.read_faults) others name es

abbrev pub puts_of : ℕ → List Entry → List ℕ → ℕ
puts_of others es name = look (λ e. e.put_faults) others name es

-- an entry stands at this place, and it is the first of its name
pub record IsAt (name : List ℕ) (es : List Entry) (i : ℕ) : Type 0 where
  pub within : i < length es
  pub named : (d : Entry) → (slice_index_or es i d).name ≡ name
  pub first : (k : ℕ) (d : Entry) → k < i → (slice_index_or es k d).name ≢ name

-- no entry has the name
abbrev pub IsNowhere : List ℕ → List Entry → Type 0
IsNowhere name es = (k : ℕ) (d : Entry) → k < length es → (slice_index_or es k d).name ≢ name

-- how many bytes a listed call keeps: what the first pair of its number says
abbrev pub listed : ℕ → List (ℕ × ℕ) → Option ℕ
listed call [] = None
listed call (f ∷ fails) = if f.0 == call then Some f.1 else listed call fails

-- what a listed put keeps of its bytes
abbrev pub kept_of : Option ℕ → List ℕ → List ℕ
kept_of None bytes = bytes
kept_of (Some n) bytes = take n bytes

-- a count that is kept in 64 bits, after one more; at its end it stays
abbrev pub risen : ℕ → ℕ
risen n = if nat_lt n (2 ^ 64 - 1) then n + 1 else n

-- the counts after a fault of a name: they are kept for each entry, and once for all names that aren't there
abbrev pub counted : Contents → List ℕ → (List ℕ → ℕ) → List ℕ → ℕ
counted held name count other = if bytes_eq other name || (is_none (get held name) && is_none (get held other)) then risen (count other) else count other

-- the counts after a call, which rise where it failed and nowhere else
abbrev pub Counts : Bool → Contents → List ℕ → (List ℕ → ℕ) → (List ℕ → ℕ) → Type 0
Counts failed held name before after = (other : List ℕ) → after other ≡ (if failed then counted held name before other else before other)

-- the counts are as they were
abbrev pub Same : (List ℕ → ℕ) → (List ℕ → ℕ) → Type 0
Same before after = (other : List ℕ) → after other ≡ before other
