-- Tables by which wires are looked up, and wires that gain an entry.
use Rattle.std.specs.Prelude.{◌≡◌, ℕ, ◌+◌, ◌<◌, ◌^◌, Bool, true, false, List, [], ◌∷◌, ◌++◌, length, slice_index_or, slice_get, count_by, Option, Some, None, if◌then◌else◌}
use Rattle.ss_model.specs.declared.LinkLine.{LinkLine}
use Rattle.ss_model.specs.declared.InnerLine.{InnerLine}
use Rattle.ss_model.specs.declared.InnerLine.TheVariants as inner
use Rattle.ss_model.specs.Wiring.{Wiring, link_from, own_from, clock_from, clock_at, of_clock, inner_at}

-- what a list has at an index, which may be empty; and a table's row, which is empty past the last
abbrev pub slot : {X : Type 0} → List (Option X) → ℕ → Option X
slot xs i = slice_index_or xs i None

abbrev pub row : {X : Type 0} → List (List X) → ℕ → List X
row rows c = slice_index_or rows c []

abbrev pub at : {X : Type 0} → List (List (Option X)) → ℕ → ℕ → Option X
at rows c i = slot (row rows c) i

-- the first of two that is there
abbrev pub first_of : {X : Type 0} → Option X → Option X → Option X
first_of None y = y
first_of (Some x) y = Some x

abbrev pub only_if : {X : Type 0} → Bool → X → Option X
only_if b x = if b then Some x else None

-- wires with one entry more, at the back of its list
abbrev pub with_link : Wiring → LinkLine → Wiring
with_link w l = record w { links = w.links ++ l ∷ [] }

abbrev pub with_inner : Wiring → InnerLine → Wiring
with_inner w l = record w { inner = w.inner ++ l ∷ [] }

-- how many entries there are, how many self lines, and how many clocks
abbrev pub entries : Wiring → ℕ
entries w = length w.links + length w.inner

abbrev pub is_own : InnerLine → Bool
is_own (inner.Own c i) = true
is_own (inner.Clock c i period) = false

abbrev pub is_clock : InnerLine → Bool
is_clock (inner.Own c i) = false
is_clock (inner.Clock c i period) = true

abbrev pub counts : Wiring → ℕ × ℕ × ℕ
counts w = (length w.links, count_by is_own w.inner, count_by is_clock w.inner)

-- the number and the period of the first clock that has the component and the index of the clock with number n
abbrev pub again_of : Wiring → Option (ℕ × ℕ) → Option (ℕ × ℕ)
again_of w None = None
again_of w (Some r) = clock_at w r.0 r.1

abbrev pub clock_again : Wiring → ℕ → Option (ℕ × ℕ)
clock_again w n = again_of w (of_clock (inner_at w n))

-- the place of the first clock with the component and the index of a clock
abbrev pub place_of : Option (ℕ × ℕ) → Option ℕ
place_of None = None
place_of (Some r) = Some r.0

abbrev pub first_place : List InnerLine → Option InnerLine → Option ℕ
first_place ls None = None
first_place ls (Some (inner.Own c i)) = None
first_place ls (Some (inner.Clock c i period)) = place_of (clock_from 0 ls c i)

-- the place of one that is there, or else another
abbrev pub place_or : Option (ℕ × ℕ) → ℕ → ℕ
place_or None place = place
place_or (Some r) place = r.0

-- beside each clock stands the place of the first of its component and index
pub record Firsts (lines : List InnerLine) (firsts : List ℕ) : Type 0 where
  pub beside : length firsts ≡ length lines
  pub first : (p c i period : ℕ) → slice_get lines p ≡ Some (inner.Clock c i period) → slice_get firsts p ≡ place_of (clock_from 0 lines c i)

-- the tables have the first line of each port, and the places of the first self line and the first clock of each index
pub record Indexed (links : List LinkLine) (inner : List InnerLine) (firsts : List ℕ) (own_lines : ℕ) (ports : List (List (Option (ℕ × ℕ)))) (owns : List (List (Option ℕ))) (clocks : List (List (Option (ℕ × ℕ)))) : Type 0 where
  pub by_port : (c p : ℕ) → at ports c p ≡ link_from 0 links c p
  pub by_own : (c i : ℕ) → at owns c i ≡ own_from 0 inner c i
  pub by_clock : (c i : ℕ) → at clocks c i ≡ clock_from 0 inner c i
  pub by_first : Firsts inner firsts
  pub counted : own_lines ≡ count_by is_own inner
  pub numbered : length links + length inner < 2 ^ 32
