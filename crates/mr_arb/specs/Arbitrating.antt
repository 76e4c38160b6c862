-- Arbiters after Merlin's: which request each output of a crossbar grants. Outputs are served in ascending order, and an input that
-- was granted has no further grant.
use Rattle.std.specs.Prelude.{ℕ, ◌+◌, ◌-◌, ◌^◌, ◌<◌, ◌≤◌, ◌≡◌, ◌==◌, ◌&&◌, ◌||◌, List, [], ◌∷◌, length, slice_get, slice_set, filter, fold, Bool, true, false, not, slice_index_or, nat_le, nat_lt, if◌then◌else◌, Option, Some, None}
use Rattle.std.specs.List.{range_with_len}
use Rattle.mr_arb.specs.Slots.{IsOrder, place_of, to_end}
use Rattle.mr_arb.specs.declared.Request.{Request}
use Rattle.mr_arb.specs.declared.ArbKind.{ArbKind}
use Rattle.mr_arb.specs.declared.ArbKind.TheVariants.{RoundRobin as RoundRobinKind, LeastRecent as LeastRecentKind, Age as AgeKind}
use Rattle.mr_arb.specs.declared.turn.Turn.{Turn}
use Rattle.mr_arb.specs.declared.turn.Turn.TheVariants.{RoundRobin, LeastRecent, Age}

-- how many slots behind the first one a slot comes in cyclic order
abbrev pub cyclic_distance : ℕ → ℕ → ℕ → ℕ
cyclic_distance slots first slot = if nat_le first slot then slot - first else slot + slots - first

-- An output's turn. Round robin keeps the slot to begin with, least recently used the list of all slots in the order of their last
-- use. Whether a request wins over another: it comes first in cyclic order of slots, it comes first in the list, or its packet was
-- made earlier, or at the same time and its slot is lower.
abbrev pub wins : ℕ → Turn → Request → Request → Bool
wins slots (RoundRobin first) q p = nat_lt (cyclic_distance slots first q.slot) (cyclic_distance slots first p.slot)
wins slots (LeastRecent order) q p = nat_lt (place_of order q.slot) (place_of order p.slot)
wins slots Age q p = nat_lt q.born p.born || (q.born == p.born && nat_lt q.slot p.slot)

-- the first request over which none wins
abbrev pub better : (Request → Request → Bool) → Option Request → Request → Option Request
better beats None q = Some q
better beats (Some p) q = if beats q p then Some q else Some p

abbrev pub best : (Request → Request → Bool) → List Request → Option Request
best beats qs = fold (better beats) None qs

abbrev pub winner : ℕ → ℕ → Turn → List Request → Option Request
winner slots output turn qs = best (wins slots turn) (filter (λ q. q.output == output) qs)

-- the turn after a slot was granted
abbrev pub passed : ℕ → Turn → ℕ → Turn
passed slots (RoundRobin first) slot = RoundRobin (if slot + 1 == slots then 0 else slot + 1)
passed slots (LeastRecent order) slot = LeastRecent (to_end order slot)
passed slots Age slot = Age

abbrev pub turn_after : ℕ → Turn → Option Request → Turn
turn_after slots turn None = turn
turn_after slots turn (Some q) = passed slots turn q.slot

-- the granted slot, or 2^32 - 1 where none is granted
abbrev pub grant_of : Option Request → ℕ
grant_of None = 2 ^ 32 - 1
grant_of (Some q) = q.slot

-- the requests of inputs that weren't granted
abbrev pub free : List Bool → List Request → List Request
free granted qs = filter (λ q. not (slice_index_or granted q.input false)) qs

-- the marks with that of a granted input
abbrev pub marked : List Bool → Option Request → List Bool
marked granted None = granted
marked granted (Some q) = slice_set granted q.input true

-- the requests that are left: those of other inputs
abbrev pub left : Option Request → List Request → List Request
left None qs = qs
left (Some q) qs = filter (λ p. not (p.input == q.input)) qs

-- the turns and the grants of the outputs from one on
abbrev pub picks : ℕ → ℕ → List Turn → List Request → List Turn × List ℕ
picks slots output [] qs = ([], [])
picks slots output (turn ∷ turns) qs =
    let w = winner slots output turn qs in
    let rest = picks slots (output + 1) turns (left w qs) in
    (turn_after slots turn w ∷ rest.0, grant_of w ∷ rest.1)

-- a turn of an arbiter with so many slots
abbrev pub Fits : ℕ → Turn → Type 0
Fits slots (RoundRobin first) = first < slots
Fits slots (LeastRecent order) = IsOrder slots order
Fits slots Age = Unit {0}

abbrev pub EachFits : ℕ → List Turn → Type 0
EachFits slots turns = (o : ℕ) (turn : Turn) → slice_get turns o ≡ Some turn → Fits slots turn

-- turns of an arbiter, one per output
pub record Arbiting : Type 0 where
  pub slots : ℕ
  pub turns : List Turn

pub record IsArbiter (slots : ℕ) (turns : List Turn) (places firsts nexts : ℕ) : Type 0 where
  pub few : slots ≤ 4096
  pub outputs : length turns < 2 ^ 16
  pub inputs : places ≡ slots
  pub heads : firsts ≡ length turns
  pub links : nexts ≡ slots
  pub fit : EachFits slots turns

-- the first turn of an output
abbrev pub turn_of : ArbKind → ℕ → Turn
turn_of RoundRobinKind slots = RoundRobin 0
turn_of LeastRecentKind slots = LeastRecent (range_with_len 0 slots)
turn_of AgeKind slots = Age
