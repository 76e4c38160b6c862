-- The turns of a router's outputs, be they an arbiter's or such as no arbiter has.
use Rattle.std.specs.Prelude.{◌≡◌, ℕ, ◌≤◌, ◌==◌, ◌&&◌, nat_lt, Bool, true, List, [], length, map, count_by}
use Rattle.std.specs.List.{flat_map, list_all, range_with_len}
use Rattle.ss_wire.specs.Form.{Form, big_bytes, nothing, told, each_as}
use Rattle.ss_element.specs.declared.fault.RestoreFault.{RestoreFault}
use Rattle.ss_element.specs.Stored.{field}
use Rattle.mr_arb.specs.declared.turn.Turn.{Turn}
use Rattle.mr_arb.specs.declared.turn.Turn.TheVariants as turn
use Rattle.mr_arb.specs.Arbitrating.{EachFits}
use Rattle.mr_router.specs.declared.listed.Listed.{Listed}
use Rattle.mr_router.specs.declared.listed.Listed.TheVariants as listed
use Rattle.mr_router.specs.declared.outputs.Choice.{Choice}
use Rattle.mr_router.specs.declared.outputs.Choice.TheVariants as choice

abbrev pub turn_read : Listed → Turn
turn_read (listed.RoundRobin first) = turn.RoundRobin first
turn_read (listed.LeastRecent slots) = turn.LeastRecent slots.items
turn_read listed.Age = turn.Age

abbrev pub turns_in : Choice → List Turn
turns_in (choice.Ready arbiter) = arbiter.turns
turns_in (choice.Read turns) = map turn_read turns.items

-- the slots, the turn of each output, and what each granted last
pub record Chosen : Type 0 where
  pub slots : ℕ
  pub turns : List Turn
  pub grants : List ℕ

-- an arbiter has the slots and turns that fit them, and what isn't one's can't be one's
abbrev pub IsChoice : ℕ → Choice → Type 0
IsChoice slots (choice.Ready arbiter) = (1 ≤ slots) × (slots ≤ 4096) × (arbiter.slots ≡ slots) × EachFits slots arbiter.turns
IsChoice slots (choice.Read turns) = (1 ≤ slots) × (slots ≤ 4096) × (EachFits slots (map turn_read turns.items) → ⊥)

-- a turn that an arbiter may have: round robin begins with one of the slots, and a list of slots holds each once
abbrev pub holds_once : List ℕ → ℕ → Bool
holds_once order slot = count_by (λ s. s == slot) order == 1

abbrev pub turn_fits : ℕ → Turn → Bool
turn_fits slots (turn.RoundRobin first) = nat_lt first slots
turn_fits slots (turn.LeastRecent order) = (length order == slots) && (list_all (λ s. nat_lt s slots) order && list_all (holds_once order) (range_with_len 0 slots))
turn_fits slots turn.Age = true

-- ---- how turns are saved: round robin 4 bytes, least recently used 2 bytes for each slot of its list, age nothing

abbrev pub first_of : Turn → ℕ
first_of (turn.RoundRobin first) = first
first_of (turn.LeastRecent order) = 0
first_of turn.Age = 0

abbrev pub slots_in : Turn → List ℕ
slots_in (turn.RoundRobin first) = []
slots_in (turn.LeastRecent order) = order
slots_in turn.Age = []

abbrev pub IsRoundRobin : Turn → Type 0
IsRoundRobin (turn.RoundRobin first) = Unit {0}
IsRoundRobin (turn.LeastRecent order) = ⊥
IsRoundRobin turn.Age = ⊥

abbrev pub IsLeastRecent : Turn → Type 0
IsLeastRecent (turn.RoundRobin first) = ⊥
IsLeastRecent (turn.LeastRecent order) = Unit {0}
IsLeastRecent turn.Age = ⊥

abbrev pub turn_text : Turn → List ℕ
turn_text (turn.RoundRobin first) = big_bytes 4 first
turn_text (turn.LeastRecent order) = flat_map (big_bytes 2) order
turn_text turn.Age = []

abbrev pub order_form : List ℕ → Form RestoreFault (List ℕ)
order_form order = each_as (big_bytes 2) (λ s. field 2) order

-- a turn in the place of another of its sort
abbrev pub turn_form : Turn → Form RestoreFault Turn
turn_form (turn.RoundRobin first) = told (field 4) turn.RoundRobin first_of IsRoundRobin
turn_form (turn.LeastRecent order) = told (order_form order) turn.LeastRecent slots_in IsLeastRecent
turn_form turn.Age = nothing turn.Age

abbrev pub turns_form : List Turn → Form RestoreFault (List Turn)
turns_form turns = each_as turn_text turn_form turns
