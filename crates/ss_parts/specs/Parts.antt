-- A simulation in parts.
use Rattle.std.specs.Prelude.{◌≡◌, ℕ, ◌+◌, ◌≤◌, ◌==◌, nat_lt, List, [], ◌∷◌, ◌++◌, length, slice_get, slice_set, Option, Some, None, if◌then◌else◌}
use Rattle.ss_model.specs.declared.Key.{Key}
use Rattle.ss_model.specs.declared.Event.{Event}
use Rattle.ss_model.specs.declared.Cause.{Cause}
use Rattle.ss_model.specs.declared.Line.{Line}
use Rattle.ss_model.specs.declared.LinkLine.{LinkLine}
use Rattle.ss_model.specs.Order.{key_before}
use Rattle.ss_model.specs.Wiring.{Wiring, of_own, inner_at, target, told}
use Rattle.ss_model.specs.Step.{State, Reaction, reaction, made_all, again, printed}
use Rattle.ss_theory.specs.World.{Outcome, World, Global}

-- the component that a key's events reach
abbrev pub component_of : Option (ℕ × ℕ) → Option ℕ
component_of None = None
component_of (Some r) = Some r.0

abbrev pub receiver : Wiring → Key → Option ℕ
receiver w k = component_of (target w k)

-- and the one that makes them: the sender of a link's line, or the receiver itself
abbrev pub link_start : Option LinkLine → Option ℕ
link_start None = None
link_start (Some l) = Some l.sender

abbrev pub line_sender : Wiring → ℕ → Option ℕ
line_sender w n = if nat_lt n (length w.links) then link_start (slice_get w.links n) else component_of (of_own (inner_at w n))

abbrev pub sender : Wiring → Key → Option ℕ
sender w k = if k.class == 2 then line_sender w k.line else receiver w k

-- the part of a component; a key without one is of part 0
abbrev pub part_at : (ℕ → ℕ) → Option ℕ → ℕ
part_at part_of None = 0
part_at part_of (Some c) = part_of c

-- the components of a part, with their numbers; k is the number of the first
abbrev pub components_of : {S : Type 0} → (ℕ → ℕ) → ℕ → ℕ → List S → List (ℕ × S)
components_of part_of p k [] = []
components_of part_of p k (s ∷ ss) = if part_of k == p then (k, s) ∷ components_of part_of p (k + 1) ss else components_of part_of p (k + 1) ss

-- the state that stands beside a number, and other states with one put beside it
abbrev pub state_of : {S : Type 0} → List (ℕ × S) → ℕ → Option S
state_of [] c = None
state_of (x ∷ xs) c = if x.0 == c then Some x.1 else state_of xs c

abbrev pub with_state : {S : Type 0} → List (ℕ × S) → ℕ → S → List (ℕ × S)
with_state [] c s = []
with_state (x ∷ xs) c s = if x.0 == c then (x.0, s) ∷ xs else x ∷ with_state xs c s

-- what an event does to components that are kept in any way
abbrev pub answer_at : {A S L : Type 0} → Wiring → (A → ℕ → S → A) → A → Key → ℕ → Cause L → Option (Reaction S L) → Outcome A (Event L) Line
answer_at w write a k c why None = record { after = a; sends = []; says = [] }
answer_at w write a k c why (Some r) = record { after = write a c r.state; sends = made_all w c k.time r.actions ++ again w c k.time why r.actions; says = printed k r.actions }

abbrev pub answer_told : {A S L : Type 0} → (S → ℕ → Cause L → Reaction S L) → Wiring → (A → ℕ → Option S) → (A → ℕ → S → A) → A → Key → Option (ℕ × Cause L) → Outcome A (Event L) Line
answer_told handled w read write a k None = record { after = a; sends = []; says = [] }
answer_told handled w read write a k (Some (c, why)) = answer_at w write a k c why (reaction handled k.time why (read a c))

abbrev pub answer : {A S L : Type 0} → (S → ℕ → Cause L → Reaction S L) → Wiring → (A → ℕ → Option S) → (A → ℕ → S → A) → A → Event L → Outcome A (Event L) Line
answer handled w read write a e = answer_told handled w read write a e.key (told w e)

-- the simulation, whole and in parts
abbrev pub world : {S L : Type 0} → (S → ℕ → Cause L → Reaction S L) → Wiring → (ℕ → ℕ) → World (List S) (List (ℕ × S)) Key (Event L) Line
world handled w part_of = record {
  key = λ e. e.key;
  line_key = λ t. t.key;
  lt = key_before;
  time = λ k. k.time;
  src = λ k. part_at part_of (sender w k);
  dst = λ k. part_at part_of (receiver w k);
  act = answer handled w slice_get slice_set;
  part_act = λ p. answer handled w state_of with_state;
  part = λ ss p. components_of part_of p 0 ss;
}

-- a state without the time of its last event
abbrev pub glob : {S L : Type 0} → State S L → Global (List S) (Event L)
glob s = record { state = s.components; pending = s.pending }

-- each line between two parts takes at least so long
abbrev pub IsAhead : Wiring → (ℕ → ℕ) → ℕ → Type 0
IsAhead w part_of look = (n : ℕ) (l : LinkLine) → slice_get w.links n ≡ Some l → (part_of l.receiver ≡ part_of l.sender → ⊥) → look ≤ l.latency
