-- What a simulation does: one step, many steps, and the steps before a time.
use Rattle.std.specs.Prelude.{◌≡◌, ℕ, zero, suc, ◌+◌, ◌-◌, ◌*◌, ◌%◌, ◌<◌, ◌==◌, Bool, true, false, List, [], ◌∷◌, ◌++◌, slice_get, slice_set, Option, Some, None, if◌then◌else◌}
use Rattle.std.specs.List.{list_any}
use Rattle.ss_model.specs.declared.Key.{Key}
use Rattle.ss_model.specs.declared.Event.{Event}
use Rattle.ss_model.specs.declared.Cause.{Cause}
use Rattle.ss_model.specs.declared.Cause.TheVariants as cause
use Rattle.ss_model.specs.declared.Action.{Action}
use Rattle.ss_model.specs.declared.Action.TheVariants as action
use Rattle.ss_model.specs.declared.Line.{Line}
use Rattle.ss_model.specs.Order.{insert_all, begins_before}
use Rattle.ss_model.specs.Wiring.{Wiring, link_at, own_at, clock_at, told}

-- ---- the events that an action of component c makes at a time

abbrev pub sent : {L : Type 0} → Option (ℕ × ℕ) → ℕ → L → List (Event L)
sent None at x = []
sent (Some (n, latency)) at x = record { key = record { time = at + latency; class = 2; line = n }; load = Some x } ∷ []

abbrev pub sent_own : {L : Type 0} → Option ℕ → ℕ → L → List (Event L)
sent_own None at x = []
sent_own (Some n) at x = record { key = record { time = at; class = 2; line = n }; load = Some x } ∷ []

abbrev pub tick : {L : Type 0} → ℕ → ℕ → List (Event L)
tick n at = record { key = record { time = at; class = 1; line = n }; load = None } ∷ []

-- the least multiple of the period above a time
abbrev pub next_multiple : ℕ → ℕ → ℕ
next_multiple now period = now + (period - now % period)

abbrev pub turned_on : {L : Type 0} → Option (ℕ × ℕ) → ℕ → List (Event L)
turned_on None now = []
turned_on (Some (n, period)) now = tick n (next_multiple now period)

abbrev pub made : {L : Type 0} → Wiring → ℕ → ℕ → Action L → List (Event L)
made w c now (action.Send p extra x) = sent (link_at w c p) (now + extra) x
made w c now (action.SelfSend i delay x) = sent_own (own_at w c i) (now + delay) x
made w c now (action.ClockOn i) = turned_on (clock_at w c i) now
made w c now (action.ClockOff i) = []
made w c now (action.Print text) = []

abbrev pub made_all : {L : Type 0} → Wiring → ℕ → ℕ → List (Action L) → List (Event L)
made_all w c now [] = []
made_all w c now (a ∷ acts) = made w c now a ++ made_all w c now acts

-- one of the actions turns the clock off
abbrev pub is_off : {L : Type 0} → ℕ → Action L → Bool
is_off i (action.Send p extra x) = false
is_off i (action.SelfSend p delay x) = false
is_off i (action.ClockOn j) = false
is_off i (action.ClockOff j) = j == i
is_off i (action.Print text) = false

abbrev pub turns_off : {L : Type 0} → ℕ → List (Action L) → Bool
turns_off i acts = list_any (is_off i) acts

-- the next tick, after one whose actions don't turn the clock off
abbrev pub ticks_on : {L : Type 0} → Option (ℕ × ℕ) → ℕ → List (Event L)
ticks_on None now = []
ticks_on (Some (n, period)) now = tick n (now + period)

abbrev pub again : {L : Type 0} → Wiring → ℕ → ℕ → Cause L → List (Action L) → List (Event L)
again w c now cause.Start acts = []
again w c now (cause.Link p x) acts = []
again w c now (cause.Own i x) acts = []
again w c now (cause.Tick i) acts = if turns_off i acts then [] else ticks_on (clock_at w c i) now

-- the lines that the actions print
abbrev pub printed : {L : Type 0} → Key → List (Action L) → List Line
printed k [] = []
printed k (action.Send p extra x ∷ acts) = printed k acts
printed k (action.SelfSend i delay x ∷ acts) = printed k acts
printed k (action.ClockOn i ∷ acts) = printed k acts
printed k (action.ClockOff i ∷ acts) = printed k acts
printed k (action.Print text ∷ acts) = record { key = k; text = text } ∷ printed k acts

-- ---- steps

-- the components, what is to come, and the time of the last handled event
pub record State (S L : Type 0) : Type 0 where
  pub components : List S
  pub pending : List (Event L)
  pub last : ℕ

-- a component's state after an event, and its actions
pub record Reaction (S L : Type 0) : Type 0 where
  pub state : S
  pub actions : List (Action L)

-- what follows an event that component c reacts to
abbrev pub reacted : {S L : Type 0} → Wiring → List S → List (Event L) → ℕ → ℕ → Cause L → Reaction S L → State S L
reacted w components rest now c why r = record {
  components = slice_set components c r.state;
  pending = insert_all (again w c now why r.actions) (insert_all (made_all w c now r.actions) rest);
  last = now;
}

-- what the component does, where there is one
abbrev pub reaction : {S L : Type 0} → (S → ℕ → Cause L → Reaction S L) → ℕ → Cause L → Option S → Option (Reaction S L)
reaction handled now why None = None
reaction handled now why (Some x) = Some (handled x now why)

-- an event that no one is told of changes nothing else
abbrev pub passed : {S L : Type 0} → List S → List (Event L) → ℕ → State S L
passed components rest now = record { components = components; pending = rest; last = now }

abbrev pub step_reacted : {S L : Type 0} → Wiring → List S → List (Event L) → ℕ → ℕ → Cause L → Option (Reaction S L) → State S L
step_reacted w components rest now c why None = passed components rest now
step_reacted w components rest now c why (Some r) = reacted w components rest now c why r

abbrev pub step_told : {S L : Type 0} → (S → ℕ → Cause L → Reaction S L) → Wiring → List S → List (Event L) → ℕ → Option (ℕ × Cause L) → State S L
step_told handled w components rest now None = passed components rest now
step_told handled w components rest now (Some (c, why)) = step_reacted w components rest now c why (reaction handled now why (slice_get components c))

abbrev pub step_from : {S L : Type 0} → (S → ℕ → Cause L → Reaction S L) → Wiring → State S L → List (Event L) → State S L
step_from handled w s [] = s
step_from handled w s (e ∷ rest) = step_told handled w s.components rest e.key.time (told w e)

-- one step: the first event
abbrev pub step : {S L : Type 0} → (S → ℕ → Cause L → Reaction S L) → Wiring → State S L → State S L
step handled w s = step_from handled w s s.pending

abbrev pub lines_reacted : {S L : Type 0} → Key → Option (Reaction S L) → List Line
lines_reacted k None = []
lines_reacted k (Some r) = printed k r.actions

abbrev pub lines_told : {S L : Type 0} → (S → ℕ → Cause L → Reaction S L) → List S → Key → Option (ℕ × Cause L) → List Line
lines_told handled components k None = []
lines_told handled components k (Some (c, why)) = lines_reacted k (reaction handled k.time why (slice_get components c))

abbrev pub lines_from : {S L : Type 0} → (S → ℕ → Cause L → Reaction S L) → Wiring → List S → List (Event L) → List Line
lines_from handled w components [] = []
lines_from handled w components (e ∷ rest) = lines_told handled components e.key (told w e)

-- the lines that one step prints
abbrev pub step_lines : {S L : Type 0} → (S → ℕ → Cause L → Reaction S L) → Wiring → State S L → List Line
step_lines handled w s = lines_from handled w s.components s.pending

-- n steps, and what they print
abbrev pub after : {S L : Type 0} → (S → ℕ → Cause L → Reaction S L) → Wiring → ℕ → State S L → State S L
after handled w zero s = s
after handled w (suc n) s = step handled w (after handled w n s)

abbrev pub lines : {S L : Type 0} → (S → ℕ → Cause L → Reaction S L) → Wiring → ℕ → State S L → List Line
lines handled w zero s = []
lines handled w (suc n) s = lines handled w n s ++ step_lines handled w (after handled w n s)

-- the state t, by n steps: each begins before the time, and then no event is left before it
pub record IsUntil {S L : Type 0} (handled : S → ℕ → Cause L → Reaction S L) (w : Wiring) (t n : ℕ) (s : State S L) : Type 0 where
  pub each : (k : ℕ) → k < n → begins_before t (after handled w k s).pending ≡ true
  pub done : begins_before t (after handled w n s).pending ≡ false

-- ---- the opening

-- the start event of component n
abbrev pub start_of : {L : Type 0} → ℕ → Event L
start_of n = record { key = record { time = 0; class = 0; line = n }; load = None }

-- the start events of the components, the first of which has number n
abbrev pub starts : {S L : Type 0} → ℕ → List S → List (Event L)
starts n [] = []
starts n (x ∷ xs) = start_of n ∷ starts (n + 1) xs

-- a simulation that is about to begin: each component has its start event at time 0
abbrev pub opening : {S L : Type 0} → List S → State S L
opening xs = record { components = xs; pending = starts 0 xs; last = 0 }
