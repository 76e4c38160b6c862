-- A simulation that runs on one thread.
use Rattle.std.specs.Prelude.{◌≡◌, ℕ, ◌+◌, ◌-◌, ◌<◌, ◌≤◌, true, false, nat_lt, List, [], ◌∷◌, ◌++◌, slice_get, Option, None, Some, if◌then◌else◌}
use Rattle.ss_model.specs.declared.Cause.{Cause}
use Rattle.ss_model.specs.declared.Cause.TheVariants as cause
use Rattle.ss_model.specs.declared.Event.{Event}
use Rattle.ss_model.specs.declared.Key.{Key}
use Rattle.ss_model.specs.declared.Line.{Line}
use Rattle.ss_model.specs.Order.{begins_before}
use Rattle.ss_model.specs.Wiring.{Wiring, clock_at, told}
use Rattle.ss_model.specs.Step.{State, Reaction, step, step_lines, after, lines, IsUntil}
use Rattle.ss_element.specs.Kind.{Kind, ActionsFit}
use Rattle.ss_element.specs.Index.{clock_again}
use Rattle.ss_model.specs.End.{Behaviour, Limits, Outcome, end_of, agree, IsRun, told_time}
use Rattle.ss_serial.specs.declared.run.Bounds.{Bounds}

-- the wires, the state, and the lines that were printed and not yet taken
pub record Standing (S L : Type 0) : Type 0 where
  pub wires : Wiring
  pub state : State S L
  pub lines : List Line

abbrev pub state_of : {S L : Type 0} → List S → List (Event L) → ℕ → State S L
state_of components pending last = record { components = components; pending = pending; last = last }

-- a clock's tick
abbrev pub tick : {L : Type 0} → Key → Event L
tick k = record { key = k; load = None }

abbrev pub standing : {S L : Type 0} → Wiring → State S L → List Line → Standing S L
standing w s lines = record { wires = w; state = s; lines = lines }

module _ {S L : Type 0} (handled : S → ℕ → Cause L → Reaction S L) where
  -- after one step
  abbrev pub stepped : Standing S L → Standing S L
  stepped s = record { wires = s.wires; state = step handled s.wires s.state; lines = s.lines ++ step_lines handled s.wires s.state }

  -- after n steps
  abbrev pub ran : ℕ → Standing S L → Standing S L
  ran n s = record { wires = s.wires; state = after handled s.wires n s.state; lines = s.lines ++ lines handled s.wires n s.state }

  -- new is after some steps from old, each of which begins before the time
  pub record Runs (t : ℕ) (old new : Standing S L) : Type 0 where
    pub steps : ℕ
    pub each : (k : ℕ) → k < steps → begins_before t (after handled old.wires k old.state).pending ≡ true
    pub is : new ≡ ran steps old

  -- new is old after all events before the time, and no others
  pub record RunsUntil (t : ℕ) (old new : Standing S L) : Type 0 where
    pub steps : ℕ
    pub until : IsUntil handled old.wires t steps old.state
    pub is : new ≡ ran steps old

module _ {S L : Type 0} (b : Behaviour S L) where
  -- new is old after a run within the limits, which tells the time
  pub record Ran (l : Limits) (old new : Standing S L) (time : ℕ) : Type 0 where
    pub outcome : Outcome
    pub run : IsRun b old.wires l old.state outcome
    pub is : new ≡ ran b.handled outcome.steps old
    pub told : time ≡ told_time outcome new.state

-- where the cause is a clock's tick, what ticks again after the line n is the component's first clock of that index
abbrev pub TicksOn : {L : Type 0} → Wiring → ℕ → ℕ → Cause L → Type 0
TicksOn w c n cause.Start = Unit {0}
TicksOn w c n (cause.Link p x) = Unit {0}
TicksOn w c n (cause.Own i x) = Unit {0}
TicksOn w c n (cause.Tick i) = clock_again w n ≡ clock_at w c i

-- each event comes at a time or later
abbrev pub AllFrom : {L : Type 0} → ℕ → List (Event L) → Type 0
AllFrom t [] = Unit {0}
AllFrom t (e ∷ es) = (t ≤ e.key.time) × AllFrom t es

-- how many events come before a time
abbrev pub count_before : {L : Type 0} → ℕ → List (Event L) → ℕ
count_before t [] = 0
count_before t (e ∷ es) = if nat_lt e.key.time t then count_before t es + 1 else count_before t es

-- how long it is to a time from the first event
abbrev pub time_left : {L : Type 0} → ℕ → List (Event L) → ℕ
time_left t [] = 0
time_left t (e ∷ es) = t - e.key.time

-- the element that is told of an event may be told so, and what it then asks for is within what a run can add
pub record MayReact {S L : Type 0} (kind : Kind S L) (w : Wiring) (components : List S) (e : Event L) : Type 0 where
  pub meets : (c : ℕ) (why : Cause L) (x : S) → told w e ≡ Some (c, why) → slice_get components c ≡ Some x → kind.Meets x e.key.time why
  pub acts : (c : ℕ) (why : Cause L) (x : S) → told w e ≡ Some (c, why) → slice_get components c ≡ Some x → ActionsFit (kind.handled x e.key.time why).actions

abbrev pub limits_of : Bounds → Limits
limits_of l = record { origin = l.origin; stop = l.stop; exit = l.exit }

-- a run's outcome: where the primaries agreed to end, if they did, or else the end
abbrev pub outcome_of : Limits → ℕ → Option ℕ → Outcome
outcome_of l n None = record { steps = n; bound = end_of l; agreed = false }
outcome_of l n (Some q) = record { steps = n; bound = q; agreed = true }

module _ {S L : Type 0} (b : Behaviour S L) (l : Limits) (old new : Standing S L) where
  -- new is old after a run within the limits, at whose end the primaries agreed or not
  pub record Ends (agreed : Option ℕ) : Type 0 where
    pub steps : ℕ
    pub run : IsRun b old.wires l old.state (outcome_of l steps agreed)
    pub is : new ≡ ran b.handled steps old

  -- new is old after all events before some time, and the primaries don't agree yet
  pub record IsBusy : Type 0 where
    pub bound : ℕ
    pub above : l.origin ≤ bound
    pub within : bound ≤ l.stop
    pub runs : Runs b.handled bound old new
    pub none_left : begins_before bound new.state.pending ≡ false
    pub busy : agree b new.state.components ≡ false
