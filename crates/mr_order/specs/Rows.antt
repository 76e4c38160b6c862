-- Packets in the queues of elements and on lines.
use Rattle.std.specs.Prelude.{◌≡◌, ℕ, ◌+◌, ◌≤◌, ◌==◌, Bool, true, false, ◌&&◌, List, [], ◌∷◌, ◌++◌, Option, Some, None, ◌⊎◌}
use Rattle.ss_model.specs.declared.Event.{Event}
use Rattle.ss_model.specs.declared.Cause.{Cause}
use Rattle.ss_model.specs.declared.Cause.TheVariants as cause
use Rattle.ss_model.specs.declared.Action.{Action}
use Rattle.ss_model.specs.declared.Action.TheVariants as action
use Rattle.ss_safe.specs.Safe.{Each}

-- what the paths of packets see of an element, by port and channel, and of a load, by channel
pub record Rows (S L P : Type 0) : Type 0 where
  -- the packets that came in, and those that are to go out, from the front
  pub inputs : S → ℕ → ℕ → List P
  pub outputs : S → ℕ → ℕ → List P
  -- the packet of the channel, if the load is one
  pub carries : ℕ → L → List P
  -- when the line at a port is free
  pub free : S → ℕ → ℕ

abbrev pub only_if : {P : Type 0} → Bool → List P → List P
only_if true ps = ps
only_if false ps = []

-- the event comes on line l
abbrev pub is_on : {L : Type 0} → ℕ → Event L → Bool
is_on l e = (e.key.class == 2) && (e.key.line == l)

module _ {L P : Type 0} (carries : L → List P) where
  abbrev pub carried : Option L → List P
  carried None = []
  carried (Some x) = carries x

  -- the packets on line l, in the order in which they arrive
  abbrev pub wire_at : ℕ → Event L → List P
  wire_at l e = only_if (is_on l e) (carried e.load)

  abbrev pub wire_on : ℕ → List (Event L) → List P
  wire_on l [] = []
  wire_on l (e ∷ es) = wire_at l e ++ wire_on l es

  -- the packets that actions send on port p
  abbrev pub sends : ℕ → Action L → List P
  sends p (action.Send q extra x) = only_if (q == p) (carries x)
  sends p (action.SelfSend i delay x) = []
  sends p (action.ClockOn i) = []
  sends p (action.ClockOff i) = []
  sends p (action.Print text) = []

  abbrev pub sends_all : ℕ → List (Action L) → List P
  sends_all p [] = []
  sends_all p (a ∷ acts) = sends p a ++ sends_all p acts

  -- the packets that come in at port p
  abbrev pub takes : ℕ → Cause L → List P
  takes p cause.Start = []
  takes p (cause.Link q x) = only_if (q == p) (carries x)
  takes p (cause.Own i x) = []
  takes p (cause.Tick i) = []

  -- each packet of these actions on port p has passed no earlier than the line was free, and then the line is free no earlier
  abbrev pub Passing : List P → ℕ → ℕ → (ℕ → Type 0) → Type 0
  Passing [] at free further = further free
  Passing (p ∷ ps) at free further = (free ≤ at) × further at

  abbrev pub Leaves : ℕ → ℕ → ℕ → List (Action L) → ℕ → Type 0
  Leaves p now free [] free' = free ≤ free'
  Leaves p now free (action.Send q extra x ∷ acts) free' = Passing (only_if (q == p) (carries x)) (now + extra) free (λ f. Leaves p now f acts free')
  Leaves p now free (action.SelfSend i delay x ∷ acts) free' = Leaves p now free acts free'
  Leaves p now free (action.ClockOn i ∷ acts) free' = Leaves p now free acts free'
  Leaves p now free (action.ClockOff i ∷ acts) free' = Leaves p now free acts free'
  Leaves p now free (action.Print text ∷ acts) free' = Leaves p now free acts free'

  -- no packet on line l arrives later than this
  abbrev pub IsBounded : ℕ → ℕ → Event L → Type 0
  IsBounded l most e = (wire_at l e ≡ []) ⊎ (e.key.time ≤ most)

  abbrev pub AllBounded : ℕ → ℕ → List (Event L) → Type 0
  AllBounded l most es = Each (IsBounded l most) es
