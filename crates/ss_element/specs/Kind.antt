-- What there is to know of a kind of element, and what its actions keep to.
use Rattle.std.specs.Prelude.{ℕ, ◌≤◌, ◌^◌, Bool, List, [], ◌∷◌, Option}
use Rattle.ss_stats.specs.Set.{Entry}
use Rattle.ss_model.specs.declared.Cause.{Cause}
use Rattle.ss_model.specs.declared.Action.{Action}
use Rattle.ss_model.specs.declared.Action.TheVariants as action
use Rattle.ss_model.specs.Step.{Reaction}
use Rattle.ss_model.specs.End.{Behaviour}
use Rattle.ss_element.specs.declared.flow.Flow.{Flow}

-- elements and loads, with what their calls answer
pub record Kind (S L : Type 0) : Type 1 where
  -- what an element does at a time when it is told something; and when that may be asked of it
  pub handled : S → ℕ → Cause L → Reaction S L
  pub Meets : S → ℕ → Cause L → Type 0
  -- whether it keeps the simulation going, and whether it has ended; whether one of its clocks is on
  pub primary : S → Bool
  pub done : S → Bool
  pub ticks : S → ℕ → Bool
  -- whether its start event was handled, for kinds whose state tells this; others are always begun
  pub begun : S → Bool
  -- whether it is such as all that comes before a time may leave it, and whether what then comes may come to it
  pub fits : S → ℕ → Bool
  pub fits_load : S → Cause L → ℕ → Bool
  -- how many channels a port has, and what stands at one of them; and what a load weighs
  pub channels : S → ℕ → ℕ
  pub flow : S → ℕ → ℕ → Flow
  -- the most flits that may ever be sent on a channel of a port at once: what the queue that they are for can hold
  pub limit : S → ℕ → ℕ → ℕ
  pub weight : L → Option (Bool × ℕ × ℕ)
  pub stats : S → List Entry
  -- a second element differs from a first at most in what runs change
  pub Alike : S → S → Type 0

abbrev pub behaviour : {S L : Type 0} → Kind S L → Behaviour S L
behaviour kind = record { handled = kind.handled; primary = kind.primary; done = kind.done }

-- an action's delays are within what a run can add: an extra delay up to 2^40 ps, a delay from 1 ps to 2^40 ps
abbrev pub ActionFits : {L : Type 0} → Action L → Type 0
ActionFits (action.Send p extra x) = extra ≤ 2 ^ 40
ActionFits (action.SelfSend i delay x) = (1 ≤ delay) × (delay ≤ 2 ^ 40)
ActionFits (action.ClockOn i) = Unit {0}
ActionFits (action.ClockOff i) = Unit {0}
ActionFits (action.Print text) = Unit {0}

abbrev pub ActionsFit : {L : Type 0} → List (Action L) → Type 0
ActionsFit [] = Unit {0}
ActionsFit (a ∷ acts) = ActionFits a × ActionsFit acts
