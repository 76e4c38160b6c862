-- What the judgement of a saved state rests on, and what it tells place by place.
use Rattle.std.specs.Prelude.{◌≡◌, ℕ, ◌+◌, ◌<◌, ◌≤◌, ◌^◌, true, List, length, slice_get, Some, Result, Ok, Err}
use Rattle.ss_model.specs.declared.Key.{Key}
use Rattle.ss_model.specs.declared.Event.{Event}
use Rattle.ss_model.specs.declared.Cause.{Cause}
use Rattle.ss_model.specs.declared.InnerLine.TheVariants as inner
use Rattle.ss_model.specs.Order.{IsSorted}
use Rattle.ss_model.specs.Wiring.{Wiring, inner_at, told}
use Rattle.ss_model.specs.Step.{State}
use Rattle.ss_element.specs.Kind.{Kind}
use Rattle.ss_element.specs.Index.{entries}
use Rattle.ss_safe.specs.Laws.{meters_of, MayHear}
use Rattle.ss_safe.specs.Safe.{Each, WiresHold, Paired}
use Rattle.ss_safe.specs.Sound.{IsSaved, multiple_from}
use Rattle.ss_restart.specs.declared.fault.RestartFault.{RestartFault}
use Rattle.ss_restart.specs.Faults.{IsFirst}

-- each place has the property, or the fault names the first that has not
pub record FirstAt (P : ℕ → Type 0) (fault : ℕ → RestartFault) (e : RestartFault) : Type 0 where
  pub place : ℕ
  pub is : e ≡ fault place
  pub first : IsFirst P place

abbrev pub Judges : {X : Type 0} → (ℕ → Type 0) → (ℕ → RestartFault) → Result X RestartFault → Type 0
Judges P fault (Ok u) = (i : ℕ) → P i
Judges P fault (Err e) = FirstAt P fault e

-- the event at a place has the key of the one in front of it
pub record Repeats {L : Type 0} (es : List (Event L)) (i : ℕ) : Type 0 where
  pub place : ℕ
  pub next : i ≡ place + 1
  pub front : Event L
  pub event : Event L
  pub front_is : slice_get es place ≡ Some front
  pub event_is : slice_get es i ≡ Some event
  pub same : front.key ≡ event.key

-- one of the events has the key
pub record HasKey {L : Type 0} (es : List (Event L)) (key : Key) : Type 0 where
  pub place : ℕ
  pub event : Event L
  pub is : slice_get es place ≡ Some event
  pub same : event.key ≡ key

module _ {S L : Type 0} (kind : Kind S L) (w : Wiring) (at : ℕ) where
  -- what an event brings may come to the component that it tells
  abbrev pub HeardAt : List S → Event L → Type 0
  HeardAt xs e = (c : ℕ) (why : Cause L) (x : S) → told w e ≡ Some (c, why) → slice_get xs c ≡ Some x → MayHear kind x at why

  module _ (s : State S L) where
    -- the state is one over wires that were made, as the form of checkpoints has it, at a time that a checkpoint may have
    pub record IsReady : Type 0 where
      pub some : 1 ≤ at
      pub early : at < 2 ^ 62
      pub wires : WiresHold w (length s.components)
      pub paired : Paired (meters_of kind) w s.components
      pub narrow : (c p : ℕ) (x : S) → slice_get s.components c ≡ Some x → kind.channels x p ≤ 256
      pub few : length s.components < 2 ^ 32
      pub events : length s.pending < 2 ^ 32
      pub numbered : entries w < 2 ^ 32
      pub sorted : IsSorted s.pending
      pub saved : Each (IsSaved w) s.pending

    -- number n is that of a clock that is on, and its next tick is at a time
    pub record MustTick (n time : ℕ) : Type 0 where
      pub component : ℕ
      pub index : ℕ
      pub period : ℕ
      pub state : S
      pub clock : inner_at w n ≡ Some (inner.Clock component index period)
      pub there : slice_get s.components component ≡ Some state
      pub on : kind.ticks state index ≡ true
      pub multiple : time ≡ multiple_from at period

    abbrev pub NoTick : ℕ → Type 0
    NoTick n = (time : ℕ) → MustTick n time → ⊥
