-- What an engine needs to know of the elements that it runs.
use Rattle.std.specs.Prelude.{◌≡◌, ℕ, ◌<◌, ◌≤◌, ◌^◌, true, false, List, [], ◌∷◌, slice_get, Some}
use Rattle.ss_model.specs.declared.Event.{Event}
use Rattle.ss_model.specs.declared.Cause.{Cause}
use Rattle.ss_model.specs.Order.{IsSorted, begins_before}
use Rattle.ss_model.specs.Wiring.{Wiring, WiringFits, told}
use Rattle.ss_model.specs.Step.{State, step}
use Rattle.ss_element.specs.Kind.{Kind, ActionsFit}
use Rattle.ss_element.specs.Named.{ActionsNamed}

-- an event tells one of the components something
pub record Reaching {S L : Type 0} (w : Wiring) (xs : List S) (e : Event L) : Type 0 where
  pub component : ℕ
  pub why : Cause L
  pub state : S
  pub told : told w e ≡ Some (component, why)
  pub there : slice_get xs component ≡ Some state

abbrev pub AllReach : {S L : Type 0} → Wiring → List S → List (Event L) → Type 0
AllReach w xs [] = Unit {0}
AllReach w xs (e ∷ es) = Reaching w xs e × AllReach w xs es

module _ {S L : Type 0} (kind : Kind S L) where
  -- component c, in state x, is told why by the next event of s, which is e
  pub record IsNext (w : Wiring) (s : State S L) (e : Event L) (c : ℕ) (why : Cause L) (x : S) : Type 0 where
    pub rest : List (Event L)
    pub pending : s.pending ≡ e ∷ rest
    pub early : e.key.time < 2 ^ 62
    pub told : told w e ≡ Some (c, why)
    pub component : slice_get s.components c ≡ Some x

  -- a state that is safe at a time: its next event can be handled, and leaves a state that is safe at that event's time
  pub record World (Safe : Wiring → ℕ → State S L → Type 0) : Type 0 where
    pub wires : (w : Wiring) (now : ℕ) (s : State S L) → Safe w now s → WiringFits w
    pub sorted : (w : Wiring) (now : ℕ) (s : State S L) → Safe w now s → IsSorted s.pending
    -- no event is pending before the time
    pub not_before : (w : Wiring) (now : ℕ) (s : State S L) (e : Event L) (rest : List (Event L)) → Safe w now s → s.pending ≡ e ∷ rest → now ≤ e.key.time
    -- each pending event tells a component something
    pub reach : (w : Wiring) (now : ℕ) (s : State S L) → Safe w now s → AllReach w s.components s.pending
    -- the next event may be handled, and the actions are within what a run can add
    pub meets : (w : Wiring) (now : ℕ) (s : State S L) (e : Event L) (c : ℕ) (why : Cause L) (x : S) → Safe w now s → IsNext w s e c why x → kind.Meets x e.key.time why
    pub acts : (w : Wiring) (now : ℕ) (s : State S L) (e : Event L) (c : ℕ) (why : Cause L) (x : S) → Safe w now s → IsNext w s e c why x → ActionsFit (kind.handled x e.key.time why).actions
    -- and name only what the wires have for the component
    pub named : (w : Wiring) (now : ℕ) (s : State S L) (e : Event L) (c : ℕ) (why : Cause L) (x : S) → Safe w now s → IsNext w s e c why x → ActionsNamed w c (kind.handled x e.key.time why).actions
    -- a step is safe
    pub steps : (w : Wiring) (now : ℕ) (s : State S L) (e : Event L) (rest : List (Event L)) → Safe w now s → s.pending ≡ e ∷ rest → e.key.time < 2 ^ 62 → Safe w e.key.time (step kind.handled w s)
    -- where nothing is pending at time 0 any more, each component's start event was handled
    pub begun : (w : Wiring) (now : ℕ) (s : State S L) (c : ℕ) (x : S) → Safe w now s → begins_before 1 s.pending ≡ false → slice_get s.components c ≡ Some x → kind.begun x ≡ true
    -- what is primary stays so, and what is done stays done
    pub primary_stays : (x : S) (now : ℕ) (why : Cause L) → kind.primary (kind.handled x now why).state ≡ kind.primary x
    pub done_stays : (x : S) (now : ℕ) (why : Cause L) → kind.done x ≡ true → kind.done (kind.handled x now why).state ≡ true
    -- what fits a time fits every later one, up to 2^62
    pub fits_later : (x : S) (at later : ℕ) → at ≤ later → later ≤ 2 ^ 62 → kind.fits x at ≡ true → kind.fits x later ≡ true
    pub loads_later : (x : S) (why : Cause L) (at later : ℕ) → at ≤ later → later ≤ 2 ^ 62 → kind.fits_load x why at ≡ true → kind.fits_load x why later ≡ true

  -- a state that is safe at some time
  abbrev pub IsSafe : (Wiring → ℕ → State S L → Type 0) → Wiring → State S L → Type 0
  IsSafe Safe w s = (now : ℕ) × Safe w now s
