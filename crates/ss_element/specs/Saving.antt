-- How the states of elements and their loads are saved and read.
use Rattle.std.specs.Prelude.{◌≡◌, ℕ, Bool, true, List, [], ◌∷◌, slice_get, Option, Some, Result}
use Rattle.ss_wire.specs.Wire.{Cursor}
use Rattle.ss_wire.specs.Form.{Form, IsForm}
use Rattle.ss_model.specs.declared.Event.{Event}
use Rattle.ss_model.specs.declared.Cause.{Cause}
use Rattle.ss_model.specs.declared.Cause.TheVariants as cause
use Rattle.ss_model.specs.Wiring.{Wiring, told}
use Rattle.ss_model.specs.Step.{State}
use Rattle.ss_element.specs.declared.fault.RestoreFault.{RestoreFault}
use Rattle.ss_element.specs.Kind.{Kind}

pub record Saving (S L : Type 0) : Type 1 where
  -- the bytes of an element; the element that a first one becomes by reading; and what it can become
  pub spell : S → List ℕ
  pub read : S → Cursor → Result (S × Cursor) RestoreFault
  pub IsOf : S → S → Type 0
  -- the same of the loads that come to an element
  pub spell_load : L → List ℕ
  pub read_load : S → Cursor → Result (L × Cursor) RestoreFault
  pub IsLoadOf : S → L → Type 0

module _ {S L : Type 0} (saving : Saving S L) where
  -- the form of the state of an element, and of the loads that come to it
  abbrev pub state_form : S → Form RestoreFault S
  state_form first = record { spell = saving.spell; read = saving.read first; Fits = saving.IsOf first }

  abbrev pub load_form : S → Form RestoreFault L
  load_form x = record { spell = saving.spell_load; read = saving.read_load x; Fits = saving.IsLoadOf x }

  -- what comes with a load can be read
  abbrev pub CauseIsOf : S → Cause L → Type 0
  CauseIsOf x cause.Start = Unit {0}
  CauseIsOf x (cause.Link p y) = saving.IsLoadOf x y
  CauseIsOf x (cause.Own i y) = saving.IsLoadOf x y
  CauseIsOf x (cause.Tick i) = Unit {0}

  -- what events bring to components can be read
  abbrev pub AllAreOf : Wiring → List S → List (Event L) → Type 0
  AllAreOf w xs [] = Unit {0}
  AllAreOf w xs (e ∷ es) = ((c : ℕ) (why : Cause L) (x : S) → told w e ≡ Some (c, why) → slice_get xs c ≡ Some x → CauseIsOf x why) × AllAreOf w xs es

module _ {S L : Type 0} (kind : Kind S L) (saving : Saving S L) (Safe : Wiring → ℕ → State S L → Type 0) where
  pub record SavingLaws (weighs : L → Option (Bool × ℕ × ℕ)) (spells : L → List ℕ) : Type 0 where
    -- what is spelled is read again, whatever follows, and what is read was spelled so
    pub states : (first : S) → IsForm (state_form saving first)
    pub loads : (x : S) → IsForm (load_form saving x)
    -- an element that was read is begun, and has the settings of the one that read it
    pub begun : (first x : S) → saving.IsOf first x → kind.begun x ≡ true
    pub read_alike : (first x : S) → saving.IsOf first x → kind.Alike first x
    -- handling keeps the settings
    pub alike_same : (x : S) → kind.Alike x x
    pub alike_through : (x y z : S) → kind.Alike x y → kind.Alike y z → kind.Alike x z
    pub handled_alike : (x : S) (now : ℕ) (why : Cause L) → kind.Meets x now why → kind.Alike x (kind.handled x now why).state
    -- of a safe state, each element that is begun can be read, by any with its settings, and so can each load
    pub alike_read : (first x : S) → kind.Alike first x → saving.IsOf x x → saving.IsOf first x
    pub states_saved : (w : Wiring) (now : ℕ) (s : State S L) (c : ℕ) (x : S) → Safe w now s → slice_get s.components c ≡ Some x → kind.begun x ≡ true → saving.IsOf x x
    pub loads_saved : (w : Wiring) (now : ℕ) (s : State S L) → Safe w now s → AllAreOf saving w s.components s.pending
    -- a load's own calls tell the same of it
    pub weights : (y : L) → kind.weight y ≡ weighs y
    pub spellings : (y : L) → saving.spell_load y ≡ spells y
