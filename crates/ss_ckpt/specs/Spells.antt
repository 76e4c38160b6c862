-- What the bytes of a checkpoint spell.
use Rattle.std.specs.Prelude.{◌≡◌, ℕ, List, [], ◌∷◌, ◌++◌, length, drop, Option, Some, Result, Ok, Err}
use Rattle.std.specs.List.{flat_map}
use Rattle.ss_wire.specs.Form.{big_bytes, ◌>>=◌, Form, spell_some, whole}
use Rattle.ss_model.specs.declared.Event.{Event}
use Rattle.ss_model.specs.Wiring.{Wiring}
use Rattle.ss_model.specs.Step.{State}
use Rattle.ss_element.specs.Saving.{Saving}
use Rattle.ss_ckpt.specs.declared.fault.CkptFault.{CkptFault}
use Rattle.ss_ckpt.specs.declared.fault.CkptFault.TheVariants as fault
use Rattle.ss_ckpt.specs.Form.{magic, Fields, head_form, body_form, checkpoint_form}

-- what a form reads from a place on, whatever follows, and what it reads of all bytes
abbrev pub first_read : {A : Type 0} → Form CkptFault A → List ℕ → ℕ → Result A CkptFault
first_read f bytes at = f.read (record { rest = drop at bytes; at = at }) >>= λ x. Ok x.0

abbrev pub whole_read : {A : Type 0} → Form CkptFault A → List ℕ → ℕ → Result A CkptFault
whole_read f bytes at = whole f fault.Trailing (record { rest = drop at bytes; at = at })

-- bytes begin with a head, up to a place
pub record IsHead (bytes : List ℕ) (h : Fields) (body : ℕ) : Type 0 where
  pub fits : head_form.Fits h
  pub is : bytes ≡ head_form.spell h ++ drop body bytes
  pub long : body ≡ length (head_form.spell h)

-- ---- the one spelling, field by field

-- the letters and the number of the form, the time, that of the last handled event, and the graph text with its length
abbrev pub head_text : List ℕ → ℕ → ℕ → List ℕ
head_text graph at last = (magic ++ 49 ∷ []) ++ (big_bytes 8 at ++ (big_bytes 8 last ++ (big_bytes 4 (length graph) ++ graph)))

module _ {S L : Type 0} (saving : Saving S L) where
  -- an event: time, class, line, and its load if it has one
  abbrev pub event_text : Event L → List ℕ
  event_text e = big_bytes 8 e.key.time ++ (big_bytes 1 e.key.class ++ (big_bytes 4 e.key.line ++ spell_some saving.spell_load e.load))

  -- the components in order, the number of events, and the events in order
  abbrev pub body_text : List S → List (Event L) → List ℕ
  body_text xs es = flat_map saving.spell xs ++ (big_bytes 4 (length es) ++ flat_map event_text es)

  -- bytes spell a state at a time, over the first states and the wires that the graph text makes: the state's parts are
  -- within the ranges of the form, and the bytes are its fields
  pub record Spells (w : Wiring) (firsts : List S) (bytes graph : List ℕ) (at : ℕ) (s : State S L) : Type 0 where
    pub head : head_form.Fits (record { time = at; last = s.last; graph = graph })
    pub body : (body_form saving w firsts).Fits (s.components, s.pending)
    pub is : bytes ≡ head_text graph at s.last ++ body_text s.components s.pending

-- the answer is this state, unless no memory was left
abbrev pub IsAnswer : {S L R : Type 0} → State S L → (R → State S L) → Result R CkptFault → Type 0
IsAnswer s view (Ok r) = view r ≡ s
IsAnswer s view (Err e) = e ≡ fault.NoMemory

-- all bytes that are read spell what was read, and the bytes that spell a state are read as it
pub record HasOneSpelling {S L : Type 0} (saving : Saving S L) (makes : List ℕ → Option (List S × Wiring)) (bytes : List ℕ) : Type 0 where
  pub spelled : (h : Fields) (firsts xs : List S) (w : Wiring) (es : List (Event L)) → makes h.graph ≡ Some (firsts, w) → whole_read (checkpoint_form saving makes) bytes 0 ≡ Ok (h, (xs, es)) → Spells saving w firsts bytes h.graph h.time (record { components = xs; pending = es; last = h.last })
  pub read : (graph : List ℕ) (at : ℕ) (firsts : List S) (w : Wiring) (s : State S L) → makes graph ≡ Some (firsts, w) → Spells saving w firsts bytes graph at s → whole_read (checkpoint_form saving makes) bytes 0 ≡ Ok (record { time = at; last = s.last; graph = graph }, (s.components, s.pending))
