-- What a part hands over of itself: its components' states and its events, as they are spelled.
use Rattle.std.specs.Prelude.{ℕ, List, map}
use Rattle.std.specs.Global.{Vec}
use Rattle.ss_wire.specs.Form.{spell_some}
use Rattle.ss_model.specs.declared.Key.{Key}
use Rattle.ss_model.specs.declared.Event.{Event}
use Rattle.ss_element.specs.Saving.{Saving}
use Rattle.ss_piece.specs.declared.Piece.{Piece}

-- a piece as plain data: the spelled states of components with their numbers, events with spelled loads, and the time of
-- the part's last handled event
pub record Slip : Type 0 where
  pub states : List (ℕ × List ℕ)
  pub events : List (Key × List ℕ)
  pub last : ℕ

-- ---- as the code has it

abbrev pub state_text : ℕ × Vec ℕ → ℕ × List ℕ
state_text s = (s.0, s.1.items)

abbrev pub event_text : Key × Vec ℕ → Key × List ℕ
event_text e = (e.0, e.1.items)

abbrev pub slip : Piece → Slip
slip p = record { states = map state_text p.states.items; events = map event_text p.events.items; last = p.last }

-- ---- of components with their numbers, and of events

module _ {S L : Type 0} (saving : Saving S L) where
  abbrev pub state_spelled : ℕ × S → ℕ × List ℕ
  state_spelled x = (x.0, saving.spell x.1)

  abbrev pub event_spelled : Event L → Key × List ℕ
  event_spelled e = (e.key, spell_some saving.spell_load e.load)

  abbrev pub piece_slip : List (ℕ × S) → List (Event L) → ℕ → Slip
  piece_slip xs es last = record { states = map state_spelled xs; events = map event_spelled es; last = last }
