-- How a run begins that goes on from the bytes of a checkpoint.
use Rattle.std.specs.Prelude.{◌≡◌, ℕ, List, [], length, slice_get, Some, Result, Ok, Err}
use Rattle.ss_wire.specs.Wire.{IsBytes}
use Rattle.ss_model.specs.declared.Event.{Event}
use Rattle.ss_model.specs.declared.LinkLine.{LinkLine}
use Rattle.ss_model.specs.Wiring.{Wiring}
use Rattle.ss_model.specs.Step.{State}
use Rattle.ss_element.specs.Kind.{Kind}
use Rattle.ss_element.specs.Saving.{Saving}
use Rattle.ss_graph.specs.declared.graph.Graph.{Graph}
use Rattle.ss_graph.specs.Fit.{IsFit}
use Rattle.ss_safe.specs.Sound.{Sound}
use Rattle.ss_ckpt.specs.declared.fault.CkptFault.{CkptFault}
use Rattle.ss_ckpt.specs.Form.{Fields, checkpoint_form}
use Rattle.ss_ckpt.specs.Spells.{Spells, whole_read}
use Rattle.ss_run.specs.Meaning.{Opening, IsLineOf}

-- what was read, as a beginning: its time, and its state over the wires; bytes that can't be read begin nothing
abbrev pub opened : {S L : Type 0} → Wiring → Result (Fields × (List S × List (Event L))) CkptFault → Opening S L
opened w (Ok x) = record { wires = w; time = x.0.time; state = record { components = x.1.0; pending = x.1.1; last = x.0.last } }
opened w (Err e) = record { wires = w; time = 0; state = record { components = []; pending = []; last = 0 } }

module _ {S L : Type 0} (saving : Saving S L) (w : Wiring) (firsts : List S) where
  -- the beginning that a checkpoint's bytes spell, over the first elements and the wires that its graph makes
  abbrev pub saved_opening : List ℕ → Opening S L
  saved_opening bytes = opened w (whole_read (checkpoint_form saving (λ text. Some (firsts, w))) bytes 0)

-- bytes spell a state, over a graph's text, that is sound at its time
pub record SpellsSound {S L : Type 0} (kind : Kind S L) (saving : Saving S L) (w : Wiring) (firsts : List S) (text bytes : List ℕ) : Type 0 where
  pub time : ℕ
  pub state : State S L
  pub are : IsBytes bytes
  pub spelled : Spells saving w firsts bytes text time state
  pub sound : Sound kind w time state

-- the graph is fit, and these are as many elements as it has components, and wires with its lines
pub record IsGraphOf {S : Type 0} (g : Graph) (w : Wiring) (firsts : List S) : Type 0 where
  pub fit : IsFit g
  pub whole : length firsts ≡ length g.components
  pub lines : (n : ℕ) (l : LinkLine) → slice_get w.links n ≡ Some l → IsLineOf g n l
