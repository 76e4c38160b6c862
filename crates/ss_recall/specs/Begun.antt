-- The graph of a text with its model, or why there is none.
use Rattle.std.specs.Prelude.{◌≡◌, ℕ, List, None}
use Rattle.ss_ckpt.specs.declared.fault.CkptFault.TheVariants as form
use Rattle.ss_graph.specs.declared.graph.Graph.{Graph}
use Rattle.ss_graph.specs.Judge.{graph_of}
use Rattle.ss_library.specs.Make.{Made, model_of}
use Rattle.ss_recall.specs.declared.fault.RecallFault.{RecallFault}
use Rattle.ss_recall.specs.declared.fault.RecallFault.TheVariants as fault
use Rattle.ss_recall.specs.Recall.{IsAccepted, makes}

-- the text is accepted, and these are its graph and its model
pub record IsBegun (text : List ℕ) (g : Graph) (m : Made) : Type 0 where
  pub accepted : IsAccepted text
  pub graph : g ≡ graph_of text
  pub model : m ≡ model_of g

-- a text with a fault is one with a bad value where it begins
abbrev pub text_fault : RecallFault
text_fault = fault.Form (form.Value 28)

-- the text makes nothing, unless no memory was left
abbrev pub RefusesText : List ℕ → RecallFault → Type 0
RefusesText text (fault.Form f) = (f ≡ form.Value 28) × (makes text ≡ None)
RefusesText text (fault.State f) = ⊥
RefusesText text fault.NoMemory = Unit {0}
