-- Which graph and which state the bytes of a checkpoint stand for, or why none.
use Rattle.std.specs.Prelude.{◌≡◌, ℕ, List, Option, Some, None, Result, Ok, Err}
use Rattle.ss_model.specs.declared.Event.{Event}
use Rattle.ss_model.specs.Wiring.{Wiring}
use Rattle.ss_model.specs.Step.{State}
use Rattle.ss_safe.specs.Sound.{Sound}
use Rattle.ss_ckpt.specs.declared.fault.CkptFault.{CkptFault}
use Rattle.ss_ckpt.specs.Form.{Fields, checkpoint_form}
use Rattle.ss_ckpt.specs.Spells.{whole_read}
use Rattle.ss_restart.specs.declared.fault.RestartFault.{RestartFault}
use Rattle.ss_restart.specs.Faults.{IsFirstFault}
use Rattle.ss_graph.specs.declared.graph.Graph.{Graph}
use Rattle.ss_graph.specs.declared.fault.GraphFault.{GraphFault}
use Rattle.ss_graph.specs.Checks.{first_fault}
use Rattle.ss_graph.specs.Judge.{text_checks, graph_of}
use Rattle.mr_flow.specs.declared.Load.{Load}
use Rattle.ss_network.specs.declared.fault.MakeFault.{MakeFault}
use Rattle.ss_library.specs.declared.kinds.Any.{Any}
use Rattle.ss_library.specs.Kinds.{any_kind}
use Rattle.ss_library.specs.Saved.{any_saving}
use Rattle.ss_library.specs.Make.{Made, make_checks, model_of}
use Rattle.ss_recall.specs.declared.fault.RecallFault.{RecallFault}
use Rattle.ss_recall.specs.declared.fault.RecallFault.TheVariants as fault

-- no check of the text fails, and none of its graph's making
pub record IsAccepted (text : List ℕ) : Type 0 where
  pub read : first_fault (text_checks text) ≡ None
  pub made : first_fault (make_checks (graph_of text)) ≡ None

abbrev pub made_if : Option GraphFault → Option MakeFault → Made → Option (List Any × Wiring)
made_if None None m = Some (m.elements, m.wires)
made_if None (Some f) m = None
made_if (Some e) o m = None

-- the first elements and the wires that a text makes, where it is accepted
unfoldable pub makes : List ℕ → Option (List Any × Wiring)
makes text = made_if (first_fault (text_checks text)) (first_fault (make_checks (graph_of text))) (model_of (graph_of text))

-- what stands before the states of the components; and these states, with the events that are to come
abbrev pub Reading : Type 0
Reading = Fields × (List Any × List (Event Load))

-- what bytes are read as, or their first fault
unfoldable pub read_of : List ℕ → Result Reading CkptFault
read_of bytes = whole_read (checkpoint_form any_saving makes) bytes 0

abbrev pub graph_in : Reading → Graph
graph_in x = graph_of x.0.graph

abbrev pub wires_in : Reading → Wiring
wires_in x = (model_of (graph_in x)).wires

abbrev pub time_in : Reading → ℕ
time_in x = x.0.time

abbrev pub state_in : Reading → State Any Load
state_in x = record { components = x.1.0; pending = x.1.1; last = x.0.last }

-- bytes are read so, and a run may go on from what was read
pub record Recalls (bytes : List ℕ) (x : Reading) : Type 0 where
  pub read : read_of bytes ≡ Ok x
  pub sound : Sound any_kind (wires_in x) (time_in x) (state_in x)

-- bytes are read as a state with a fault, which is its first one
pub record IsUnsound (bytes : List ℕ) (f : RestartFault) : Type 0 where
  pub reading : Reading
  pub read : read_of bytes ≡ Ok reading
  pub first : IsFirstFault any_kind (wires_in reading) (time_in reading) (state_in reading) f

-- the first fault of the bytes, or else of the state that they are read as
abbrev pub Refuses : List ℕ → RecallFault → Type 0
Refuses bytes (fault.Form f) = read_of bytes ≡ Err f
Refuses bytes (fault.State f) = IsUnsound bytes f
Refuses bytes fault.NoMemory = ⊥

-- it is that fault, unless no memory was left
abbrev pub IsRefusal : List ℕ → RecallFault → Type 0
IsRefusal bytes (fault.Form f) = Refuses bytes (fault.Form f)
IsRefusal bytes (fault.State f) = Refuses bytes (fault.State f)
IsRefusal bytes fault.NoMemory = Unit {0}
