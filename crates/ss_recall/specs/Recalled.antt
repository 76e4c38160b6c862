-- What is so of a graph and a saved state that bytes were read back as.
use Rattle.std.specs.Prelude.{◌≡◌, ℕ, ◌<◌, ◌≤◌, ◌^◌, List, length, None}
use Rattle.ss_ckpt.specs.Views.{state_of, body_of}
use Rattle.ss_restart.specs.Faults.{IsSpelled}
use Rattle.ss_graph.specs.Checks.{first_fault}
use Rattle.ss_graph.specs.Fit.{IsFit}
use Rattle.ss_graph.specs.Judge.{text_checks, graph_of}
use Rattle.ss_run.specs.declared.Origin.TheVariants as origin
use Rattle.ss_library.specs.Kinds.{any_kind, any_allowed}
use Rattle.ss_library.specs.Saved.{any_saving}
use Rattle.ss_library.specs.Make.{make_checks, model_of}
use Rattle.ss_library.specs.Meaning.{IsMade, any_accepts, any_opening}
use Rattle.ss_recall.specs.declared.recalling.Recalled.{Recalled}
use Rattle.ss_recall.specs.Recall.{Reading, Recalls}

-- as what it was read
abbrev pub reading_of : Recalled → Reading
reading_of r = (record { time = r.saved.time; last = r.saved.last; graph = r.graph.text }, body_of r.saved)

pub record IsRecalled (bytes : List ℕ) (r : Recalled) : Type 0 where
  -- the bytes are read so, and the state is sound at its time
  pub recalls : Recalls bytes (reading_of r)
  -- the graph is that of its text, of which no check fails, and none of its making
  pub graph : r.graph ≡ graph_of r.graph.text
  pub read : first_fault (text_checks r.graph.text) ≡ None
  pub unfaulted : first_fault (make_checks r.graph) ≡ None
  pub fit : IsFit r.graph
  pub made : IsMade r.graph
  -- a run of it may go on from the bytes, and begins with the saved state over its wires
  pub accepted : any_accepts r.graph (origin.Saved bytes)
  pub opens : any_opening r.graph (origin.Saved bytes) ≡ record { wires = r.saved.model.wires; time = r.saved.time; state = state_of r.saved }
  pub wires : r.saved.model.wires ≡ (model_of r.graph).wires
  -- the time is one that a checkpoint may have, and comes behind that of the last handled event
  pub some : 1 ≤ r.saved.time
  pub early : r.saved.time < 2 ^ 62
  pub past : r.saved.last < r.saved.time
  -- there are as many components as the graph has, and few
  pub whole : length r.saved.model.elements.items ≡ length r.graph.components
  pub few : length r.saved.model.elements.items ≤ 2 ^ 16
  -- workers can take it over
  pub spelled : IsSpelled any_kind any_allowed any_saving r.saved.model.wires r.saved.time (state_of r.saved)
