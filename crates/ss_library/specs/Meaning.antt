-- Which graphs a run of these kinds may begin with, and how it begins.
use Rattle.std.specs.Prelude.{◌≡◌, ℕ, List, length}
use Rattle.ss_model.specs.Step.{opening}
use Rattle.ss_graph.specs.declared.graph.Graph.{Graph}
use Rattle.ss_graph.specs.Fit.{IsFit}
use Rattle.ss_run.specs.declared.Origin.{Origin}
use Rattle.ss_run.specs.declared.Origin.TheVariants as origin
use Rattle.ss_run.specs.Meaning.{Meaning, Opening}
use Rattle.ss_origin.specs.Openings.{saved_opening, SpellsSound}
use Rattle.ss_library.specs.declared.kinds.Any.{Any}
use Rattle.mr_flow.specs.declared.Load.{Load}
use Rattle.ss_library.specs.Kinds.{any_kind, any_safe}
use Rattle.ss_library.specs.Saved.{any_saving}
use Rattle.ss_library.specs.Make.{model_of}

-- one that is fit, and whose model has each of its components and is safe as it begins
pub record IsMade (g : Graph) : Type 0 where
  pub fit : IsFit g
  pub whole : length (model_of g).elements ≡ length g.components
  pub safe : any_safe (model_of g).wires 0 (opening (model_of g).elements)

-- a checkpoint's bytes spell, over its text, a state of that model that is sound at its time
abbrev pub IsSaved : Graph → List ℕ → Type 0
IsSaved g bytes = SpellsSound any_kind any_saving (model_of g).wires (model_of g).elements g.text bytes

abbrev pub any_accepts : Graph → Origin → Type 0
any_accepts g origin.Start = IsMade g
any_accepts g (origin.Saved bytes) = IsMade g × IsSaved g bytes

-- it begins with each component's start, or goes on from the state that is spelled
abbrev pub any_opening : Graph → Origin → Opening Any Load
any_opening g origin.Start = record { wires = (model_of g).wires; time = 0; state = opening (model_of g).elements }
any_opening g (origin.Saved bytes) = saved_opening any_saving (model_of g).wires (model_of g).elements bytes

abbrev pub any_meaning : Meaning Any Load
any_meaning = record { Accepts = any_accepts; opening = any_opening }
