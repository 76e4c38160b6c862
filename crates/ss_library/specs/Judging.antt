-- Graphs' models with saved states: what is so of a model for a state over it to be judged, and how a run begins with one.
use Rattle.std.specs.Prelude.{◌≡◌, ℕ, ◌<◌, ◌≤◌, ◌^◌, List, length, slice_get, Some}
use Rattle.ss_model.specs.Step.{State}
use Rattle.ss_element.specs.Index.{entries}
use Rattle.ss_safe.specs.Safe.{Stands}
use Rattle.ss_safe.specs.Sound.{Sound}
use Rattle.ss_run.specs.declared.Origin.TheVariants as origin
use Rattle.mr_flow.specs.declared.Load.{Load}
use Rattle.ss_graph.specs.declared.graph.Graph.{Graph}
use Rattle.ss_library.specs.declared.kinds.Any.{Any}
use Rattle.ss_library.specs.Kinds.{any_kind, any_allowed, any_channels}
use Rattle.ss_library.specs.Make.{model_of}
use Rattle.ss_library.specs.Meaning.{any_accepts, any_opening}

-- it stands, its components and lines can be numbered, and its channels can be named by a byte
pub record CanBeJudged (g : Graph) : Type 0 where
  pub made : Stands any_kind any_allowed (model_of g).wires (model_of g).elements
  pub few : length (model_of g).elements < 2 ^ 32
  pub numbered : entries (model_of g).wires < 2 ^ 32
  pub narrow : (c p : ℕ) (x : Any) → slice_get (model_of g).elements c ≡ Some x → any_channels x p ≤ 256

-- bytes that spell a state at a time begin with it, and are accepted where it is sound
pub record MayResume (g : Graph) (bytes : List ℕ) (at : ℕ) (s : State Any Load) : Type 0 where
  pub opens : any_opening g (origin.Saved bytes) ≡ record { wires = (model_of g).wires; time = at; state = s }
  pub accepted : Sound any_kind (model_of g).wires at s → any_accepts g (origin.Saved bytes)
