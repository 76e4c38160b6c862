-- What is so of bytes that are read back.
use Rattle.std.specs.Prelude.{◌≡◌, ℕ, ◌<◌, ◌≤◌, ◌^◌, List}
use Rattle.ss_model.specs.Step.{State}
use Rattle.ss_safe.specs.Sound.{Sound}
use Rattle.ss_ckpt.specs.Spells.{Spells}
use Rattle.ss_graph.specs.Judge.{graph_of}
use Rattle.ss_run.specs.declared.Origin.TheVariants as origin
use Rattle.mr_flow.specs.declared.Load.{Load}
use Rattle.ss_library.specs.declared.kinds.Any.{Any}
use Rattle.ss_library.specs.Kinds.{any_kind}
use Rattle.ss_library.specs.Saved.{any_saving}
use Rattle.ss_library.specs.Make.{model_of}
use Rattle.ss_library.specs.Meaning.{any_accepts, any_opening}
use Rattle.ss_recall.specs.declared.fault.RecallFault.{RecallFault}
use Rattle.ss_recall.specs.Recall.{Reading, IsAccepted, graph_in, wires_in, time_in, state_in, Recalls, Refuses}

-- bytes stand for at most one thing, or have one first fault, and never both
pub record StandForOneThing (bytes : List ℕ) : Type 0 where
  pub one : (x y : Reading) → Recalls bytes x → Recalls bytes y → x ≡ y
  pub either : (x : Reading) (e : RecallFault) → Recalls bytes x → Refuses bytes e → ⊥
  pub first : (d e : RecallFault) → Refuses bytes d → Refuses bytes e → d ≡ e

-- what is read where bytes spell a state over a text at a time
abbrev pub spelled_as : List ℕ → ℕ → State Any Load → Reading
spelled_as text at s = (record { time = at; last = s.last; graph = text }, (s.components, s.pending))

-- bytes are recalled as that state, and a run of the text's graph may go on from them, and begins with it
pub record GoOn (text bytes : List ℕ) (at : ℕ) (s : State Any Load) : Type 0 where
  pub recalls : Recalls bytes (spelled_as text at s)
  pub accepted : any_accepts (graph_of text) (origin.Saved bytes)
  pub opens : any_opening (graph_of text) (origin.Saved bytes) ≡ record { wires = (model_of (graph_of text)).wires; time = at; state = s }
  pub some : 1 ≤ at
  pub early : at < 2 ^ 62
  pub past : s.last < at

-- the text of what was read is accepted, and the bytes spell what was read over it, which is sound
pub record AreSpelled (bytes : List ℕ) (x : Reading) : Type 0 where
  pub accepted : IsAccepted x.0.graph
  pub spelled : Spells any_saving (wires_in x) (model_of (graph_in x)).elements bytes x.0.graph (time_in x) (state_in x)
  pub sound : Sound any_kind (wires_in x) (time_in x) (state_in x)
