-- What a graph stands for, where its components are elements of some kind: its wires, and the state in which its run begins.
use Rattle.std.specs.Prelude.{◌≡◌, ℕ, ◌*◌, ◌^◌, ◌<◌, ◌≤◌, length, slice_get, Some}
use Rattle.std.specs.List.{AllByRecursion}
use Rattle.ss_model.specs.declared.LinkLine.{LinkLine}
use Rattle.ss_model.specs.Wiring.{Wiring}
use Rattle.ss_model.specs.Step.{State}
use Rattle.ss_graph.specs.declared.graph.Graph.{Graph}
use Rattle.ss_graph.specs.Fit.{IsFit, lat, line_ends}
use Rattle.ss_parts.specs.Division.{IsSafe}
use Rattle.ss_run.specs.declared.Origin.{Origin}
use Rattle.ss_run.specs.declared.Origin.TheVariants as origin

-- how a run begins: its wires, its time, and its state then
pub record Opening (S L : Type 0) : Type 0 where
  pub wires : Wiring
  pub time : ℕ
  pub state : State S L

-- which graphs, with what their runs begin from, stand for a run, and for which: from the start, or from the state that the
-- graph and the bytes of a checkpoint stand for
pub record Meaning (S L : Type 0) : Type 1 where
  pub Accepts : Graph → Origin → Type 0
  pub opening : Graph → Origin → Opening S L

-- the n-th link line of the wires is the graph's line n
pub record IsLineOf (g : Graph) (n : ℕ) (l : LinkLine) : Type 0 where
  pub within : n < 2 * length g.links
  pub sender : l.sender ≡ (line_ends g n).0
  pub receiver : l.receiver ≡ (line_ends g n).1
  pub latency : l.latency ≡ lat g n

-- a run that goes on from what was saved begins after time 0
abbrev pub IsLater : Origin → ℕ → Type 0
IsLater origin.Start t = Unit {0}
IsLater (origin.Saved bytes) t = 1 ≤ t

-- a beginning is safe, and is the graph's; no event was handled after it
pub record IsOpeningOf {S L : Type 0} (Safe : Wiring → ℕ → State S L → Type 0) (g : Graph) (from : Origin) (o : Opening S L) : Type 0 where
  pub fit : IsFit g
  pub early : o.time < 2 ^ 62
  pub past : o.state.last ≤ o.time
  pub later : IsLater from o.time
  pub safe : IsSafe Safe o.wires o.state.components o.state.pending
  pub begun : AllByRecursion (λ e. o.time ≤ e.key.time) o.state.pending
  pub whole : length o.state.components ≡ length g.components
  pub lines : (n : ℕ) (l : LinkLine) → slice_get o.wires.links n ≡ Some l → IsLineOf g n l

-- what is accepted begins so
abbrev pub MeaningLaws : {S L : Type 0} → (Wiring → ℕ → State S L → Type 0) → Meaning S L → Type 0
MeaningLaws Safe m = (g : Graph) (o : Origin) → m.Accepts g o → IsOpeningOf Safe g o (m.opening g o)
