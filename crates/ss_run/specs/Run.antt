-- Runs in parts: which of them fit, and what is so in their windows.
use Rattle.std.specs.Prelude.{◌≡◌, ℕ, ◌^◌, ◌≤◌, Some, None, List, length, slice_index, if◌then◌else◌}
use Rattle.std.specs.List.{list_any}
use Rattle.ss_model.specs.declared.Key.{Key}
use Rattle.ss_model.specs.declared.Event.{Event}
use Rattle.ss_model.specs.declared.Line.{Line}
use Rattle.ss_model.specs.Wiring.{Wiring}
use Rattle.ss_model.specs.Step.{State}
use Rattle.ss_model.specs.End.{Limits}
use Rattle.ss_element.specs.Kind.{Kind}
use Rattle.ss_window.specs.Cuts.{SpanFits}
use Rattle.ss_part.specs.Cut.{cut}
use Rattle.ss_part.specs.Division.{AreBelow}
use Rattle.ss_theory.specs.World.{World}
use Rattle.ss_theory.specs.Rounds.{Moment}
use Rattle.ss_parts.specs.Division.{Division, MayRun}
use Rattle.ss_parts.specs.Division as parts
use Rattle.ss_run.specs.declared.RunSpec.{RunSpec}
use Rattle.ss_run.specs.Meaning.{Meaning, Opening}

-- how a run is divided, with the least latency between two parts as how far a part may run ahead
abbrev pub division : RunSpec → Division
division r = record { parts = r.partition.parts; part_of = slice_index r.partition.list; look = cut r.graph r.partition.list; cuts = r.cuts }

-- a run's beginning
abbrev pub begins : {S L : Type 0} → Meaning S L → RunSpec → Opening S L
begins m r = m.opening r.graph r.origin

abbrev pub wires_of : {S L : Type 0} → Meaning S L → RunSpec → Wiring
wires_of m r = (begins m r).wires

abbrev pub start_of : {S L : Type 0} → Meaning S L → RunSpec → State S L
start_of m r = (begins m r).state

-- the limits by which it ends
abbrev pub limits : {S L : Type 0} → Meaning S L → RunSpec → Limits
limits m r = record { origin = (begins m r).time; stop = r.cuts.stop; exit = r.graph.options.exit_period }

module _ {S L : Type 0} (kind : Kind S L) (m : Meaning S L) where
  -- a run that may be made: an accepted graph, a division of it, and times in their ranges. The primaries are asked with
  -- the graph's exit period where there is one
  pub record IsFitting (r : RunSpec) : Type 0 where
    pub accepted : m.Accepts r.graph r.origin
    pub whole : length r.partition.list ≡ length r.graph.components
    pub some : 1 ≤ r.partition.parts
    pub below : AreBelow r.partition.list r.partition.parts
    pub origin : r.cuts.origin ≡ (begins m r).time
    pub stop_from : (begins m r).time ≤ r.cuts.stop
    pub stop_by : r.cuts.stop ≤ 2 ^ 62
    pub exit : r.cuts.exit ≡ (if list_any kind.primary (start_of m r).components then Some r.graph.options.exit_period else None)
    pub save_at : SpanFits r.cuts.save_at
    pub save_every : SpanFits r.cuts.save_every

  -- each fitting run may be made in its parts
  abbrev pub FittingRuns : (Wiring → ℕ → State S L → Type 0) → Type 0
  FittingRuns Safe = (r : RunSpec) → IsFitting r → MayRun kind Safe (wires_of m r) (division r) (start_of m r)

  module _ (r : RunSpec) where
    abbrev pub view : World (List S) (List (ℕ × S)) Key (Event L) Line
    view = parts.view kind (wires_of m r) (division r) (start_of m r)

    abbrev pub PartState : Type 0
    PartState = parts.PartState kind (wires_of m r) (division r) (start_of m r)

    -- the whole is so when window k begins, and where that window ends
    abbrev pub IsAt : ℕ → Moment (List S) (Event L) → Type 0
    IsAt k h = parts.IsAt kind (wires_of m r) (division r) (start_of m r) k h

    abbrev pub window_end : Moment (List S) (Event L) → ℕ
    window_end h = parts.window_end kind (wires_of m r) (division r) (start_of m r) h

    -- the run's bound, as it is known then
    abbrev pub known : Moment (List S) (Event L) → ℕ
    known h = (parts.cut kind (wires_of m r) (division r) (start_of m r)).known h.since

    -- part p is so when window k begins, and when it has run to that window's end
    abbrev pub IsPartAt : ℕ → ℕ → PartState → Type 0
    IsPartAt p k l = parts.IsPartAt kind (wires_of m r) (division r) (start_of m r) p k l

    abbrev pub IsPartDone : ℕ → ℕ → PartState → Type 0
    IsPartDone p k l = parts.IsPartDone kind (wires_of m r) (division r) (start_of m r) p k l

    -- these events go from the giver to the taker in window k
    abbrev pub IsBatch : ℕ → ℕ → ℕ → List (Event L) → Type 0
    IsBatch giver taker k events = parts.IsBatch kind (wires_of m r) (division r) (start_of m r) giver taker k events

    -- the run has k windows
    abbrev pub HasWindows : ℕ → Type 0
    HasWindows k = parts.HasWindows kind (wires_of m r) (division r) (start_of m r) k
