-- A run as it is asked for, in whatever parts: its graph, what it begins from, and where it stops and is saved.
use Rattle.std.specs.Prelude.{◌≡◌, ℕ, ◌<◌, List, [], ◌++◌, map}
use Rattle.ss_model.specs.declared.Line.{Line}
use Rattle.ss_model.specs.Step.{State, after, lines, IsUntil}
use Rattle.ss_model.specs.End.{Limits, Outcome, IsRun, ended, told_time}
use Rattle.ss_element.specs.Kind.{Kind, behaviour}
use Rattle.ss_element.specs.Saving.{Saving}
use Rattle.ss_window.specs.declared.Cuts.{Cuts}
use Rattle.ss_window.specs.Cuts.{IsSave}
use Rattle.ss_graph.specs.declared.graph.Graph.{Graph}
use Rattle.ss_run.specs.declared.Origin.{Origin}
use Rattle.ss_run.specs.declared.RunSpec.{RunSpec}
use Rattle.ss_run.specs.Meaning.{Meaning, Opening}
use Rattle.ss_ckpt.specs.Spells.{head_text, body_text}

pub record Course : Type 0 where
  pub graph : Graph
  pub from : Origin
  pub cuts : Cuts

-- the same in so many parts, of which the list has that of each component
abbrev pub in_parts : Course → ℕ → List ℕ → RunSpec
in_parts c parts list = record { graph = c.graph; partition = record { parts = parts; list = list }; cuts = c.cuts; origin = c.from }

-- the one spelling of a state at a time: the head with the graph's text, the components in order, and what is to come
abbrev pub checkpoint_text : {S L : Type 0} → Saving S L → Graph → ℕ → State S L → List ℕ
checkpoint_text saving g t s = head_text g.text t s.last ++ body_text saving s.components s.pending

module _ {S L : Type 0} (kind : Kind S L) (m : Meaning S L) (c : Course) where
  abbrev pub beginning : Opening S L
  beginning = m.opening c.graph c.from

  abbrev pub limits : Limits
  limits = record { origin = beginning.time; stop = c.cuts.stop; exit = c.graph.options.exit_period }

  -- the run of the one list
  abbrev pub IsOutcome : Outcome → Type 0
  IsOutcome o = IsRun (behaviour kind) beginning.wires limits beginning.state o

  -- n steps are all that comes before a time, and no more
  abbrev pub IsAtTime : ℕ → ℕ → Type 0
  IsAtTime t n = IsUntil kind.handled beginning.wires t n beginning.state

  abbrev pub state_after : ℕ → State S L
  state_after n = after kind.handled beginning.wires n beginning.state

  abbrev pub lines_before : ℕ → List Line
  lines_before n = lines kind.handled beginning.wires n beginning.state

  -- a checkpoint is due at a time, n steps after the beginning: it is asked for above the beginning, it lies below the bound, and
  -- an event is still pending after all events before it
  pub record IsDueAt (o : Outcome) (t n : ℕ) : Type 0 where
    pub asked : IsSave c.cuts t
    pub below : t < o.bound
    pub until : IsAtTime t n
    pub some : (state_after n).pending ≡ [] → ⊥
