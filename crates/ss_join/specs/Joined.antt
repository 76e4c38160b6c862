-- What a run in joined windows answers.
use Rattle.std.specs.Prelude.{◌≡◌, ℕ, ◌<◌, ◌⊎◌, List, [], ◌++◌, Option, Some, None, Result, Ok, Err}
use Rattle.ss_model.specs.declared.Line.{Line}
use Rattle.ss_model.specs.Step.{lines}
use Rattle.ss_model.specs.End.{Outcome, IsRun, told_time, ended}
use Rattle.ss_element.specs.Kind.{Kind, behaviour}
use Rattle.ss_element.specs.Saving.{Saving}
use Rattle.ss_graph.specs.declared.fault.LimitKind.{LimitKind}
use Rattle.ss_run.specs.declared.RunSpec.{RunSpec}
use Rattle.ss_run.specs.Meaning.{Meaning}
use Rattle.ss_run.specs.Run.{wires_of, start_of, limits, HasWindows}
use Rattle.ss_join.specs.declared.lead.LeadFault.{LeadFault}
use Rattle.ss_join.specs.declared.lead.LeadFault.TheVariants as fault
use Rattle.ss_join.specs.declared.Ending.{Ending}
use Rattle.ss_join.specs.Cutting.{Given, Seen, lines_of, refused_lines, refused_cuts}
use Rattle.ss_join.specs.Checkpoints.{IsCheckpoint, StandsIn, AreEarlier, AreCuts, IsOpening}

module _ {S L : Type 0} (kind : Kind S L) (m : Meaning S L) (r : RunSpec) where
  abbrev pub IsOutcome : Outcome → Type 0
  IsOutcome o = IsRun (behaviour kind) (wires_of m r) (limits m r) (start_of m r) o

  -- the lines of a run of the one list
  abbrev pub run_lines : Outcome → List Line
  run_lines o = lines kind.handled (wires_of m r) o.steps (start_of m r)

  -- a lead saw these cuts of a run, if it tells
  abbrev pub Saw : List Given → Option Given → Option Seen → Option Seen → Type 0
  Saw cuts refused None new = new ≡ None
  Saw cuts refused (Some old) new = new ≡ Some (record { accepted = old.accepted ++ cuts; refused = refused })

module _ {S L : Type 0} (kind : Kind S L) (saving : Saving S L) (m : Meaning S L) (r : RunSpec) where
  -- the cuts have the lines of the run of the one list and its checkpoints, the time is the one that its final line tells, and
  -- the windows are the run's
  pub record Ends (cuts : List Given) (e : Ending) : Type 0 where
    pub outcome : Outcome
    pub is : IsOutcome kind m r outcome
    pub lines : lines_of cuts ≡ run_lines kind m r outcome
    pub time : e.time ≡ told_time outcome (ended (behaviour kind) (wires_of m r) (start_of m r) outcome)
    pub windows : HasWindows kind m r e.windows
    pub saves : AreCuts kind saving m r outcome [] cuts
    pub all_saves : (t : ℕ) → IsCheckpoint kind m r outcome t → StandsIn kind m r cuts t

  -- the cuts, and behind them the one that was refused, have a beginning of these lines and checkpoints
  pub record Breaks (cuts : List Given) (refused : Option Given) : Type 0 where
    pub outcome : Outcome
    pub is : IsOutcome kind m r outcome
    pub rest : List Line
    pub lines : (lines_of cuts ++ refused_lines refused) ++ rest ≡ run_lines kind m r outcome
    pub saves : AreCuts kind saving m r outcome [] (cuts ++ refused_cuts refused)
    pub first_saves : (t : ℕ) → IsCheckpoint kind m r outcome t → StandsIn kind m r (cuts ++ refused_cuts refused) t ⊎ AreEarlier (cuts ++ refused_cuts refused) t

  -- the answer before the first window
  abbrev pub Begins : Result (Unit {0}) LeadFault → Option Seen → Option Seen → Type 0
  Begins (Ok u) old new = (first : Option Given) × IsOpening kind saving m r first × Saw kind m r (refused_cuts first) None old new
  Begins (Err f) old new = (cuts : List Given) × (refused : Option Given) × Saw kind m r cuts refused old new × Breaks cuts refused

  abbrev pub Answers : Result Ending LeadFault → Option Seen → Option Seen → Type 0
  Answers (Ok e) old new = (cuts : List Given) × Saw kind m r cuts None old new × Ends cuts e
  Answers (Err f) old new = (cuts : List Given) × (refused : Option Given) × Saw kind m r cuts refused old new × Breaks cuts refused

-- the fault is the lead's, or there was no memory
abbrev pub Blames : Result Ending LeadFault → ℕ → ℕ → Type 0
Blames (Ok e) old new = Unit {0}
Blames (Err fault.Failed) old new = old < new
Blames (Err (fault.Limit kind n)) old new = Unit {0}
Blames (Err fault.NoMemory) old new = Unit {0}

abbrev pub limit_after : Result Ending LeadFault → Option (LimitKind × ℕ)
limit_after (Ok e) = None
limit_after (Err fault.Failed) = None
limit_after (Err (fault.Limit kind n)) = Some (kind, n)
limit_after (Err fault.NoMemory) = None

abbrev pub none_refused : Option Seen → Option Given
none_refused None = None
none_refused (Some s) = s.refused
