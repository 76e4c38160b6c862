-- Which runs the plain engine serves, and what it is to run a model with it.
use Rattle.std.specs.Prelude.{◌≡◌, ℕ, List, None}
use Rattle.ss_model.specs.declared.Line.{Line}
use Rattle.ss_model.specs.Step.{lines as lines_before, opening}
use Rattle.ss_model.specs.End.{Limits, Outcome, IsRun, ended, told_time}
use Rattle.ss_library.specs.declared.kinds.Any.{Any}
use Rattle.ss_library.specs.Make.{Made}
use Rattle.ss_cmd.specs.declared.RunOptions.{RunOptions}
use Rattle.ss_top.specs.Judge.{elements}

-- as one part, without a report and without checkpoints
pub record IsPlain (o : RunOptions) (parts : ℕ) : Type 0 where
  pub one : parts ≡ 1
  pub unreported : o.sync_report ≡ None
  pub at : o.checkpoint_at ≡ None
  pub period : o.checkpoint_period ≡ None

-- the run of a model from its opening prints these lines, its final line tells that time, and it leaves its components so
pub record Runs (m : Made) (l : Limits) (ls : List Line) (told : ℕ) (finals : List Any) : Type 0 where
  pub outcome : Outcome
  pub is : IsRun elements m.wires l (opening m.elements) outcome
  pub lines : ls ≡ lines_before elements.handled m.wires outcome.steps (opening m.elements)
  pub time : told ≡ told_time outcome (ended elements m.wires (opening m.elements) outcome)
  pub left : finals ≡ (ended elements m.wires (opening m.elements) outcome).components
