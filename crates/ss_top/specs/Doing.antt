-- What is done with a run's cuts, one after another, and how that may end.
use Rattle.std.specs.Prelude.{◌≡◌, ℕ, suc, List, [], ◌∷◌, ◌++◌, length, map, flat_map, Option, Some, None, Result, Ok, Err}
use Rattle.std.specs.List.{All, Contains}
use Rattle.ss_wire.specs.Wire.{IsBytes}
use Rattle.ss_model.specs.declared.Line.{Line}
use Rattle.ss_model.specs.End.{text_of, final_line}
use Rattle.ss_graph.specs.declared.graph.Graph.{Graph}
use Rattle.ss_graph.specs.declared.fault.LimitKind.{LimitKind}
use Rattle.ss_piece.specs.Pieces.{Slip}
use Rattle.ss_compose.specs.Compose.{composed, AreApart}
use Rattle.ss_join.specs.Cutting.{Given}
use Rattle.ss_course.specs.Kept.{passed}
use Rattle.ss_top.specs.Answer.{Step, write, put, put_of, line, save_name}
use Rattle.ss_top.specs.Message.{message_text, limit_line}
use Rattle.ss_top.specs.declared.print.Message.TheVariants as message
use Rattle.ss_top.specs.Headline.{Seen, after_steps, InPart, Blames, ErrTook}
use Rattle.ss_top.specs.declared.doing.Stop.{Stop}
use Rattle.ss_top.specs.declared.doing.Stop.TheVariants as stopped
use Rattle.ss_top.specs.declared.Status.{Status}
use Rattle.ss_top.specs.declared.Status.TheVariants as status

-- lines are printed, or the checkpoint of a time is put that pieces make
pub data Act : Type 0 where
  prints : List Line → Act
  saves : ℕ → List Slip → Act

abbrev pub saves_in : Given → List Act
saves_in c = map (λ t. saves t c.pieces) c.saves

abbrev pub acts_in : List Given → List Act
acts_in cuts = flat_map (λ c. prints c.lines ∷ saves_in c) cuts

-- the steps up to the first checkpoint that passes a limit, the bytes of the checkpoints before it, and that limit
pub record Doing : Type 0 where
  pub steps : List Step
  pub kept : List (List ℕ)
  pub stop : Option (LimitKind × ℕ)

-- nothing is done, up to a limit or to the end
abbrev pub nothing : Option (LimitKind × ℕ) → Doing
nothing l = record { steps = []; kept = []; stop = l }

abbrev pub printing : List Line → Doing → Doing
printing ls d = record { steps = map write (map text_of ls) ++ d.steps; kept = d.kept; stop = d.stop }

abbrev pub saving_unless : Option (LimitKind × ℕ) → List ℕ → List ℕ → Doing → Doing
saving_unless None name bytes d = record { steps = put name bytes ∷ d.steps; kept = bytes ∷ d.kept; stop = d.stop }
saving_unless (Some l) name bytes d = nothing (Some l)

-- so, behind so many checkpoints
abbrev pub doing : List ℕ → Graph → ℕ → List Act → Doing
doing prefix g count [] = nothing None
doing prefix g count (prints ls ∷ acts) = printing ls (doing prefix g count acts)
doing prefix g count (saves t ps ∷ acts) = saving_unless (passed count (length (composed g t ps))) (save_name prefix t) (composed g t ps) (doing prefix g (suc count) acts)

-- a step failed, and it is named
pub record FailsIn (all : List Step) (old new : Seen) : Type 0 where
  pub front : List Step
  pub step : Step
  pub rest : List Step
  pub steps : all ≡ front ++ step ∷ rest
  pub part : InPart step (after_steps front old.outside) new.outside
  pub blamed : Blames step old new

-- memory was wanting between two steps
pub record StarvesIn (all : List Step) (old new : Seen) : Type 0 where
  pub front : List Step
  pub rest : List Step
  pub steps : all ≡ front ++ rest
  pub done : new.outside ≡ after_steps front old.outside
  pub err : ErrTook (line (message_text message.NoMemory)) old new

-- all steps were done, of checkpoints that are bytes, and nothing was told
pub record Done (d : Doing) (old new : Seen) : Type 0 where
  pub done : new.outside ≡ after_steps d.steps old.outside
  pub bytes : All IsBytes d.kept
  pub quiet : new.err ≡ old.err

abbrev pub Does : Doing → Seen → Seen → Result (Unit {0}) Stop → Type 0
Does d old new (Ok u) = Done d old new × (d.stop ≡ None)
Does d old new (Err (stopped.Limit kind n)) = Done d old new × (d.stop ≡ Some (kind, n))
Does d old new (Err stopped.WriteFault) = FailsIn d.steps old new
Does d old new (Err stopped.NoMemory) = StarvesIn d.steps old new

-- the end of a run: its final line is written, and what is put behind it
abbrev pub closing : ℕ → List (List ℕ × List ℕ) → Doing
closing time puts = record { steps = write (final_line time) ∷ map put_of puts; kept = []; stop = None }

-- the same behind what else is done, unless a limit ended that
abbrev pub closed_by : Option (LimitKind × ℕ) → Doing → Doing → Doing
closed_by None c d = record { steps = c.steps ++ d.steps; kept = c.kept ++ d.kept; stop = d.stop }
closed_by (Some l) c d = c

abbrev pub next_to : Doing → Doing → Doing
next_to c d = closed_by c.stop c d

-- texts that are written one by one, and texts that are put under names
abbrev pub listing : List (List ℕ) → Doing
listing texts = record { steps = map write texts; kept = []; stop = None }

abbrev pub filing : List (List ℕ × List ℕ) → Doing
filing puts = record { steps = map put_of puts; kept = []; stop = None }

-- how a call ends that does this: where a limit ends it that is told
abbrev pub EndsIn : Doing → Seen → Seen → Status → Type 0
EndsIn d old new status.Whole = Done d old new × (d.stop ≡ None)
EndsIn d old new status.Usage = ⊥
EndsIn d old new status.Text = ⊥
EndsIn d old new status.Graph = ⊥
EndsIn d old new status.Limit = (l : LimitKind × ℕ) × (d.stop ≡ Some l) × (new.outside ≡ after_steps d.steps old.outside) × ErrTook (line (limit_line l.0 l.1)) old new
EndsIn d old new status.Checkpoint = ⊥
EndsIn d old new status.ReadFault = ⊥
EndsIn d old new status.WriteFault = FailsIn d.steps old new
EndsIn d old new status.NoMemory = StarvesIn d.steps old new

-- pieces from which checkpoints are made hold no component twice
abbrev pub AreWhole : List Given → Type 0
AreWhole [] = Unit {0}
AreWhole (c ∷ cs) = ((t : ℕ) → Contains c.saves t → AreApart c.pieces) × AreWhole cs
