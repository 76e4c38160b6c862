-- What is so after a run beside its output: packets were once and in order in each of its states, the statistics that it leaves tell so,
-- restarts from its checkpoints print its rest, and a run in parts leaves its workers where its last window left them.
use Rattle.std.specs.Prelude.{ℕ, ◌≤◌, List, Option, Some, None, Result, Ok, Err}
use Rattle.std.specs.FinMap.{get}
use Rattle.ss_edge.specs.Edge.{Contents}
use Rattle.ss_cmd.specs.declared.Plan.{Plan}
use Rattle.ss_cmd.specs.declared.Plan.TheVariants as plan
use Rattle.ss_cmd.specs.declared.RunOptions.{RunOptions}
use Rattle.ss_cmd.specs.declared.Usage.{Usage}
use Rattle.ss_cmd.specs.Grammar.{plan_by}
use Rattle.ss_graph.specs.declared.graph.Graph.{Graph}
use Rattle.ss_graph.specs.Judge.{graph_of}
use Rattle.ss_library.specs.Make.{model_of}
use Rattle.ss_library.specs.Order.{PacketsStayInOrder}
use Rattle.ss_recall.specs.Recall.{Reading, Recalls, graph_in}
use Rattle.ss_run.specs.declared.Origin.{Origin}
use Rattle.ss_run.specs.declared.Origin.TheVariants as origin
use Rattle.ss_run.specs.declared.RunSpec.{RunSpec}
use Rattle.ss_worker.specs.Place.{Place, AllStandAt}
use Rattle.ss_top.specs.Answer.{entry_name}
use Rattle.ss_top.specs.Asked.{run_of}
use Rattle.ss_top.specs.Report.{Has}
use Rattle.ss_top.specs.Rest.{RestartsPrintTheRest}
use Rattle.ss_top.specs.Spreading.{parts_of}
use Rattle.ss_top.specs.Tells.{StatisticsTellOrder}

-- where a worker stands
abbrev pub Working : Type 0
Working = Place

-- one worker for each part of a run, in order, each after the run's last window, of which nothing is missing
pub record AreWorkers (r : RunSpec) (workers : List Working) : Type 0 where
  pub windows : ℕ
  pub has : Has r windows
  pub stand : AllStandAt r windows workers

-- what has to be so after the run of an accepted graph from what it begins with
pub record LeavesRun (g : Graph) (from : Origin) (o : RunOptions) (workers : List Working) : Type 0 where
  pub rest : RestartsPrintTheRest g from o
  pub parts : 2 ≤ parts_of o.spread g → AreWorkers (run_of g from o (parts_of o.spread g)) workers

-- and beside that after a run from the start
pub record LeavesStarted (g : Graph) (o : RunOptions) (workers : List Working) : Type 0 where
  pub order : PacketsStayInOrder g (model_of g)
  pub told : StatisticsTellOrder g o
  pub run : LeavesRun g origin.Start o workers

abbrev pub LeavesAccepted : Plan → Graph → List Working → Type 0
LeavesAccepted (plan.Run graph options) g workers = LeavesStarted g options workers
LeavesAccepted (plan.Restart checkpoint options) g workers = Unit {0}
LeavesAccepted (plan.Check graph) g workers = Unit {0}
LeavesAccepted (plan.Partition graph parts how) g workers = Unit {0}

-- after a restart from the bytes of a checkpoint
abbrev pub LeavesSaved : List ℕ → RunOptions → List Working → Type 0
LeavesSaved bytes o workers = (x : Reading) → Recalls bytes x → LeavesRun (graph_in x) (origin.Saved bytes) o workers

-- after what the plan asks was done with the bytes that were read
abbrev pub LeavesRead : Plan → List ℕ → List Working → Type 0
LeavesRead (plan.Run graph options) bytes workers = LeavesAccepted (plan.Run graph options) (graph_of bytes) workers
LeavesRead (plan.Restart checkpoint options) bytes workers = LeavesSaved bytes options workers
LeavesRead (plan.Check graph) bytes workers = LeavesAccepted (plan.Check graph) (graph_of bytes) workers
LeavesRead (plan.Partition graph parts how) bytes workers = LeavesAccepted (plan.Partition graph parts how) (graph_of bytes) workers

abbrev pub LeavesEntry : Plan → Option (List ℕ) → List Working → Type 0
LeavesEntry p None workers = Unit {0}
LeavesEntry p (Some bytes) workers = LeavesRead p bytes workers

abbrev pub LeavesPlan : Result Plan Usage → Contents → List Working → Type 0
LeavesPlan (Err u) held workers = Unit {0}
LeavesPlan (Ok p) held workers = LeavesEntry p (get held (entry_name p)) workers

-- what has to be so after a whole call with these words, where the shelf holds these entries
unfoldable pub Leaves : List (List ℕ) → Contents → List Working → Type 0
Leaves words held workers = LeavesPlan (plan_by words) held workers
