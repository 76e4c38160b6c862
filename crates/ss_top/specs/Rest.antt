-- What restarts from the checkpoints of a run answer: the rest of that run.
use Rattle.std.specs.Prelude.{◌≡◌, ℕ, List, ◌∷◌, ◌++◌, ◌⊎◌, map, Some}
use Rattle.ss_model.specs.declared.Line.{Line}
use Rattle.ss_graph.specs.declared.graph.Graph.{Graph}
use Rattle.ss_part.specs.declared.PartFault.{PartFault}
use Rattle.ss_part.specs.Assigned.{refusal as undivided}
use Rattle.ss_library.specs.declared.kinds.Any.{Any}
use Rattle.ss_library.specs.Kinds.{any_kind}
use Rattle.ss_library.specs.Meaning.{any_meaning}
use Rattle.ss_library.specs.Saved.{any_saving}
use Rattle.ss_run.specs.declared.Origin.{Origin}
use Rattle.ss_course.specs.Kept.{Kept, RunsWhole}
use Rattle.ss_course.specs.Laws.{all_lines, entry_of}
use Rattle.ss_recall.specs.Recall.{Reading, Recalls, graph_in}
use Rattle.ss_cmd.specs.declared.RunOptions.{RunOptions}
use Rattle.ss_cmd.specs.declared.Plan.TheVariants as plan
use Rattle.ss_cmd.specs.Grammar.{AreInRange}
use Rattle.ss_top.specs.Asked.{course_of}
use Rattle.ss_top.specs.Spreading.{parts_of}
use Rattle.ss_top.specs.Answer.{Answer, AnswersBytes, ran, refused_as, sheets, stats_text, undivided_by}
use Rattle.ss_top.specs.declared.Status.TheVariants as status

-- the same checkpoints are asked for in both
pub record AsksAlike (o later : RunOptions) : Type 0 where
  pub at : later.checkpoint_at ≡ o.checkpoint_at
  pub period : later.checkpoint_period ≡ o.checkpoint_period

-- the checkpoints behind one of a run's, the lines behind the last of them, the time of the final line, and the components at the end
pub record Remains : Type 0 where
  pub back : List Kept
  pub rest : List Line
  pub time : ℕ
  pub left : List Any

module _ (g : Graph) (o later : RunOptions) (more : Remains) where
  -- a restart that comes to its end prints these lines and this final line, and stores the same statistics. Where it asks for the
  -- same checkpoints, it puts those
  pub record PrintsRest (a : Answer) : Type 0 where
    pub ks : List Kept
    pub last : List Line
    pub reports : List (List ℕ × List ℕ)
    pub is : a ≡ ran later.checkpoint_prefix ks last more.time (sheets later.stats (stats_text g more.left) ++ reports)
    pub lines : all_lines ks last ≡ all_lines more.back more.rest
    pub kept : AsksAlike o later → map entry_of ks ≡ map entry_of more.back

  -- it is refused where the graph can't be divided as it asks
  pub record IsUndivided (name : List ℕ) (a : Answer) : Type 0 where
    pub fault : PartFault
    pub why : undivided g (parts_of later.spread g) later.spread.how ≡ Some fault
    pub is : a ≡ refused_as name (undivided_by fault)

  -- and a limit ends it only where it asks for other checkpoints
  pub record IsOverLimit (a : Answer) : Type 0 where
    pub status : a.status ≡ status.Limit
    pub other : AsksAlike o later → ⊥

-- a checkpoint of a run is accepted, with the run's graph, and whoever restarts from it with the run's stop time gets the rest
pub record IsGoneOnFrom (g : Graph) (o : RunOptions) (k : Kept) (more : Remains) : Type 0 where
  pub recalled : Reading
  pub recalls : Recalls k.bytes recalled
  pub graph : graph_in recalled ≡ g
  pub answers : (name : List ℕ) (later : RunOptions) (a : Answer) → AreInRange later → later.stop_at ≡ o.stop_at → AnswersBytes (plan.Restart name later) k.bytes a
      → PrintsRest g o later more a ⊎ (IsUndivided g o later more name a ⊎ IsOverLimit g o later more a)

-- so for each checkpoint of a run that comes to its end
pub record RestartsPrintTheRest (g : Graph) (from : Origin) (o : RunOptions) : Type 0 where
  pub each : (front : List Kept) (k : Kept) (more : Remains) → RunsWhole any_kind any_saving any_meaning (course_of g from o) (front ++ k ∷ more.back) more.rest more.time more.left → IsGoneOnFrom g o k more
