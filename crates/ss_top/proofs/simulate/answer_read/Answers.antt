use Rattle.std.proofs.Common.{subst, sym, List, ℕ}
use Rattle.ss_graph.specs.Judge.{graph_of}
use Rattle.ss_cmd.specs.declared.Plan.{Plan}
use Rattle.ss_cmd.specs.declared.Plan.TheVariants as plan
use Rattle.ss_top.specs.Answer.{AnswersRead, AnswersText, entry_name}
use Rattle.ss_top.specs.Left.{LeavesAccepted, LeavesRead}
use Rattle.ss_top.specs.Simulate.{IsVerdict}
use Rattle.ss_top.proofs.simulate.answer_read.Goals as goal

pub returns-in-Run : goal.returns-in-Run
returns-in-Run g c =
    subst (λ (p : Plan). IsVerdict (AnswersRead p c.args.bytes.items) (LeavesRead p c.args.bytes.items c.run_text.new.ran.workers.items) (entry_name p) c.run_text.result) (sym c.in-Run.is)
    (subst (λ (t : List ℕ). IsVerdict (AnswersText (plan.Run c.in-Run.graph c.in-Run.options) t) (LeavesAccepted (plan.Run c.in-Run.graph c.in-Run.options) (graph_of t) c.run_text.new.ran.workers.items) c.in-Run.graph c.run_text.result) c.as_slice.ensures.value
    (c.run_text.ensures c.in-Run.graph))

pub returns-in-Restart : goal.returns-in-Restart
returns-in-Restart g c =
    subst (λ (p : Plan). IsVerdict (AnswersRead p c.args.bytes.items) (LeavesRead p c.args.bytes.items c.restart_from.new.ran.workers.items) (entry_name p) c.restart_from.result) (sym c.in-Restart.is)
    (c.restart_from.ensures c.in-Restart.checkpoint)

pub returns-in-Check : goal.returns-in-Check
returns-in-Check g c =
    subst (λ (p : Plan). IsVerdict (AnswersRead p c.args.bytes.items) (LeavesRead p c.args.bytes.items c.args.ran.now.workers.items) (entry_name p) c.check_text.result) (sym c.in-Check.is)
    (subst (λ (t : List ℕ). IsVerdict (AnswersText (plan.Check c.in-Check.graph) t) (LeavesAccepted (plan.Check c.in-Check.graph) (graph_of t) c.args.ran.now.workers.items) c.in-Check.graph c.check_text.result) c.as_slice-in-Check.ensures.value
    (c.check_text.ensures c.in-Check.graph c.args.ran.now.workers.items))

pub returns-in-Partition : goal.returns-in-Partition
returns-in-Partition g c =
    subst (λ (p : Plan). IsVerdict (AnswersRead p c.args.bytes.items) (LeavesRead p c.args.bytes.items c.args.ran.now.workers.items) (entry_name p) c.divide_text.result) (sym c.in-Partition.is)
    (subst (λ (n : List ℕ). IsVerdict (AnswersText (plan.Partition n c.in-Partition.parts c.in-Partition.how) c.args.bytes.items) (LeavesAccepted (plan.Partition n c.in-Partition.parts c.in-Partition.how) (graph_of c.args.bytes.items) c.args.ran.now.workers.items) n c.divide_text.result) c.as_str.ensures
    (subst (λ (t : List ℕ). IsVerdict (AnswersText (plan.Partition c.as_str.result.now c.in-Partition.parts c.in-Partition.how) t) (LeavesAccepted (plan.Partition c.as_str.result.now c.in-Partition.parts c.in-Partition.how) (graph_of t) c.args.ran.now.workers.items) c.as_str.result.now c.divide_text.result) c.as_slice-in-Partition.ensures.value
    (c.divide_text.ensures c.args.ran.now.workers.items)))
