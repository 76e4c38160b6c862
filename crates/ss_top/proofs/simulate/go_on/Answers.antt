use Rattle.ss_run.specs.declared.Origin.TheVariants as origin
use Rattle.ss_top.specs.Answer.{AnswersAsked, AnswersSaved}
use Rattle.ss_top.specs.Left.{LeavesRun, LeavesSaved}
use Rattle.ss_top.proofs.Simulating.{refusal_goes, printed_goes, undivided_asked, run_printed, recalled_goes, recalled_left}
use Rattle.ss_top.proofs.Following.{recalled_follow}
use Rattle.ss_top.proofs.simulate.go_on.Goals as goal

pub returns-in-Err : goal.returns-in-Err
returns-in-Err g c = λ name.
    refusal_goes (AnswersAsked name c.args.recalled.graph (origin.Saved c.args.bytes.items) c.args.options.now) (AnswersSaved name c.args.bytes.items c.args.options.now)
    (recalled_goes name c.args.bytes.items c.args.recalled c.args.options.now c.requires.recalled) name _
    (undivided_asked name c.args.recalled.graph (origin.Saved c.args.bytes.items) c.args.options.now c.in-Err.refusal c.in-Err.ensures.undivided)

pub returns-in-Ok-run_recalled : goal.returns-in-Ok-run_recalled
returns-in-Ok-run_recalled g c = λ name.
    printed_goes (AnswersAsked name c.args.recalled.graph (origin.Saved c.args.bytes.items) c.args.options.now) (AnswersSaved name c.args.bytes.items c.args.options.now)
    (recalled_goes name c.args.bytes.items c.args.recalled c.args.options.now c.requires.recalled)
    (LeavesRun c.args.recalled.graph (origin.Saved c.args.bytes.items) c.args.options.now c.run_recalled.new.ran.workers.items) (LeavesSaved c.args.bytes.items c.args.options.now c.run_recalled.new.ran.workers.items)
    (recalled_left name c.args.bytes.items c.args.recalled c.args.options.now c.requires.recalled c.run_recalled.new.ran.workers.items)
    c.in-Ok-run_recalled.printed
    (run_printed name c.args.recalled.graph (origin.Saved c.args.bytes.items) c.args.options.now c.run_recalled.new.ran.workers.items c.in-Ok-run_recalled.printed c.in-Ok.ensures.divided.can c.in-Ok-run_recalled.ensures
    (recalled_follow c.args.bytes.items c.args.recalled c.args.options.now c.requires.recalled c.requires.early))
