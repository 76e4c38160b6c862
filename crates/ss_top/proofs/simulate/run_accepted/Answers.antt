use Rattle.ss_run.specs.declared.Origin.TheVariants as origin
use Rattle.ss_cmd.specs.declared.Plan.TheVariants as plan
use Rattle.ss_top.specs.Answer.{AnswersAsked, AnswersText}
use Rattle.ss_top.specs.Left.{LeavesAccepted, LeavesRun}
use Rattle.ss_top.proofs.Simulating.{refusal_goes, printed_goes, undivided_asked, run_printed, started_goes, started_left}
use Rattle.ss_top.proofs.Telling.{statistics_tell_order}
use Rattle.ss_top.proofs.Following.{started_follow}
use Rattle.ss_top.proofs.simulate.run_accepted.Goals as goal

pub returns-in-Err : goal.returns-in-Err
returns-in-Err g c = λ name text h.
    refusal_goes (AnswersAsked name c.args.accepted.graph origin.Start c.args.options.now) (AnswersText (plan.Run name c.args.options.now) text)
    (started_goes name text c.args.accepted.graph c.args.options.now h.judged h.is) name _
    (undivided_asked name c.args.accepted.graph origin.Start c.args.options.now c.in-Err.refusal c.in-Err.ensures.undivided)

pub returns-in-Ok-run_started : goal.returns-in-Ok-run_started
returns-in-Ok-run_started g c = λ name text h.
    printed_goes (AnswersAsked name c.args.accepted.graph origin.Start c.args.options.now) (AnswersText (plan.Run name c.args.options.now) text)
    (started_goes name text c.args.accepted.graph c.args.options.now h.judged h.is)
    (LeavesRun c.args.accepted.graph origin.Start c.args.options.now c.run_started.new.ran.workers.items) (LeavesAccepted (plan.Run name c.args.options.now) _ c.run_started.new.ran.workers.items)
    (started_left name text c.args.accepted.graph c.args.options.now c.run_started.new.ran.workers.items h.is c.requires.accepted.order
    (statistics_tell_order c.args.accepted.graph c.args.options.now c.requires.accepted.checked c.requires.accepted.fit c.requires.early c.requires.accepted.order))
    c.in-Ok-run_started.printed
    (run_printed name c.args.accepted.graph origin.Start c.args.options.now c.run_started.new.ran.workers.items c.in-Ok-run_started.printed c.in-Ok.ensures.divided.can c.in-Ok-run_started.ensures
    (started_follow text c.args.accepted c.args.options.now h c.requires.early))
