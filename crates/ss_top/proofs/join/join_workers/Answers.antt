use Rattle.std.proofs.Common.{rules, ◌≡◌, sym, subst, IfOk}
use Rattle.ss_run.specs.declared.RunSpec.{RunSpec}
use Rattle.ss_run.specs.Run.{IsFitting}
use Rattle.ss_worker.specs.Place.{AllStandAt}
use Rattle.ss_join.specs.Joined.{Answers}
use Rattle.ss_top.proofs.Joining.{run_named, run_is}
use Rattle.ss_top.proofs.join.join_workers.Goals as goal

pub run_joined-requires : goal.run_joined-requires
run_joined-requires g c =
    let named : run_named c.args.workers.now.items ≡ c.args.run.now = run_is c.args.run.now 0 c.args.workers.now.items c.requires.workers c.requires.fits.some in
    let fits : IsFitting g.E.Element.kind g.E.Simulated.meaning (run_named c.args.workers.now.items) = subst (λ (r : RunSpec). IsFitting g.E.Element.kind g.E.Simulated.meaning r) (sym named) c.requires.fits in
    let stood : AllStandAt (run_named c.args.workers.now.items) 0 c.args.workers.now.items = subst (λ (r : RunSpec). AllStandAt r 0 c.args.workers.now.items) (sym named) c.requires.workers in
    λ κs lives. (lives.0, (lives.1.0, (lives.1.1.0, (lives.1.1.1, (search rules, (search rules, (search rules, (c.requires.hosts, (fits, (stood, (c.requires.open, c.requires.unrefused)))))))))))

pub returns-clause-answers : goal.returns-clause-answers
returns-clause-answers g c =
    let named : run_named c.args.workers.now.items ≡ c.args.run.now = run_is c.args.run.now 0 c.args.workers.now.items c.requires.workers c.requires.fits.some in
    subst (λ (r : RunSpec). Answers g.E.Element.kind g.E.Element.saving g.E.Simulated.meaning r c.run_joined.result (g.D.Lead.seen c.args.lead.now) (g.D.Lead.seen c.run_joined.new.lead)) named c.run_joined.ensures.answers

pub returns-clause-stand : goal.returns-clause-stand
returns-clause-stand g c =
    let named : run_named c.args.workers.now.items ≡ c.args.run.now = run_is c.args.run.now 0 c.args.workers.now.items c.requires.workers c.requires.fits.some in
    subst (λ (r : RunSpec). IfOk c.run_joined.result (λ e. AllStandAt r e.windows c.run_joined.new.workers.items)) named c.run_joined.ensures.stand
