use Rattle.std.proofs.Common.{subst}
use Rattle.ss_cmd.specs.declared.Plan.TheVariants as plan
use Rattle.ss_top.specs.Simulate.{IsDivided}
use Rattle.ss_top.proofs.Simulating.{refused_text, divided_goes}
use Rattle.ss_top.proofs.simulate.divide_text.Goals as goal

pub returns-in-Ok : goal.returns-in-Ok
returns-in-Ok c = λ workers.
    divided_goes c.args.name.now c.args.text.now c.in-Ok.accepted.graph c.args.parts c.args.how workers c.divide.result c.in-Ok.ensures.accepted.judged c.in-Ok.ensures.accepted.is
    (subst (λ n. IsDivided c.args.name.now c.in-Ok.accepted.graph n c.args.how c.divide.result) c.unwrap_or.ensures c.divide.ensures)

pub returns-in-Err : goal.returns-in-Err
returns-in-Err c = λ workers. refused_text (plan.Partition c.args.name.now c.args.parts c.args.how) c.args.text.now c.in-Err.refusal c.in-Err.ensures.refused
