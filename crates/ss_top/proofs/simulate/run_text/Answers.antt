use Rattle.ss_cmd.specs.declared.Plan.TheVariants as plan
use Rattle.ss_top.proofs.Simulating.{refused_text}
use Rattle.ss_top.proofs.simulate.run_text.Goals as goal

pub returns-in-Ok : goal.returns-in-Ok
returns-in-Ok g c = λ name. c.run_accepted.ensures name c.args.text.now c.in-Ok.ensures.accepted

pub returns-in-Err : goal.returns-in-Err
returns-in-Err g c = λ name. refused_text (plan.Run name c.args.options.now) c.args.text.now c.in-Err.refusal c.in-Err.ensures.refused
