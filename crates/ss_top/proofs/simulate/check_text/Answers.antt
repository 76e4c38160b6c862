use Rattle.std.proofs.Common.{ap, ◌∙◌, ◌∷◌, []}
use Rattle.ss_graph.specs.declared.graph.Graph.{Graph}
use Rattle.ss_cmd.specs.declared.Plan.TheVariants as plan
use Rattle.ss_top.specs.Answer.{whole, accepted_text}
use Rattle.ss_top.proofs.Simulating.{refused_text, as_accepted}
use Rattle.ss_top.proofs.simulate.check_text.Goals as goal

pub returns-in-Ok-checked : goal.returns-in-Ok-checked
returns-in-Ok-checked c = λ name workers. (
  as_accepted (plan.Check name) c.args.text.now c.in-Ok.ensures.accepted.judged _ (ap whole c.in-Ok-checked.ensures ∙ ap (λ (x : Graph). whole (accepted_text x ∷ [])) c.in-Ok.ensures.accepted.is),
  tt,
)

pub returns : goal.returns
returns c = λ name workers. refused_text (plan.Check name) c.args.text.now c.in-Err.refusal c.in-Err.ensures.refused
