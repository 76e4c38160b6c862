use Rattle.std.proofs.Common.{arith, ap, ◌∙◌, ◌-◌, length, take, drop}
use Rattle.std.proofs.lemmas.Grind.{common_steps}
use Rattle.ss_edge.specs.Edge.{more}
use Rattle.ss_edge.proofs.More.{more-piece}
use Rattle.ss_edge.proofs.write_all.Goals as goal

pub loop-at-preserved : goal.loop-at-preserved
loop-at-preserved g c = record {
  within = grind (arith, common_steps);
  taken = c.in_ok-n.ensures.took ∙ ap (λ t. more (take c.in_ok-n.n (take (length c.args.bytes.now - c.loop-at.at) (drop c.loop-at.at c.args.bytes.now))) t) c.loop-at.invariant.taken ∙ more-piece c.args.bytes.now c.loop-at.at c.in_ok-n.n _ _ (omega arith);
  faults = grind (arith, common_steps);
}
