use Rattle.std.proofs.Common.{◌≡◌, inr, ap, Some}
use Rattle.std.specs.Prelude.{option_map}
use Rattle.ss_part.specs.declared.How.TheVariants.{SelfNamed}
use Rattle.ss_part.specs.declared.PartFault.TheVariants.{BadThread}
use Rattle.ss_part.specs.Assigned.{misplaced}
use Rattle.ss_part.proofs.by_thread.Goals as goal

pub returns-in-Some-clause-err : goal.returns-in-Some-clause-err
unfolding misplaced
returns-in-Some-clause-err c =
    let e : misplaced c.args.graph.now c.args.parts SelfNamed ≡ Some c.in-Some.component = cc in
    inr (ap (λ o. option_map (λ x. BadThread x) o) e)
