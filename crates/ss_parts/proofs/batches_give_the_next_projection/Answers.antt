use Rattle.ss_parts.proofs.Windows.{exchanges}
use Rattle.ss_parts.proofs.batches_give_the_next_projection.Goals as goal

pub returns : goal.returns
returns g c = exchanges g.E.Element.kind g.E.Element.safe g.met.E.Element.laws
