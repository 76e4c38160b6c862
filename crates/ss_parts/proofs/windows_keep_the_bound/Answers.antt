use Rattle.ss_parts.proofs.Windows.{keeps_bounds}
use Rattle.ss_parts.proofs.windows_keep_the_bound.Goals as goal

pub returns : goal.returns
returns g c = keeps_bounds g.E.Element.kind g.E.Element.safe g.met.E.Element.laws
