use Rattle.ss_parts.proofs.Windows.{is_counted}
use Rattle.ss_parts.proofs.windows_are_counted.Goals as goal

pub returns : goal.returns
returns g c = is_counted g.E.Element.kind g.E.Element.safe g.met.E.Element.laws
