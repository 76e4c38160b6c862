use Rattle.ss_parts.proofs.Windows.{comes_late}
use Rattle.ss_parts.proofs.what_crosses_comes_late.Goals as goal

pub returns : goal.returns
returns g c = comes_late g.E.Element.kind g.E.Element.safe g.met.E.Element.laws
