use Rattle.ss_parts.proofs.Windows.{are_windows}
use Rattle.ss_parts.proofs.windows_are_one_run.Goals as goal

pub returns : goal.returns
returns g c = are_windows g.E.Element.kind g.E.Element.safe g.met.E.Element.laws
