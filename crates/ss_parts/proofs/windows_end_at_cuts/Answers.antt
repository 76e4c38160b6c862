use Rattle.ss_parts.proofs.Windows.{ends_at_cuts}
use Rattle.ss_parts.proofs.windows_end_at_cuts.Goals as goal

pub returns : goal.returns
returns g c = ends_at_cuts g.E.Element.kind g.E.Element.safe g.met.E.Element.laws
