use Rattle.ss_parts.proofs.Windows.{runs_alone}
use Rattle.ss_parts.proofs.a_window_is_a_projection.Goals as goal

pub returns : goal.returns
returns g c = runs_alone g.E.Element.kind g.E.Element.safe g.met.E.Element.laws
