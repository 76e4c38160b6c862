use Rattle.ss_parts.proofs.Windows.{tells_next}
use Rattle.ss_parts.proofs.parts_tell_the_next_window.Goals as goal

pub returns : goal.returns
returns g c = tells_next g.E.Element.kind g.E.Element.safe g.met.E.Element.laws
