use Rattle.mr_order.proofs.Expecting.{runs_expected}
use Rattle.mr_order.proofs.packets_come_as_expected.Goals as goal

pub returns : goal.returns
returns g c = runs_expected g.E.Element.kind g.E.Local.allowed
