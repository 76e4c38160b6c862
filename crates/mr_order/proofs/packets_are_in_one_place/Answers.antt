use Rattle.mr_order.proofs.Numbering.{runs_numbered}
use Rattle.mr_order.proofs.packets_are_in_one_place.Goals as goal

pub returns : goal.returns
returns g c = runs_numbered g.E.Element.kind g.E.Local.allowed
