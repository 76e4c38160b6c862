use Rattle.mr_order.proofs.Running.{runs_in_order}
use Rattle.mr_order.proofs.packets_stay_in_order.Goals as goal

pub returns : goal.returns
returns g c = runs_in_order g.E.Element.kind g.E.Local.allowed
