use Rattle.mr_wired.proofs.Running.{networks_run_in_order}
use Rattle.mr_wired.proofs.networks_run_in_order.Goals as goal

pub returns : goal.returns
returns g c = networks_run_in_order g.E.Element.kind g.E.Local.allowed
