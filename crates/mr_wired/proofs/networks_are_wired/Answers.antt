use Rattle.mr_wired.proofs.Wiring.{networks_are_wired}
use Rattle.mr_wired.proofs.networks_are_wired.Goals as goal

pub returns : goal.returns
returns g c = networks_are_wired
