use Rattle.mr_wired.proofs.Stored.{statistics_are_stored}
use Rattle.mr_wired.proofs.statistics_are_stored.Goals as goal

pub returns : goal.returns
returns g c = statistics_are_stored g.E.Element.kind
