use Rattle.ss_pending.proofs.Lanes.{first_front}
use Rattle.ss_pending.proofs.lane.front.Goals as goal

pub returns : goal.returns
returns g c = first_front _ _ c.requires c.first.ensures
