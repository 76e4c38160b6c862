use Rattle.ss_pending.proofs.Lanes.{front_takes}
use Rattle.ss_pending.proofs.lane.take_front.Goals as goal

pub returns-clause-some : goal.returns-clause-some
returns-clause-some g c = front_takes c.pop.result _ _ c.pop.ensures.items c.requires
