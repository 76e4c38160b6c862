use Rattle.ss_pending.proofs.Lanes.{lane_first}
use Rattle.ss_pending.proofs.lane.Lane.first.Goals as goal

pub returns : goal.returns
returns g c = lane_first _ _ _ _ _ _ c.first_of.ensures c.self.view_is c.front.ensures c.top.ensures
