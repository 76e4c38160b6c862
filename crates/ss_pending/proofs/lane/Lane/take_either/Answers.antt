use Rattle.ss_pending.proofs.Lanes.{lane_take_left, lane_take_right}
use Rattle.ss_pending.proofs.lane.Lane.take_either.Goals as goal

pub returns-then-leads-clause-some : goal.returns-then-leads-clause-some
returns-then-leads-clause-some g c = lane_take_left c.take_front.result _ _ _ _ _ c.front.ensures c.top.ensures _ c.leads.ensures c.if-leads.true _ c.self.view_is c.take_front.ensures.some

pub returns-else-leads-clause-some : goal.returns-else-leads-clause-some
returns-else-leads-clause-some g c = lane_take_right c.take_top.result _ _ _ _ _ c.front.ensures c.top.ensures _ c.leads.ensures c.if-leads.false _ c.self.view_is c.take_top.ensures.some
