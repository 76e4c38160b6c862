use Rattle.ss_pending.proofs.Lanes.{on_ok, lane_put_behind, lane_put}
use Rattle.ss_pending.proofs.lane.Lane.put.Goals as goal

pub returns-then-is_behind-clause-ok : goal.returns-then-is_behind-clause-ok
returns-then-is_behind-clause-ok g c = on_ok c.push.result c.push.ensures.ok (λ e. lane_put_behind c.args.filed _ _ _ _ c.self.view_is e)

pub returns-else-is_behind-clause-ok : goal.returns-else-is_behind-clause-ok
returns-else-is_behind-clause-ok g c = on_ok c.push-else-is_behind.result c.push-else-is_behind.ensures.ok (λ p. lane_put c.args.filed _ _ _ _ c.self.view_is p)
