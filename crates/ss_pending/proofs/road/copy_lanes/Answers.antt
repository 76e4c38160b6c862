use Rattle.ss_pending.proofs.Roads.{copied_more}
use Rattle.ss_pending.proofs.road.copy_lanes.Goals as goal

pub loop-lane-preserved : goal.loop-lane-preserved
loop-lane-preserved g c = copied_more c.args.lanes.now c.loop-lane.lane-index c.lane-item.result c.loop-lane.list.items c.copy_to.new.list.items c.args.list.now.items c.loop-lane-test.true c.lane-item.is c.in_ok-copy_to.ensures c.loop-lane.invariant
