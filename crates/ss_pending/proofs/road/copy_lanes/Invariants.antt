use Rattle.std.proofs.Common.{◌≡◌, ◌++◌, take}
use Rattle.ss_pending.specs.Filed.{all}
use Rattle.ss_pending.proofs.road.copy_lanes.Given as goal

-- the lanes so far are copied
abbrev pub invariant-loop-lane : goal.invariant-loop-lane
invariant-loop-lane g l = l.list.items ≡ l.initial.list.items ++ all (take l.lane-index l.lanes)
