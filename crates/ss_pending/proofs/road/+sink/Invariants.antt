use Rattle.std.proofs.Common.{◌-◌, length}
use Rattle.ss_pending.proofs.road.+sink.Given as goal

-- the places behind
abbrev pub decreases-sink : goal.decreases-sink
decreases-sink g l = length l.lanes.now - l.place
