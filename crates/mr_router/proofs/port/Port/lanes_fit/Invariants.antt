use Rattle.std.proofs.Common.{◌≡◌, true}
use Rattle.std.specs.List.{list_all, range_with_len}
use Rattle.mr_router.specs.Fitting.{lane_fits}
use Rattle.mr_router.proofs.port.Port.lanes_fit.Given as goal

abbrev pub invariant-loop-channel : goal.invariant-loop-channel
invariant-loop-channel l = list_all (lane_fits l.set l.at l.index l.self) (range_with_len 0 l.channel) ≡ true
