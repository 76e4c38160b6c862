use Rattle.std.proofs.Common.{◌≡◌, true}
use Rattle.std.specs.List.{list_all, range_with_len}
use Rattle.mr_nic.specs.Kind.{lane_fits}
use Rattle.mr_nic.proofs.nic.Endpoint.lanes_fit.Given as goal

abbrev pub invariant-loop-vn : goal.invariant-loop-vn
invariant-loop-vn l = list_all (lane_fits l.self l.at) (range_with_len 0 l.vn) ≡ true
