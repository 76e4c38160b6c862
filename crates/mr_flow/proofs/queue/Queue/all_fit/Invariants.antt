use Rattle.std.proofs.Common.{◌≡◌, take, true}
use Rattle.std.specs.List.{list_all}
use Rattle.mr_flow.specs.Load.{is_of}
use Rattle.mr_flow.proofs.queue.Queue.all_fit.Given as goal

abbrev pub invariant-loop-index : goal.invariant-loop-index
invariant-loop-index l = list_all (is_of l.bounds l.vn l.at) (take l.index l.self.packets) ≡ true
