use Rattle.std.proofs.Common.{◌≡◌, ◌++◌, take}
use Rattle.std.specs.List.{flat_map}
use Rattle.mr_flow.specs.Saved.{packet_form}
use Rattle.mr_flow.proofs.queue.Queue.save_each.Given as goal

abbrev pub invariant-loop-index : goal.invariant-loop-index
invariant-loop-index l = l.out ≡ l.initial.out ++ flat_map packet_form.spell (take l.index l.self.packets)
