use Rattle.std.proofs.Common.{◌≡◌, replicate}
use Rattle.mr_flow.specs.Queue.{empty_row}
use Rattle.mr_flow.proofs.queues.Queues.new.Given as goal

abbrev pub invariant-loop-i : goal.invariant-loop-i
invariant-loop-i l = l.items.items ≡ replicate l._i (empty_row l.capacity)
