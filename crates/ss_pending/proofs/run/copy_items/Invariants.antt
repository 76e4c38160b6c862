use Rattle.std.proofs.Common.{◌≡◌, ◌++◌}
use Rattle.std.specs.VecDeque.Iter.{deque_iter_rest}
use Rattle.ss_pending.proofs.run.copy_items.Given as goal

-- what is copied, and what is left of the queue, is all
abbrev pub invariant-loop-filed : goal.invariant-loop-filed
invariant-loop-filed g l = l.list.items ++ deque_iter_rest l.filed-iterator ≡ l.initial.list.items ++ l.items.items
