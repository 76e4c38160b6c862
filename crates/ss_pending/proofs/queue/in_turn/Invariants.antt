use Rattle.std.proofs.Common.{◌≡◌, ◌++◌}
use Rattle.std.specs.BinaryHeap.{IsHeap, heap_items, heap_len}
use Rattle.ss_pending.specs.Filed.{in_order, latest_first, Different}
use Rattle.ss_pending.specs.Loads.{all_loaded}
use Rattle.ss_pending.proofs.queue.in_turn.Given as goal

abbrev pub invariant-loop-first : goal.invariant-loop-first
invariant-loop-first g l = IsHeap latest_first (heap_items l.heap) × Different (heap_items l.heap) × (l.list.items ++ all_loaded l.loads.loads (in_order (heap_items l.heap)) ≡ all_loaded l.loads.loads (in_order (heap_items l.initial.heap)))

abbrev pub decreases-loop-first : goal.decreases-loop-first
decreases-loop-first g l = heap_len l.heap
