use Rattle.std.specs.BinaryHeap.{heap_items}
use Rattle.ss_pending.specs.Filed.{in_order}
use Rattle.ss_pending.proofs.Sorting.{taken, taken_different}
use Rattle.ss_pending.proofs.Stored.{listed_loaded}
use Rattle.ss_pending.proofs.queue.in_turn.Goals as goal

pub loop-first-preserved : goal.loop-first-preserved
loop-first-preserved g c =
    let takes = c.in-Some.ensures.some in
    let before = c.loop-first.invariant in
    (c.in-Some.ensures.heap, taken_different c.in-Some.first _ _ takes before.1, listed_loaded c.loop-first.list.items c.push.new.self.items c.args.loads.now.loads c.in-Some.first.event c.look_up-load.result (in_order (heap_items c.loop-first.heap)) (in_order (heap_items c.take_top.new.heap)) _ c.in_ok-push.ensures.items c.look_up-load.ensures (taken c.in-Some.first _ _ takes before.1) before.2)
