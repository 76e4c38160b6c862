use Rattle.std.proofs.Common.{map, ap, sym, arith, ◌<◌, ◌∙◌, ◌++◌, ◌∷◌, [], length}
use Rattle.std.specs.Prelude.{slice_set}
use Rattle.ss_worker.proofs.Batches.{at_first, put_in, left_out, map_at, map_set, map_length, items_of}
use Rattle.ss_worker.proofs.out.sort_out.Goals as goal

pub loop-event-init : goal.loop-event-init
loop-event-init g c = at_first c.args.wires.now c.args.owners.now c.args.parts (map items_of c.in_ok-batches.batches.items) c.in_ok-batches.ensures

pub loop-event-preserved : goal.loop-event-preserved
loop-event-preserved g c =
    let bs = c.loop-event.batches.items in
    left_out c.args.wires.now c.args.owners.now c.args.parts c.loop-event.yielded c.in-Some.event c.destination-to.result (map items_of bs) c.destination-to.ensures
    (omega (arith, c.if-to-len.false, c.len.ensures, c.loop-event.batches.ok.0, map_length items_of bs)) c.loop-event.invariant

pub loop-event-preserved-in-Continue-branch-2 : goal.loop-event-preserved-in-Continue-branch-2
loop-event-preserved-in-Continue-branch-2 g c =
    let bs = c.loop-event.batches.items in
    let to = c.destination-to.result in
    let event = c.in-Some.event in
    let below : to < length bs = omega (arith, c.if-to-len.true, c.len.ensures, c.loop-event.batches.ok.0) in
    put_in c.args.wires.now c.args.owners.now c.args.parts c.loop-event.yielded event to (map items_of bs) (map items_of (slice_set bs to c.push.new.self)) c.push.new.self.items c.destination-to.ensures
    (omega (arith, below, map_length items_of bs))
    (c.in_ok-push.ensures.items ∙ ap (λ x. x ++ event ∷ []) (sym (map_at items_of bs to c.index_mut.result.now below c.index_mut.ensures.value)))
    (map_set items_of bs to c.push.new.self)
    c.loop-event.invariant
