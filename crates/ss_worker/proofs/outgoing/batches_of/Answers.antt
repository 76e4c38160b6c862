use Rattle.ss_piece.specs.Pieces.{slip}
use Rattle.std.proofs.Common.{option_map, Some, sym, ap, ◌∙◌, arith}
use Rattle.std.proofs.lemmas.List.{length-set}
use Rattle.ss_worker.proofs.Batches.{map_at, items_of}
use Rattle.ss_worker.proofs.Outgoings.{tells_same, hands_same, none_same, names_push, others_stay, if_same}
use Rattle.ss_worker.proofs.outgoing.batches_of.Goals as goal

pub loop-taker-preserved-then-taker-part : goal.loop-taker-preserved-then-taker-part
loop-taker-preserved-then-taker-part g c =
    let i = c.loop-taker.invariant in
    record {
      names = names_push _ c.args.run.now.value c.args.part c.args.number c.loop-taker.taker c.loop-taker.batches.items c.push.new.self.items _ c.in_ok-push.ensures.items i.names (λ ne. absurd (ne c.if-taker-part.true));
      count = i.count;
      next = i.next;
      idle = i.idle;
      rest = λ q le. i.rest q (omega (arith, le));
      lines = λ z. absurd (omega (arith, z));
      piece = λ z. absurd (omega (arith, z));
    }

pub batch_of-requires-clause-told : goal.batch_of-requires-clause-told
batch_of-requires-clause-told g c =
    let i = c.loop-taker.invariant in
    let q = c.loop-taker.taker in
    let o = c.loop-taker.outgoing in
    tells_same g.E.Element.kind g.E.Simulated.meaning c.args.run.now.value c.args.part q c.args.number c.args.outgoing.next o.next c.args.outgoing.idle o.idle _ c.replace-events.result.items _ c.lines_for-lines.result.items
    (sym i.next) (sym i.idle)
    (sym (i.rest q (omega arith)) ∙ map_at items_of o.batches.items q c.index_mut.result.now (omega (arith, i.count)) c.index_mut.ensures.value ∙ ap items_of (sym c.replace-events.ensures.value))
    (if_same q c.args.outgoing.lines.items o.lines.items (λ z. sym (i.lines z)) ∙ sym c.lines_for-lines.ensures)
    (c.requires.told q (omega arith) c.if-taker-part.false)

pub batch_of-requires-clause-hands : goal.batch_of-requires-clause-hands
batch_of-requires-clause-hands g c =
    let i = c.loop-taker.invariant in
    let q = c.loop-taker.taker in
    hands_same g.E.Element.kind g.E.Element.saving g.E.Simulated.meaning c.args.run.now.value c.args.part q c.args.number _ (option_map slip c.piece_for-piece.result)
    (none_same q (option_map slip c.args.outgoing.piece) (option_map slip c.loop-taker.outgoing.piece) (λ z. sym (i.piece z)) ∙ sym c.piece_for-piece.ensures.piece)
    (c.requires.hands q (omega arith) c.if-taker-part.false)

pub loop-taker-preserved : goal.loop-taker-preserved
loop-taker-preserved g c =
    let i = c.loop-taker.invariant in
    record {
      names = names_push _ c.args.run.now.value c.args.part c.args.number c.loop-taker.taker c.loop-taker.batches.items c.push-in-loop-taker.new.self.items _ c.in_ok-push-2.ensures.items i.names (λ ne. ap (λ y. Some y) c.in_ok-batch.ensures);
      count = length-set _ _ _ ∙ i.count;
      next = i.next;
      idle = i.idle;
      rest = λ q le. others_stay items_of c.loop-taker.outgoing.batches.items c.loop-taker.taker q _ le ∙ i.rest q (omega (arith, le));
      lines = λ z. absurd (omega (arith, z));
      piece = λ z. absurd (omega (arith, z));
    }
