use Rattle.std.proofs.Common.{sym, ap}
use Rattle.ss_piece.specs.Pieces.{event_text, event_spelled}
use Rattle.ss_piece.proofs.Mapped.{grown}
use Rattle.ss_piece.proofs.events_of.Goals as goal

pub loop-event-preserved : goal.loop-event-preserved
loop-event-preserved g c =
    let x = c.event-item.result in
    let bytes = c.in_ok-bytes.bytes in
    grown event_text (event_spelled g.E.Element.saving) c.loop-event.texts.items c.push.new.self.items (x.key, bytes) c.args.events.now c.loop-event.event-index x _
    c.in_ok-push.ensures.items c.loop-event.invariant (ap (λ b. (x.key, b)) c.in_ok-bytes.ensures) c.loop-event-test.true (sym c.event-item.is)
