use Rattle.std.proofs.Common.{sym, ap, ◌∙◌}
use Rattle.ss_piece.specs.Pieces.{event_text}
use Rattle.ss_join.proofs.Copies.{copied}
use Rattle.ss_join.proofs.copying.events_of.Goals as goal

pub loop-key-preserved : goal.loop-key-preserved
loop-key-preserved c =
    let x = c.loop-key-item.result in
    let bytes = c.in_ok-bytes.bytes in
    copied event_text c.loop-key.copy.items c.push.new.self.items (x.0, bytes) c.args.events.now c.loop-key.key-index x _
    c.in_ok-push.ensures.items c.loop-key.invariant (ap (λ b. (x.0, b)) (c.in_ok-bytes.ensures ∙ c.deref.ensures.value)) c.loop-key-test.true (sym c.loop-key-item.is)
