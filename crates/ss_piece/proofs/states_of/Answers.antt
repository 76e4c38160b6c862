use Rattle.std.proofs.Common.{sym, ap}
use Rattle.ss_piece.specs.Pieces.{state_text, state_spelled}
use Rattle.ss_piece.proofs.Mapped.{grown}
use Rattle.ss_piece.proofs.states_of.Goals as goal

pub loop-number-preserved : goal.loop-number-preserved
loop-number-preserved g c =
    let x = c.loop-number-item.result in
    let bytes = c.in_ok-bytes.bytes in
    grown state_text (state_spelled g.E.Element.saving) c.loop-number.states.items c.push.new.self.items (x.0, bytes) c.args.elements.now c.loop-number.number-index x _
    c.in_ok-push.ensures.items c.loop-number.invariant (ap (λ b. (x.0, b)) c.in_ok-bytes.ensures) c.loop-number-test.true (sym c.loop-number-item.is)
