use Rattle.std.proofs.Common.{sym, ap, ◌∙◌}
use Rattle.ss_piece.specs.Pieces.{state_text}
use Rattle.ss_join.proofs.Copies.{copied}
use Rattle.ss_join.proofs.copying.states_of.Goals as goal

pub loop-number-preserved : goal.loop-number-preserved
loop-number-preserved c =
    let x = c.loop-number-item.result in
    let bytes = c.in_ok-bytes.bytes in
    copied state_text c.loop-number.copy.items c.push.new.self.items (x.0, bytes) c.args.states.now c.loop-number.number-index x _
    c.in_ok-push.ensures.items c.loop-number.invariant (ap (λ b. (x.0, b)) (c.in_ok-bytes.ensures ∙ c.deref.ensures.value)) c.loop-number-test.true (sym c.loop-number-item.is)
