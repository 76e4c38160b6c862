use Rattle.std.proofs.Common.{max, sym, ap, ◌∙◌}
use Rattle.ss_compose.proofs.Gathered.{last_more}
use Rattle.ss_compose.proofs.composing.last_of.Goals as goal

pub loop-piece-preserved : goal.loop-piece-preserved
loop-piece-preserved c =
    let p = c.piece-item.result in
    c.max-last.ensures
    ∙ ap (max p.last) c.loop-piece.invariant
    ∙ sym (last_more c.args.pieces.now c.loop-piece.piece-index p _ c.loop-piece-test.true (sym c.piece-item.is))
