use Rattle.std.proofs.Common.{sym}
use Rattle.ss_piece.specs.Pieces.{slip}
use Rattle.ss_join.proofs.Copies.{copied}
use Rattle.ss_join.proofs.copying.pieces_of.Goals as goal

pub loop-piece-preserved : goal.loop-piece-preserved
loop-piece-preserved c =
    copied slip c.loop-piece.copy.items c.push.new.self.items c.in_ok-piece.piece c.args.pieces.now c.loop-piece.piece-index c.piece-item.result _
    c.in_ok-push.ensures.items c.loop-piece.invariant c.in_ok-piece.ensures c.loop-piece-test.true (sym c.piece-item.is)
