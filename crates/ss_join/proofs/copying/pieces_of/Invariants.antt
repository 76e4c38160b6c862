use Rattle.std.proofs.Common.{◌≡◌, map, take}
use Rattle.ss_piece.specs.Pieces.{slip}
use Rattle.ss_join.proofs.copying.pieces_of.Given as goal

abbrev pub invariant-loop-piece : goal.invariant-loop-piece
invariant-loop-piece l = map slip l.copy.items ≡ map slip (take l.piece-index l.pieces)
