use Rattle.std.proofs.Common.{◌≡◌, map, take}
use Rattle.ss_piece.specs.Pieces.{slip}
use Rattle.ss_compose.specs.Compose.{last_of}
use Rattle.ss_compose.proofs.composing.last_of.Given as goal

abbrev pub invariant-loop-piece : goal.invariant-loop-piece
invariant-loop-piece l = l.last ≡ last_of (map slip (take l.piece-index l.pieces))
