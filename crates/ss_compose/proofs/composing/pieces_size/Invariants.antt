use Rattle.std.proofs.Common.{◌≡◌, ◌^◌, ◌-◌, map, take, min}
use Rattle.std.specs.Prelude.{sum_by}
use Rattle.ss_piece.specs.Pieces.{slip}
use Rattle.ss_compose.specs.Compose.{slip_size}
use Rattle.ss_compose.proofs.composing.pieces_size.Given as goal

abbrev pub invariant-loop-piece : goal.invariant-loop-piece
invariant-loop-piece l = l.total ≡ min (sum_by slip_size (map slip (take l.piece-index l.pieces))) (2 ^ 64 - 1)
