use Rattle.std.proofs.Common.{◌≡◌, ◌++◌, map, take}
use Rattle.ss_piece.specs.Pieces.{slip, state_text}
use Rattle.ss_compose.specs.Compose.{joined}
use Rattle.ss_compose.proofs.merging.gather_all.Given as goal

abbrev pub invariant-loop-piece : goal.invariant-loop-piece
invariant-loop-piece l = map (λ x. state_text x.now) l.all.items ≡ map (λ x. state_text x.now) l.fn.all.items ++ joined (map slip (take l.piece-index l.pieces))
