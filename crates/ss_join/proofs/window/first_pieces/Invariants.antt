use Rattle.std.proofs.Common.{map}
use Rattle.ss_piece.specs.Pieces.{slip}
use Rattle.ss_join.proofs.Checkpoints.{FirstUpto}
use Rattle.ss_join.proofs.window.first_pieces.Given as goal

abbrev pub invariant-loop-worker : goal.invariant-loop-worker
invariant-loop-worker g l = FirstUpto g.E.Element.kind g.E.Element.saving g.E.Simulated.meaning g.run l.worker-index (map slip l.pieces.items)
