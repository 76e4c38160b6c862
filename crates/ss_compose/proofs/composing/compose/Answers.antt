use Rattle.std.proofs.Common.{map}
use Rattle.ss_piece.specs.Pieces.{slip}
use Rattle.ss_compose.proofs.Sizes.{small_parts}
use Rattle.ss_compose.proofs.composing.compose.Goals as goal

pub write_all-requires-clause-few : goal.write_all-requires-clause-few
write_all-requires-clause-few c = (small_parts c.args.graph.now c.args.at (map slip c.args.pieces.now) c.requires.small).1
