use Rattle.std.proofs.Common.{map, length}
use Rattle.ss_piece.specs.Pieces.{slip}
use Rattle.ss_compose.specs.Compose.{composed}
use Rattle.ss_top.proofs.Saving.{too_large, within, too_many}
use Rattle.ss_top.proofs.doing.limit_passed.Goals as goal

pub returns-then-size-gt-MOST_BYTES : goal.returns-then-size-gt-MOST_BYTES
returns-then-size-gt-MOST_BYTES c = λ time. too_large c.args.count (length (composed c.args.graph.now time (map slip c.args.pieces.now))) c.length-size.result (c.length-size.ensures time) c.if-size-gt-MOST_BYTES.true

pub returns-then-count-lt-MOST_KEPT : goal.returns-then-count-lt-MOST_KEPT
returns-then-count-lt-MOST_KEPT c = λ time. within c.args.count (length (composed c.args.graph.now time (map slip c.args.pieces.now))) c.length-size.result (c.length-size.ensures time) c.if-size-gt-MOST_BYTES.false c.if-count-lt-MOST_KEPT.true

pub returns-else-count-lt-MOST_KEPT : goal.returns-else-count-lt-MOST_KEPT
returns-else-count-lt-MOST_KEPT c = λ time. too_many c.args.count (length (composed c.args.graph.now time (map slip c.args.pieces.now))) c.length-size.result (c.length-size.ensures time) c.if-size-gt-MOST_BYTES.false c.if-count-lt-MOST_KEPT.false
