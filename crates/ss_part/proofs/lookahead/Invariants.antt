use Rattle.std.proofs.Common.{◌≡◌, map}
use Rattle.std.specs.Prelude.{filter}
use Rattle.std.specs.List.{range_with_len}
use Rattle.ss_graph.specs.Fit.{lat}
use Rattle.ss_part.specs.Cut.{least, crosses}
use Rattle.ss_part.proofs.lookahead.Given as goal

abbrev pub invariant-loop-line : goal.invariant-loop-line
invariant-loop-line l = l.least ≡ least (map (lat l.graph) (filter (crosses l.graph l.partition.list) (range_with_len 0 l.line)))
