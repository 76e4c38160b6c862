use Rattle.std.proofs.Common.{◌≡◌, drop}
use Rattle.mr_topo.specs.Grid.{first_difference}
use Rattle.mr_topo.proofs.Rows.{later}
use Rattle.mr_topo.proofs.grid.lowest_difference.Given as goal

abbrev pub invariant-loop-d : goal.invariant-loop-d
invariant-loop-d l = first_difference l.sizes l.fn.a l.fn.b ≡ later l.d (first_difference (drop l.d l.sizes) l.a l.b)
