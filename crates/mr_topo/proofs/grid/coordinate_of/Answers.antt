use Rattle.std.proofs.Common.{sym}
use Rattle.mr_topo.proofs.Rows.{coordinate-stride}
use Rattle.mr_topo.proofs.grid.coordinate_of.Goals as goal

pub returns-clause-value : goal.returns-clause-value
returns-clause-value c = rw c.stride_of.ensures.value (sym (coordinate-stride c.args.sizes.now c.args.router c.args.dimension c.requires.inside))
