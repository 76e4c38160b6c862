use Rattle.std.proofs.Common.{arith}
use Rattle.mr_topo.proofs.Rows.{stride_product}
use Rattle.mr_topo.proofs.grid.placed_at.Goals as goal

pub overflow_sub-result : goal.overflow_sub-result
overflow_sub-result c =
    let p = stride_product c.args.sizes.now c.args.router c.args.dimension c.args.x c.stride_of-stride.result c.requires.sized c.requires.inside c.requires.router c.requires.coordinate c.stride_of-stride.ensures.value in
    rw c.coordinate_of-at.ensures.value (omega (arith, p.0))

pub returns-clause-fits : goal.returns-clause-fits
returns-clause-fits c =
    let p = stride_product c.args.sizes.now c.args.router c.args.dimension c.args.x c.stride_of-stride.result c.requires.sized c.requires.inside c.requires.router c.requires.coordinate c.stride_of-stride.ensures.value in
    rw c.coordinate_of-at.ensures.value (omega (arith, p.0, p.1))
