use Rattle.std.proofs.Common.{ℕ, List, IsTrue, false, sym, subst, arith}
use Rattle.mr_topo.specs.Grid.{IsGrid}
use Rattle.mr_topo.proofs.Shapes.{shape_once}
use Rattle.mr_topo.proofs.grid.sizes_in.Goals as goal

pub returns-else-is_grid-clause-form : goal.returns-else-is_grid-clause-form
returns-else-is_grid-clause-form c = λ e g l h.
    let k = shape_once g c.in_ok-sizes.sizes.items c.args.shape.now c.args.local_ports h l c.in_ok-sizes.ensures.ok in
    let t : IsTrue false = c.if-is_grid.ensures.1 (subst (λ (xs : List ℕ). IsGrid (record { sizes = xs; local_ports = c.args.local_ports })) (sym c.deref.ensures.value) k) in
    grind (arith, t)
