use Rattle.std.proofs.Common.{sym, ◌∙◌, arith}
use Rattle.mr_topo.proofs.Rows.{later-first, difference-same, difference-at, difference-end}
use Rattle.mr_topo.proofs.grid.lowest_difference.Goals as goal

pub loop-d-init : goal.loop-d-init
loop-d-init c = sym (later-first _)

pub returns-then-a-size : goal.returns-then-a-size
returns-then-a-size c = sym (c.loop-d.invariant ∙ difference-at c.args.sizes.now c.loop-d.d c.loop-d.a c.loop-d.b c.loop-d-test.true c.if-a-size.true)

pub loop-d-preserved : goal.loop-d-preserved
loop-d-preserved c = c.loop-d.invariant ∙ difference-same c.args.sizes.now c.loop-d.d c.loop-d.a c.loop-d.b c.loop-d-test.true c.if-a-size.false

pub returns : goal.returns
returns c = sym (c.loop-d.invariant ∙ difference-end c.args.sizes.now c.loop-d.d c.loop-d.a c.loop-d.b (omega arith))
