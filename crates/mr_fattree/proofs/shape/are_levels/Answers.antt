use Rattle.std.proofs.Common.{below_more, arith, rules}
use Rattle.mr_fattree.proofs.Shapes.{level_read, level_there}
use Rattle.mr_fattree.proofs.shape.are_levels.Goals as goal

pub returns-then-not-is_level : goal.returns-then-not-is_level
returns-then-not-is_level c = (
  λ t. absurd (grind (arith, t)),
  λ h. c.if-not-is_level.ensures.1 (level_there c.args.levels.now c.loop-l.l (record { down = 0; up = 0 }) _ c.loop-l-test.true (h c.loop-l.l c.loop-l-test.true)),
)

pub loop-l-preserved : goal.loop-l-preserved
loop-l-preserved c = below_more _ _ c.loop-l.invariant (level_read c.args.levels.now c.loop-l.l (record { down = 0; up = 0 }) _ c.loop-l-test.true (c.if-not-is_level.ensures.0 (search rules)))
