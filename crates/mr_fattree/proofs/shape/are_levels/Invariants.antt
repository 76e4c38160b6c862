use Rattle.std.proofs.Common.{ℕ, ◌<◌, ◌+◌, ◌==◌, length}
use Rattle.mr_fattree.specs.Tree.{IsLevel, down_at, up_at}
use Rattle.mr_fattree.proofs.shape.are_levels.Given as goal

abbrev pub invariant-loop-l : goal.invariant-loop-l
invariant-loop-l l = (k : ℕ) → k < l.l → IsLevel (down_at l.levels k) (up_at l.levels k) (k + 1 == length l.levels)
