use Rattle.std.proofs.Common.{◌≡◌, ◌≤◌, ◌^◌, take}
use Rattle.mr_fattree.specs.Tree.{ups}
use Rattle.mr_fattree.proofs.levels.ups_of.Given as goal

abbrev pub invariant-loop-level : goal.invariant-loop-level
invariant-loop-level l = (l.product ≡ ups (take l.level-index l.levels)) × (l.product ≤ 256 ^ l.level-index)
