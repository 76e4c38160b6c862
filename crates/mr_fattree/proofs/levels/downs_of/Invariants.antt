use Rattle.std.proofs.Common.{◌≡◌, ◌≤◌, ◌^◌, take}
use Rattle.mr_fattree.specs.Tree.{downs}
use Rattle.mr_fattree.proofs.levels.downs_of.Given as goal

abbrev pub invariant-loop-level : goal.invariant-loop-level
invariant-loop-level l = (l.product ≡ downs (take l.level-index l.levels)) × (l.product ≤ 256 ^ l.level-index)
