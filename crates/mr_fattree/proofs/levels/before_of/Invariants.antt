use Rattle.std.proofs.Common.{◌≡◌, ◌≤◌, ◌*◌, ◌^◌}
use Rattle.mr_fattree.specs.Tree.{before}
use Rattle.mr_fattree.proofs.levels.before_of.Given as goal

abbrev pub invariant-loop-l : goal.invariant-loop-l
invariant-loop-l l = (l.sum ≡ before l.levels l.l) × (l.sum ≤ l.l * 2 ^ 48)
