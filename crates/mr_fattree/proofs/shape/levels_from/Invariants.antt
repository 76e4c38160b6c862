use Rattle.std.proofs.Common.{◌≡◌, ◌++◌, ◌*◌, drop}
use Rattle.mr_fattree.specs.Tree.{levels_of}
use Rattle.mr_fattree.proofs.shape.levels_from.Given as goal

abbrev pub invariant-loop-l : goal.invariant-loop-l
invariant-loop-l l = levels_of l.numbers ≡ l.levels.items ++ levels_of (drop (2 * l.l) l.numbers)
