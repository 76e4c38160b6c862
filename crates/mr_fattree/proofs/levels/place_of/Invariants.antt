use Rattle.std.proofs.Common.{◌≡◌, ◌-◌, length}
use Rattle.mr_fattree.specs.Tree.{place_of, place_from}
use Rattle.mr_fattree.proofs.levels.place_of.Given as goal

abbrev pub invariant-loop-level : goal.invariant-loop-level
invariant-loop-level l = place_of l.levels l.router ≡ place_from l.levels l.level (length l.levels - l.level) l.left
