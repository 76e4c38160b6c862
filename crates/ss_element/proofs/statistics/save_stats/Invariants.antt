use Rattle.std.proofs.Common.{◌≡◌, ◌++◌, take}
use Rattle.ss_element.specs.Stored.{stats_text}
use Rattle.ss_element.proofs.statistics.save_stats.Given as goal

abbrev pub invariant-loop-index : goal.invariant-loop-index
invariant-loop-index l = l.out ≡ l.initial.out ++ stats_text (take l.index l.set)
