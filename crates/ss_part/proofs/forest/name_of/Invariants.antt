use Rattle.ss_part.proofs.Entries.{Follows}
use Rattle.ss_part.proofs.forest.name_of.Given as goal

abbrev pub invariant-loop-table : goal.invariant-loop-table
invariant-loop-table l = Follows l.fn.table l.table l.component l.at

abbrev pub decreases-loop-table : goal.decreases-loop-table
decreases-loop-table l = l.at
