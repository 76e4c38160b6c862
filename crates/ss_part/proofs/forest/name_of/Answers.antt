use Rattle.ss_part.proofs.Entries.{follows_on}
use Rattle.ss_part.proofs.forest.name_of.Goals as goal

pub loop-table-preserved : goal.loop-table-preserved
loop-table-preserved c = follows_on c.args.table.now c.loop-table.table c.args.component c.loop-table.at c.loop-table.invariant
