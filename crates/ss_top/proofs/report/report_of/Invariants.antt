use Rattle.ss_top.specs.Report.{ListsAll, windows_line}
use Rattle.ss_top.proofs.report.report_of.Given as goal

abbrev pub invariant-loop-giver : goal.invariant-loop-giver
invariant-loop-giver l = ListsAll l.run l.windows l.giver (windows_line l.windows) l.text.items
