use Rattle.ss_top.specs.Report.{Lists}
use Rattle.ss_top.proofs.report.push_giver.Given as goal

abbrev pub invariant-loop-taker : goal.invariant-loop-taker
invariant-loop-taker l = Lists l.worker.run l.windows l.giver l.taker l.initial.text.items l.text.items
