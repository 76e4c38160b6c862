use Rattle.std.proofs.Common.{◌≡◌, ◌++◌}
use Rattle.ss_stats.specs.Text.{head}
use Rattle.ss_top.specs.Answer.{stats_rows}
use Rattle.ss_top.proofs.sheets.stats_of.Given as goal

abbrev pub invariant-loop-part : goal.invariant-loop-part
invariant-loop-part l = head ++ stats_rows l.parts l.elements ≡ l.text.items ++ stats_rows l.part-iterator.a.rest.now l.part-iterator.b.rest.now
