use Rattle.std.proofs.Common.{◌≡◌, ◌++◌, drop}
use Rattle.ss_stats.specs.Sheet.{IsReady, written}
use Rattle.ss_stats.specs.Text.{set_rows}
use Rattle.ss_stats.proofs.text.write_set.Given as goal

-- what is written, with what is left to write
abbrev pub invariant-loop-entry : goal.invariant-loop-entry
invariant-loop-entry l = record {
  ready : IsReady l.sheet;
  text : written l.sheet ++ set_rows l.component (drop l.entry-index l.entry-items) ≡ written l.initial.sheet ++ set_rows l.component l.entry-items;
}
