use Rattle.std.proofs.Common.{◌≡◌, ◌++◌, drop}
use Rattle.ss_stats.specs.Sheet.{IsReady, written}
use Rattle.ss_stats.specs.Text.{rows, bin_fields}
use Rattle.ss_stats.proofs.text.write_bins.Given as goal

-- what is written, with what is left to write
abbrev pub invariant-loop-i : goal.invariant-loop-i
invariant-loop-i l = record {
  ready : IsReady l.sheet;
  text : written l.sheet ++ rows l.component l.statistic (bin_fields l.i (drop l.i l.histogram.bins)) ≡ written l.initial.sheet ++ rows l.component l.statistic (bin_fields 0 l.histogram.bins);
}
