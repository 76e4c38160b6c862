use Rattle.std.proofs.Common.{◌≡◌, ◌++◌, drop}
use Rattle.serde_json.specs.View.{items_view}
use Rattle.ss_graph.specs.Checks.{first_fault}
use Rattle.ss_graph.specs.Statistics.{each_stat_checks, stats_of}
use Rattle.ss_graph.proofs.statistic.each_stat_at.Given as goal

abbrev pub invariant-loop-i : goal.invariant-loop-i
invariant-loop-i l = record {
  checked : first_fault (each_stat_checks l.index 0 (items_view l.values)) ≡ first_fault (each_stat_checks l.index l.i (items_view (drop l.i l.values)));
  made : l.stats.items ++ stats_of (items_view (drop l.i l.values)) ≡ stats_of (items_view l.values);
}
