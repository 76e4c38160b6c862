use Rattle.std.proofs.Common.{◌≡◌, ◌++◌, List, length, map, drop}
use Rattle.ss_library.specs.declared.kinds.Any.{Any}
use Rattle.ss_stats.specs.Text.{head}
use Rattle.ss_top.specs.Answer.{stats_rows}
use Rattle.ss_top.specs.Dividing.{AreParts}
use Rattle.ss_top.proofs.Dealing.{Dealt}
use Rattle.ss_top.proofs.sheets.stats_of_lists.Given as goal

abbrev pub invariant-loop-i : goal.invariant-loop-i
invariant-loop-i l = record {
  count : length l.places.items ≡ length l.lists;
  dealt : (left : List Any) → AreParts l.partition.list (map (λ s. s.now) l.lists) left → Dealt l.partition.list (map (λ s. s.now) l.lists) left l.places.items l.i;
  rows : (left : List Any) → AreParts l.partition.list (map (λ s. s.now) l.lists) left → head ++ stats_rows l.parts left ≡ l.text.items ++ stats_rows (drop l.i l.parts) (drop l.i left);
}
