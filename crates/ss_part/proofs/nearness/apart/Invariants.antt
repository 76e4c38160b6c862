use Rattle.std.proofs.Common.{◌≡◌, length}
use Rattle.std.specs.List.{range_with_len}
use Rattle.ss_part.proofs.nearness.apart.Given as goal

abbrev pub invariant-loop-component : goal.invariant-loop-component
invariant-loop-component l = (l.table.items ≡ range_with_len 0 l.component) × (length l.table.items ≡ l.component)
