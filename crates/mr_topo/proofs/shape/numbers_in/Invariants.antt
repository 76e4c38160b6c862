use Rattle.std.proofs.Common.{◌≡◌, ◌≤◌, false, drop}
use Rattle.mr_topo.specs.Shape.{is_digit}
use Rattle.mr_topo.specs.Shape.{reading, behind}
use Rattle.mr_topo.proofs.shape.numbers_in.Given as goal

abbrev pub invariant-loop-c : goal.invariant-loop-c
invariant-loop-c l = (reading l.first l.second 0 l.text ≡ behind l.numbers.items (reading l.next l.other l.current (drop l.c-index l.text))) × (l.current ≤ 256) × (is_digit l.next ≡ false) × (is_digit l.other ≡ false)
