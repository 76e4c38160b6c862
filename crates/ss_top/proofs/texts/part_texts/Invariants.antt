use Rattle.std.proofs.Common.{◌≡◌, ◌++◌, map, drop}
use Rattle.ss_top.specs.Answer.{part_lines}
use Rattle.ss_top.proofs.texts.part_texts.Given as goal

abbrev pub invariant-loop-i : goal.invariant-loop-i
invariant-loop-i l = part_lines l.partition.list 0 l.parts ≡ map (λ t. t.items) l.texts.items ++ part_lines l.partition.list l.i (drop l.i l.parts)
