use Rattle.std.proofs.Common.{◌≡◌, ◌*◌, ◌/◌, map}
use Rattle.std.specs.List.{range_with_len}
use Rattle.ss_part.proofs.lists.linear.Given as goal

abbrev pub invariant-loop-c : goal.invariant-loop-c
invariant-loop-c l = l.list.items ≡ map (λ c. c * l.parts / l.count) (range_with_len 0 l.c)
