use Rattle.std.proofs.Common.{◌≡◌, ◌<◌, ℕ, not, false, get_or}
use Rattle.ss_graph.specs.declared.graph.Part.{Part}
use Rattle.ss_part.specs.Assigned.{is_placed}
use Rattle.ss_part.proofs.lists.first_misplaced.Given as goal

abbrev pub invariant-loop-c : goal.invariant-loop-c
invariant-loop-c l = (k : ℕ) (d : Part) → k < l.c → not (is_placed l.parts (get_or l.components k d)) ≡ false
