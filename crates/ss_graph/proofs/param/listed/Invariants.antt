use Rattle.std.proofs.Common.{◌≡◌, ◌++◌, length}
use Rattle.ss_graph.specs.Components.{seen_params}
use Rattle.ss_graph.proofs.param.listed.Given as goal

abbrev pub invariant-loop-name : goal.invariant-loop-name
invariant-loop-name l = l.list.items ++ seen_params l.params.entries ≡ seen_params l.initial.params.entries

abbrev pub decreases-loop-name : goal.decreases-loop-name
decreases-loop-name l = length l.params.entries
