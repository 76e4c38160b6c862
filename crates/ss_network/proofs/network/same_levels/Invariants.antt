use Rattle.std.proofs.Common.{◌≡◌, drop}
use Rattle.ss_network.specs.Network.{same_levels}
use Rattle.ss_network.proofs.network.same_levels.Given as goal

abbrev pub invariant-loop-k : goal.invariant-loop-k
invariant-loop-k l = same_levels l.first l.other ≡ same_levels (drop l.k l.first) (drop l.k l.other)
