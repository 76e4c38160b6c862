use Rattle.std.proofs.Common.{◌≡◌, drop}
use Rattle.ss_network.specs.Network.{same_sizes}
use Rattle.ss_network.proofs.network.same_sizes.Given as goal

abbrev pub invariant-loop-k : goal.invariant-loop-k
invariant-loop-k l = same_sizes l.first l.other ≡ same_sizes (drop l.k l.first) (drop l.k l.other)
