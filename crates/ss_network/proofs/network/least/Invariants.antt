use Rattle.std.proofs.Common.{◌≡◌, ◌≤◌, ◌^◌, drop, min}
use Rattle.ss_network.specs.Network.{least}
use Rattle.ss_network.proofs.network.least.Given as goal

abbrev pub invariant-loop-member : goal.invariant-loop-member
invariant-loop-member l = (least l.members ≡ min l.flits (least (drop l.member-index l.members))) × (l.flits ≤ 2 ^ 20)
