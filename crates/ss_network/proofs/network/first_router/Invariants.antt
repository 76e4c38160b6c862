use Rattle.std.proofs.Common.{◌≡◌, drop}
use Rattle.ss_network.specs.Network.{first_router}
use Rattle.ss_network.proofs.network.first_router.Given as goal

abbrev pub invariant-loop-member : goal.invariant-loop-member
invariant-loop-member l = first_router l.members ≡ first_router (drop l.member-index l.members)
