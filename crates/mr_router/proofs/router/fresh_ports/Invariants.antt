use Rattle.std.proofs.Common.{◌≡◌, take}
use Rattle.mr_router.specs.Fresh.{fresh_ports}
use Rattle.mr_router.proofs.router.fresh_ports.Given as goal

abbrev pub invariant-loop-index : goal.invariant-loop-index
invariant-loop-index l = l.ports.items ≡ fresh_ports l.set 0 (take l.index l.rooms)
