use Rattle.std.proofs.Common.{◌≡◌, take}
use Rattle.mr_router.proofs.listed.widened.Given as goal

abbrev pub invariant-loop-slot : goal.invariant-loop-slot
invariant-loop-slot l = l.wide.items ≡ take l.slot-index l.slots
