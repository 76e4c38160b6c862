use Rattle.std.proofs.Common.{◌≡◌, take}
use Rattle.mr_router.proofs.listed.narrowed.Given as goal

abbrev pub invariant-loop-slot : goal.invariant-loop-slot
invariant-loop-slot l = l.narrow.items ≡ take l.slot-index l.slots
