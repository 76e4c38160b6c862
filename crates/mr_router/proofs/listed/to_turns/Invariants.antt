use Rattle.std.proofs.Common.{◌≡◌, map, take}
use Rattle.mr_router.specs.Turns.{turn_read}
use Rattle.mr_router.proofs.listed.to_turns.Given as goal

abbrev pub invariant-loop-index : goal.invariant-loop-index
invariant-loop-index l = l.all.items ≡ map turn_read (take l.index l.turns)
