use Rattle.std.proofs.Common.{◌≡◌, true, map, take}
use Rattle.std.specs.List.{list_all}
use Rattle.mr_router.specs.Turns.{turn_read, turn_fits}
use Rattle.mr_router.proofs.listed.all_fit.Given as goal

abbrev pub invariant-loop-index : goal.invariant-loop-index
invariant-loop-index l = list_all (turn_fits l.slots) (map turn_read (take l.index l.turns)) ≡ true
