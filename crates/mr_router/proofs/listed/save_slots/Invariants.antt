use Rattle.std.proofs.Common.{◌≡◌, ◌++◌, take}
use Rattle.std.specs.List.{flat_map}
use Rattle.ss_wire.specs.Form.{big_bytes}
use Rattle.mr_router.proofs.listed.save_slots.Given as goal

abbrev pub invariant-loop-index : goal.invariant-loop-index
invariant-loop-index l = l.out ≡ l.initial.out ++ flat_map (big_bytes 2) (take l.index l.slots)
