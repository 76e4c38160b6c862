use Rattle.std.proofs.Common.{◌≡◌, take, drop}
use Rattle.ss_wire.specs.Form.{each}
use Rattle.ss_wire.proofs.Loops.{with_front}
use Rattle.ss_element.specs.Stored.{field}
use Rattle.mr_router.proofs.listed.restore_slots.Given as goal

abbrev pub invariant-loop-index : goal.invariant-loop-index
invariant-loop-index l = with_front (take l.index l.slots) ((each (λ s. field 2) (drop l.index l.slots)).read l.bytes) ≡ (each (λ s. field 2) l.initial.slots).read l.initial.bytes
