use Rattle.std.proofs.Common.{◌≡◌, take, drop}
use Rattle.ss_wire.specs.Form.{each}
use Rattle.ss_wire.proofs.Loops.{with_front}
use Rattle.mr_router.specs.Saved.{port_form}
use Rattle.mr_router.proofs.port.restore_ports.Given as goal

abbrev pub invariant-loop-index : goal.invariant-loop-index
invariant-loop-index l = with_front (take l.index l.ports) ((each port_form (drop l.index l.ports)).read l.bytes) ≡ (each port_form l.initial.ports).read l.initial.bytes
