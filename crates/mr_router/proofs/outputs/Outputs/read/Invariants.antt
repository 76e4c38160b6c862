use Rattle.std.proofs.Common.{◌≡◌, length, map, drop}
use Rattle.ss_wire.specs.Form.{each}
use Rattle.ss_wire.proofs.Loops.{with_front}
use Rattle.mr_router.specs.Turns.{turn_read, turn_form}
use Rattle.mr_router.proofs.outputs.Outputs.read.Given as goal

abbrev pub invariant-loop-output : goal.invariant-loop-output
invariant-loop-output l = record {
  long : length l.turns.items ≡ l.output;
  read : with_front (map turn_read l.turns.items) ((each turn_form (drop l.output l.self.turns)).read l.bytes) ≡ (each turn_form l.self.turns).read l.initial.bytes;
}
