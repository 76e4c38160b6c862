use Rattle.std.proofs.Common.{◌≡◌, length, take, drop}
use Rattle.ss_wire.specs.Form.{each}
use Rattle.ss_wire.proofs.Loops.{with_front}
use Rattle.ss_element.specs.Stored.{field}
use Rattle.mr_nic.proofs.numbers.Numbers.restore.Given as goal

abbrev pub invariant-loop-index : goal.invariant-loop-index
invariant-loop-index l = record {
  long : length l.self ≡ length l.initial.self;
  read : with_front (take l.index l.self) ((each (λ n. field 8) (drop l.index l.self)).read l.bytes) ≡ (each (λ n. field 8) l.initial.self).read l.initial.bytes;
}
