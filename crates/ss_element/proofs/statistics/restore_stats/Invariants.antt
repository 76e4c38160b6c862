use Rattle.std.proofs.Common.{◌≡◌, length, take, drop}
use Rattle.ss_wire.specs.Form.{each}
use Rattle.ss_wire.proofs.Loops.{with_front}
use Rattle.ss_element.specs.Stored.{entry_form}
use Rattle.ss_element.proofs.statistics.restore_stats.Given as goal

abbrev pub invariant-loop-index : goal.invariant-loop-index
invariant-loop-index l = record {
  long : length l.set ≡ length l.initial.set;
  read : with_front (take l.index l.set) ((each entry_form (drop l.index l.set)).read l.bytes) ≡ (each entry_form l.initial.set).read l.initial.bytes;
}
