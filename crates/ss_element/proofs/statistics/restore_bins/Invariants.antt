use Rattle.std.proofs.Common.{◌≡◌, length, take, drop}
use Rattle.ss_wire.specs.Form.{each}
use Rattle.ss_wire.proofs.Loops.{with_front}
use Rattle.ss_element.specs.Stored.{field}
use Rattle.ss_element.proofs.statistics.restore_bins.Given as goal

abbrev pub invariant-loop-i : goal.invariant-loop-i
invariant-loop-i l = record {
  long : length l.histogram.bins ≡ length l.initial.histogram.bins;
  same : l.histogram ≡ record l.initial.histogram { bins = l.histogram.bins };
  read : with_front (take l.i l.histogram.bins) ((each (λ n. field 8) (drop l.i l.histogram.bins)).read l.bytes) ≡ (each (λ n. field 8) l.initial.histogram.bins).read l.initial.bytes;
}
