use Rattle.std.proofs.Common.{◌≡◌, map, length}
use Rattle.ss_worker.specs.Divided.{AreDivided}
use Rattle.ss_worker.proofs.making.divided.Given as goal

abbrev pub invariant-loop-element : goal.invariant-loop-element
invariant-loop-element g l = record {
  number : l.number ≡ length l.yielded;
  bins : AreDivided l.partition.list l.partition.parts l.yielded (map (λ bin. bin.items) l.bins.items);
}
