use Rattle.std.proofs.Common.{map}
use Rattle.ss_worker.specs.Batched.{AreBatches}
use Rattle.ss_worker.proofs.out.sort_out.Given as goal

abbrev pub invariant-loop-event : goal.invariant-loop-event
invariant-loop-event g l = AreBatches l.wires l.owners l.parts l.yielded (map (λ b. b.items) l.batches.items)
