use Rattle.std.proofs.Common.{◌-◌, ◌≤◌, map}
use Rattle.ss_worker.specs.Batched.{AllEmpty}
use Rattle.ss_worker.proofs.out.no_batches.Given as goal

abbrev pub invariant-loop-left : goal.invariant-loop-left
invariant-loop-left g l = record {
  within : l.left ≤ l.parts;
  empty : AllEmpty (l.parts - l.left) (map (λ b. b.items) l.batches.items);
}

abbrev pub decreases-loop-left : goal.decreases-loop-left
decreases-loop-left g l = l.left
