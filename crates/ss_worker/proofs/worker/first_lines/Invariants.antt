use Rattle.std.proofs.Common.{◌≤◌, map}
use Rattle.ss_worker.specs.Outgoing.{HasFirst}
use Rattle.ss_worker.proofs.worker.first_lines.Given as goal

abbrev pub invariant-loop : goal.invariant-loop
invariant-loop l = record {
  from : 1 ≤ l.counter;
  first : HasFirst l.counter l.fn.lines.items (map (λ x. x.items) l.lists.items);
}
