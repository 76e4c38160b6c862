use Rattle.std.proofs.Common.{◌≡◌}
use Rattle.ss_model.specs.Order.{insert_all}
use Rattle.ss_worker.proofs.insert_events.Given as goal

abbrev pub invariant-loop-event : goal.invariant-loop-event
invariant-loop-event g l = l.pending ≡ insert_all l.yielded l.initial.pending
