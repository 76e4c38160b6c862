use Rattle.std.proofs.Common.{◌≡◌, length}
use Rattle.ss_worker.proofs.worker.make_room.Given as goal

abbrev pub invariant-loop : goal.invariant-loop
invariant-loop l = length l.pieces.items ≡ l.counter
