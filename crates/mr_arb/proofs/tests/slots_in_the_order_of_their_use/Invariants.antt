use Rattle.std.proofs.Common.{◌≡◌, length}
use Rattle.mr_arb.proofs.tests.slots_in_the_order_of_their_use.Given as goal

abbrev pub invariant-loop-slot : goal.invariant-loop-slot
invariant-loop-slot g l = (length l.arbiter.turns ≡ 1) × (l.arbiter.slots ≡ 4) × (length l.grants ≡ 1)
