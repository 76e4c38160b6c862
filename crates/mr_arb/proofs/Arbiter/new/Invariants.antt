use Rattle.std.proofs.Common.{◌≡◌, replicate}
use Rattle.mr_arb.specs.Arbitrating.{turn_of}
use Rattle.mr_arb.proofs.Arbiter.new.Given as goal

abbrev pub invariant-loop-output : goal.invariant-loop-output
invariant-loop-output l = l.turns.items ≡ replicate l._output (turn_of l.kind l.slots)
