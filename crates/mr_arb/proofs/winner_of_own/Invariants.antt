use Rattle.std.proofs.Common.{◌-◌, ◌<◌, length}
use Rattle.std.specs.Option.{ForSome}
use Rattle.mr_arb.proofs.Chaining.{IsWalked}
use Rattle.mr_arb.proofs.winner_of_own.Given as goal

abbrev pub invariant-loop-number : goal.invariant-loop-number
invariant-loop-number l = IsWalked l.slots l.output l.turn l.granted l.requests l.number l.best × ForSome l.best (λ b. b.slot < l.slots)

abbrev pub decreases-loop-number : goal.decreases-loop-number
decreases-loop-number l = length l.requests - l.number
