use Rattle.std.proofs.Common.{◌≡◌, ◌<◌, take}
use Rattle.std.specs.Option.{ForSome}
use Rattle.mr_arb.specs.Arbitrating.{free, winner}
use Rattle.mr_arb.proofs.winner_of_all.Given as goal

abbrev pub invariant-loop-request : goal.invariant-loop-request
invariant-loop-request l = (l.best ≡ winner l.slots l.output l.turn (free l.granted (take l.request-index l.requests))) × ForSome l.best (λ b. b.slot < l.slots)
