use Rattle.std.proofs.Common.{◌-◌}
use Rattle.ss_restart.proofs.Places.{Searched}
use Rattle.ss_restart.proofs.ticks.is_among.Given as goal

abbrev pub invariant-loop-low : goal.invariant-loop-low
invariant-loop-low g l = Searched l.events l.key l.low l.high

abbrev pub decreases-loop-low : goal.decreases-loop-low
decreases-loop-low g l = l.high - l.low
