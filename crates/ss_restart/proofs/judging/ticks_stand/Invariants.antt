use Rattle.std.proofs.Common.{ℕ, ◌<◌}
use Rattle.ss_ckpt.specs.Views.{state_of}
use Rattle.ss_safe.specs.Sound.{TickSound}
use Rattle.ss_restart.proofs.judging.ticks_stand.Given as goal

abbrev pub invariant-loop-clock : goal.invariant-loop-clock
invariant-loop-clock g l = (n : ℕ) → n < l.clock → TickSound g.E.Element.kind l.saved.model.wires l.saved.time (state_of l.saved) n
