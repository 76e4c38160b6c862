use Rattle.std.proofs.Common.{ℕ, ◌<◌}
use Rattle.ss_ckpt.specs.Views.{state_of}
use Rattle.ss_safe.specs.Sound.{TimeSound}
use Rattle.ss_restart.proofs.judging.times_fit.Given as goal

abbrev pub invariant-loop-event : goal.invariant-loop-event
invariant-loop-event g l = (i : ℕ) → i < l.event → TimeSound g.E.Element.kind l.saved.model.wires l.saved.time (state_of l.saved) i
