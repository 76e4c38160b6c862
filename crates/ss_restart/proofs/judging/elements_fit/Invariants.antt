use Rattle.std.proofs.Common.{ℕ, ◌<◌}
use Rattle.ss_ckpt.specs.Views.{state_of}
use Rattle.ss_safe.specs.Sound.{ElementSound}
use Rattle.ss_restart.proofs.judging.elements_fit.Given as goal

abbrev pub invariant-loop-component : goal.invariant-loop-component
invariant-loop-component g l = (c : ℕ) → c < l.component → ElementSound g.E.Element.kind l.saved.model.wires l.saved.time (state_of l.saved) c
