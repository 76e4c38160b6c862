use Rattle.std.proofs.Common.{ℕ, ◌<◌}
use Rattle.ss_ckpt.specs.Views.{state_of}
use Rattle.ss_safe.specs.Sound.{FlowSound}
use Rattle.ss_restart.proofs.flows.flows_match.Given as goal

abbrev pub invariant-loop-line : goal.invariant-loop-line
invariant-loop-line g l = (n : ℕ) → n < l.line → (ch : ℕ) → FlowSound g.E.Element.kind l.saved.model.wires l.saved.time (state_of l.saved) n ch
