use Rattle.std.proofs.Common.{ℕ, ◌<◌}
use Rattle.ss_ckpt.specs.Views.{state_of}
use Rattle.ss_safe.specs.Sound.{FlowSound}
use Rattle.ss_restart.proofs.flows.line_matches.Given as goal

abbrev pub invariant-loop-channel : goal.invariant-loop-channel
invariant-loop-channel g l = (ch : ℕ) → ch < l.channel → FlowSound g.E.Element.kind l.saved.model.wires l.saved.time (state_of l.saved) l.line ch
