use Rattle.std.proofs.Common.{◌≡◌, ◌≤◌, length, drop}
use Rattle.ss_model.specs.Step.{starts}
use Rattle.ss_serial.proofs.start_events.Given as goal

abbrev pub invariant-loop-line : goal.invariant-loop-line
invariant-loop-line g l = record {
  within : l.line ≤ length l.elements;
  made : l.pending ≡ starts l.line (drop l.line l.elements);
}

abbrev pub decreases-loop-line : goal.decreases-loop-line
decreases-loop-line g l = l.line
