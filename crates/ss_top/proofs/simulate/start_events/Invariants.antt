use Rattle.std.proofs.Common.{◌≡◌, ◌++◌, drop}
use Rattle.ss_model.specs.Step.{starts}
use Rattle.mr_flow.specs.declared.Load.{Load}
use Rattle.ss_top.proofs.simulate.start_events.Given as goal

abbrev pub invariant-loop-line : goal.invariant-loop-line
invariant-loop-line l = starts {L = Load} 0 l.elements ≡ l.events.items ++ starts {L = Load} l.line (drop l.line l.elements)
