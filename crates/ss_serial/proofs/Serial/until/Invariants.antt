use Rattle.ss_element.specs.World.{IsSafe}
use Rattle.ss_serial.specs.Serial.{Runs}
use Rattle.ss_serial.proofs.Steps.{steps_left}
use Rattle.ss_serial.proofs.Serial.until.Given as goal

abbrev pub invariant-loop : goal.invariant-loop
invariant-loop g l = record {
  runs : Runs g.E.Element.kind.handled l.time l.initial.self l.self;
  safe : IsSafe g.E.Element.kind g.E.Element.safe l.self.wires l.self.state;
}

abbrev pub decreases-loop : goal.decreases-loop
decreases-loop g l = steps_left g.E.Element.kind.handled l.self.wires l.time l.time l.self.state
