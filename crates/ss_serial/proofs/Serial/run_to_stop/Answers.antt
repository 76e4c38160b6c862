use Rattle.ss_serial.specs.Serial.{limits_of}
use Rattle.ss_serial.proofs.Ending.{stop_ends}
use Rattle.ss_serial.proofs.Serial.run_to_stop.Goals as goal

pub returns-clause-ends : goal.returns-clause-ends
returns-clause-ends g c =
    stop_ends g.E.Element.kind g.E.Element.safe g.met.E.Element.laws (limits_of c.args.bounds) c.requires.order c.args.self.now c.until.new.self c.in_ok-until.ensures.runs c.requires.never
