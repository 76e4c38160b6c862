use Rattle.std.proofs.Common.{arith}
use Rattle.ss_serial.specs.Serial.{limits_of}
use Rattle.ss_serial.proofs.Ending.{agreed_ends, agreed_stops}
use Rattle.ss_serial.proofs.Serial.run_agreed.Goals as goal

pub returns-then-asked-bounds-clause-ends : goal.returns-then-asked-bounds-clause-ends
returns-then-asked-bounds-clause-ends g c =
    agreed_stops g.E.Element.kind g.E.Element.safe g.met.E.Element.laws (limits_of c.args.bounds) c.requires.order c.requires.exits.0 c.args.self.now c.until.new.self c.asked_after-asked.result c.asked_after-asked.ensures (omega arith) c.in_ok-until.ensures.runs

pub returns-clause-ends : goal.returns-clause-ends
returns-clause-ends g c =
    agreed_ends g.E.Element.kind g.E.Element.safe g.met.E.Element.laws (limits_of c.args.bounds) c.requires.order c.requires.exits.0 c.args.self.now c.until-2.new.self c.asked_after-asked.result c.asked_after-asked.ensures (omega arith) c.in_ok-until-2.ensures.runs c.requires.agreed
