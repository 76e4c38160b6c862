use Rattle.std.proofs.Common.{◌≡◌, true, Some, sym, arith}
use Rattle.ss_model.specs.Order.{next_time}
use Rattle.ss_model.specs.End.{is_idle}
use Rattle.ss_element.specs.Kind.{behaviour}
use Rattle.ss_serial.specs.Serial.{limits_of}
use Rattle.ss_serial.proofs.Running.{none_yet, nothing_before, time_falls, until_done}
use Rattle.ss_serial.proofs.Ending.{all_idle, one_busy, busy_none, busy_stops, busy_last, busy_agrees, busy_on, until_any, until_idle, multiple_above}
use Rattle.ss_serial.proofs.Serial.run_busy.Goals as goal

pub loop-next-init : goal.loop-next-init
loop-next-init g c = record {
  busy = busy_none g.E.Element.kind g.E.Element.safe g.met.E.Element.laws (limits_of c.args.bounds) c.requires.order c.args.self.now c.requires.begins c.requires.busy;
  primary = c.requires.primary;
  idle = c.requires.idle;
  safe = c.requires.safe;
}

pub returns-then-next-bounds-clause-ends : goal.returns-then-next-bounds-clause-ends
returns-then-next-bounds-clause-ends g c =
    let i = c.loop-next.invariant in
    let first : next_time c.loop-next.self.state.pending ≡ Some c.in-Some.next = sym c.in-Some.ensures in
    busy_stops g.E.Element.kind g.E.Element.safe g.met.E.Element.laws (limits_of c.args.bounds) c.requires.order c.requires.exits.0 c.args.self.now c.loop-next.self i.busy
    (none_yet c.args.bounds.stop c.in-Some.next c.loop-next.self.state.pending first (omega arith))

pub returns-then-asked-bounds-clause-ends : goal.returns-then-asked-bounds-clause-ends
returns-then-asked-bounds-clause-ends g c =
    let i = c.loop-next.invariant in
    busy_last g.E.Element.kind g.E.Element.safe g.met.E.Element.laws (limits_of c.args.bounds) c.requires.order c.requires.exits.0 c.args.self.now c.loop-next.self i.busy
    c.until.new.self c.in-Some.next c.asked_after-asked.result (sym c.in-Some.ensures) c.asked_after-asked.ensures (omega arith) c.in_ok-until.ensures.runs

pub idle_from-idle-requires : goal.idle_from-idle-requires
idle_from-idle-requires g c =
    let i = c.loop-next.invariant in
    rw c.elements.ensures (until_idle g.E.Element.kind g.E.Element.safe g.met.E.Element.laws (limits_of c.args.bounds) c.requires.order c.asked_after-asked.result c.loop-next.self c.until-in-Some.new.self c.in_ok-until-2.ensures.runs c.loop-next.idle i.idle)

pub returns-then-idle-elements-clause-ends : goal.returns-then-idle-elements-clause-ends
returns-then-idle-elements-clause-ends g c =
    let i = c.loop-next.invariant in
    let new = c.until-in-Some.new.self in
    let runs = c.in_ok-until-2.ensures.runs in
    let any = until_any g.E.Element.kind g.E.Element.safe g.met.E.Element.laws (limits_of c.args.bounds) c.requires.order c.asked_after-asked.result c.loop-next.self new runs true i.primary in
    let all = all_idle (is_idle (behaviour g.E.Element.kind)) c.elements.result.now c.elements-in-Some.result.now new.state.components c.idle_from-idle.result c.elements.ensures c.elements-in-Some.ensures c.idle_from-idle.ensures.all (omega arith) in
    busy_agrees g.E.Element.kind g.E.Element.safe g.met.E.Element.laws (limits_of c.args.bounds) c.requires.order c.requires.exits.0 c.args.self.now c.loop-next.self i.busy
    new c.in-Some.next c.asked_after-asked.result (sym c.in-Some.ensures) c.asked_after-asked.ensures (omega arith) runs any all

pub loop-next-preserved : goal.loop-next-preserved
loop-next-preserved g c =
    let i = c.loop-next.invariant in
    let new = c.until-in-Some.new.self in
    let runs = c.in_ok-until-2.ensures.runs in
    let one = one_busy (is_idle (behaviour g.E.Element.kind)) c.elements.result.now c.elements-in-Some.result.now new.state.components c.idle_from-idle.result c.elements.ensures c.elements-in-Some.ensures c.idle_from-idle.ensures.all (omega arith) in
    record {
      busy = busy_on g.E.Element.kind g.E.Element.safe g.met.E.Element.laws (limits_of c.args.bounds) c.requires.order c.requires.exits.0 c.args.self.now c.loop-next.self i.busy
          new c.in-Some.next c.asked_after-asked.result (sym c.in-Some.ensures) c.asked_after-asked.ensures (omega arith) runs one;
      primary = until_any g.E.Element.kind g.E.Element.safe g.met.E.Element.laws (limits_of c.args.bounds) c.requires.order c.asked_after-asked.result c.loop-next.self new runs true i.primary;
      idle = rw (sym c.elements.ensures) c.idle_from-idle.ensures.idle;
      safe = c.in_ok-until-2.ensures.safe;
    }

pub loop-next-smaller : goal.loop-next-smaller
loop-next-smaller g c =
    let above = multiple_above c.in-Some.next c.args.bounds.exit c.requires.exits.0 in
    time_falls c.args.bounds.stop c.in-Some.next c.asked_after-asked.result c.loop-next.self.state.pending c.until-in-Some.new.self.state.pending (sym c.in-Some.ensures) (omega arith) (omega (arith, c.asked_after-asked.ensures))
    (until_done g.E.Element.kind.handled c.asked_after-asked.result c.loop-next.self c.until-in-Some.new.self c.in_ok-until-2.ensures.runs)

pub returns-clause-ends : goal.returns-clause-ends
returns-clause-ends g c =
    let i = c.loop-next.invariant in
    busy_stops g.E.Element.kind g.E.Element.safe g.met.E.Element.laws (limits_of c.args.bounds) c.requires.order c.requires.exits.0 c.args.self.now c.loop-next.self i.busy
    (nothing_before c.args.bounds.stop c.loop-next.self.state.pending (sym c.in_default.ensures))
