use Rattle.std.proofs.Common.{◌≡◌, ◌++◌, ◌∷◌, [], None}
use Rattle.std.proofs.lemmas.Result.{err_from_is_err_and}
use Rattle.ss_ckpt.specs.Form.{events_form}
use Rattle.ss_ckpt.proofs.Through.{goes_on, ends}
use Rattle.ss_ckpt.proofs.reading.events_of.Goals as goal

pub returns-in_err-event : goal.returns-in_err-event
returns-in_err-event g c =
    let p = err_from_is_err_and c.from_residual.result c.from_residual.ensures.1 in
    rw (p.1, p.2) (ends g.E.Element.saving c.args.wires.now c.args.elements.now c.in_err-event.field-0.0 c.loop.events.items c.args.count c.loop.counter c.loop.before c.loop.bytes
    ((events_form g.E.Element.saving c.args.wires.now c.args.elements.now c.args.count None).read c.args.bytes.now) c.loop-test.true c.in_err-event.ensures c.loop.invariant)

pub loop-preserved : goal.loop-preserved
loop-preserved g c =
    let event = c.in_ok-event.event in
    let e : c.push.new.self.items ≡ c.loop.events.items ++ event ∷ [] = c.in_ok-push.ensures.items in
    rw e (goes_on g.E.Element.saving c.args.wires.now c.args.elements.now c.loop.events.items c.args.count c.loop.counter c.loop.before c.loop.bytes c.event_of.new.bytes event
    ((events_form g.E.Element.saving c.args.wires.now c.args.elements.now c.args.count None).read c.args.bytes.now) c.loop-test.true c.in_ok-event.ensures c.loop.invariant)
