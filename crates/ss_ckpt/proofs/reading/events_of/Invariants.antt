use Rattle.std.proofs.Common.{◌≡◌, ◌-◌, None}
use Rattle.ss_ckpt.specs.Form.{events_form}
use Rattle.ss_wire.proofs.Loops.{with_front}
use Rattle.ss_ckpt.proofs.reading.events_of.Given as goal

abbrev pub invariant-loop : goal.invariant-loop
invariant-loop g l = with_front l.events.items ((events_form g.E.Element.saving l.wires l.elements (l.count - l.counter) l.before).read l.bytes) ≡ (events_form g.E.Element.saving l.wires l.elements l.count None).read l.fn.bytes
