use Rattle.std.proofs.Common.{◌≡◌, take, drop}
use Rattle.ss_ckpt.specs.Form.{states_form}
use Rattle.ss_wire.proofs.Loops.{with_front}
use Rattle.ss_ckpt.proofs.reading.restore_all.Given as goal

abbrev pub invariant-loop-i : goal.invariant-loop-i
invariant-loop-i g l = with_front (take l.i l.elements) ((states_form g.E.Element.saving (drop l.i l.elements)).read l.bytes) ≡ (states_form g.E.Element.saving l.fn.elements).read l.fn.bytes
