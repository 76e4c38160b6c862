use Rattle.std.proofs.Common.{◌≡◌, ◌-◌, true, take, length}
use Rattle.std.specs.List.{list_all}
use Rattle.ss_model.specs.End.{is_idle}
use Rattle.ss_element.specs.Kind.{behaviour}
use Rattle.ss_serial.proofs.run.idle_from.Given as goal

abbrev pub invariant-loop-place : goal.invariant-loop-place
invariant-loop-place g l = list_all (is_idle (behaviour g.E.Element.kind)) (take l.place l.elements) ≡ true

abbrev pub decreases-loop-place : goal.decreases-loop-place
decreases-loop-place g l = length l.initial.elements - l.place
