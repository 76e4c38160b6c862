use Rattle.std.proofs.Common.{◌≡◌, true, take}
use Rattle.std.specs.List.{list_any, list_all}
use Rattle.ss_model.specs.End.{is_idle}
use Rattle.ss_element.specs.Kind.{behaviour}
use Rattle.ss_element.specs.World.{IsSafe}
use Rattle.ss_serial.specs.Serial.{IsBusy, limits_of, time_left}
use Rattle.ss_serial.proofs.Serial.run_busy.Given as goal

abbrev pub invariant-loop-next : goal.invariant-loop-next
invariant-loop-next g l = record {
  busy : IsBusy (behaviour g.E.Element.kind) (limits_of l.bounds) l.initial.self l.self;
  primary : list_any g.E.Element.kind.primary l.self.state.components ≡ true;
  idle : list_all (is_idle (behaviour g.E.Element.kind)) (take l.idle l.self.state.components) ≡ true;
  safe : IsSafe g.E.Element.kind g.E.Element.safe l.self.wires l.self.state;
}

abbrev pub decreases-loop-next : goal.decreases-loop-next
decreases-loop-next g l = time_left l.bounds.stop l.self.state.pending
