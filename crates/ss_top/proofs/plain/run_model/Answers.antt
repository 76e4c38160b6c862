use Rattle.std.proofs.Common.{sym, subst}
use Rattle.ss_element.specs.World.{IsSafe}
use Rattle.ss_library.specs.declared.kinds.Any.{Any}
use Rattle.mr_flow.specs.declared.Load.{Load}
use Rattle.ss_library.specs.Kinds.{any_kind, any_safe}
use Rattle.ss_serial.specs.Serial.{Standing}
use Rattle.ss_top.proofs.plain.run_model.Goals as goal

pub run-requires-clause-safe : goal.run-requires-clause-safe
run-requires-clause-safe c = subst (λ (s : Standing Any Load). IsSafe any_kind any_safe s.wires s.state) (sym c.in_ok-serial.ensures) (0, c.requires.safe)
