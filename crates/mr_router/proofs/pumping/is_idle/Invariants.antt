use Rattle.std.proofs.Common.{◌≡◌, take, true}
use Rattle.std.specs.List.{list_all}
use Rattle.mr_flow.specs.Side.{is_idle}
use Rattle.mr_router.proofs.pumping.is_idle.Given as goal

abbrev pub invariant-loop-port : goal.invariant-loop-port
invariant-loop-port l = list_all (λ p. is_idle p.line) (take l.port-index l.ports) ≡ true
