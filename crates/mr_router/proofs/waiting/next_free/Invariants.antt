use Rattle.std.proofs.Common.{ℕ, ◌<◌}
use Rattle.mr_router.specs.Router.{port_at}
use Rattle.mr_router.specs.Quiet.{StaysAs}
use Rattle.mr_router.proofs.waiting.next_free.Given as goal

abbrev pub invariant-loop-port : goal.invariant-loop-port
invariant-loop-port l = (k : ℕ) → k < l.port-index → StaysAs l.now l.least (port_at l.ports k)
