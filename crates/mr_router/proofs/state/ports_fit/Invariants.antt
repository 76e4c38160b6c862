use Rattle.std.proofs.Common.{◌≡◌, true}
use Rattle.std.specs.List.{list_all, range_with_len}
use Rattle.mr_router.specs.Router.{port_at}
use Rattle.mr_router.specs.Fitting.{port_fits}
use Rattle.mr_router.proofs.state.ports_fit.Given as goal

abbrev pub invariant-loop-index : goal.invariant-loop-index
invariant-loop-index l = list_all (λ i. port_fits l.set l.at i (port_at l.ports i)) (range_with_len 0 l.index) ≡ true
