use Rattle.std.proofs.Common.{◌≡◌, ◌++◌}
use Rattle.std.specs.List.{flat_map, range_with_len}
use Rattle.mr_router.specs.Router.{port_asks}
use Rattle.mr_router.specs.Ways.{AreWays}
use Rattle.mr_router.proofs.crossbar.ask_all.Given as goal

abbrev pub invariant-loop-input : goal.invariant-loop-input
invariant-loop-input l = record {
  ways : AreWays l.set l.ways;
  requests : l.requests.items ≡ l.initial.requests.items ++ flat_map (port_asks l.set l.ports l.now) (range_with_len 0 l.input);
}
