use Rattle.std.proofs.Common.{◌≡◌, ◌++◌}
use Rattle.std.specs.List.{flat_map, range_with_len}
use Rattle.mr_flow.specs.Queue.{head}
use Rattle.mr_flow.specs.Side.{input}
use Rattle.mr_router.specs.Router.{port_at, asks_of}
use Rattle.mr_router.specs.Ways.{AreWays}
use Rattle.mr_router.proofs.crossbar.ask_port.Given as goal

abbrev pub invariant-loop-channel : goal.invariant-loop-channel
invariant-loop-channel l = record {
  ways : AreWays l.set l.ways;
  requests : l.requests.items ≡ l.initial.requests.items ++ flat_map (λ c. asks_of l.set l.ports l.now l.input c (head (input (port_at l.ports l.input).line c))) (range_with_len 0 l.channel);
}
