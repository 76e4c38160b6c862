use Rattle.mr_router.specs.Router.{port_asks}
use Rattle.mr_router.specs.Kept.Steps.{grown}
use Rattle.mr_router.proofs.crossbar.ask_all.Goals as goal

pub loop-input-preserved : goal.loop-input-preserved
loop-input-preserved c = record {
  ways = c.in_ok-ask_port.ensures.ways;
  requests = grown (port_asks c.args.set.now c.args.ports.now c.args.now) c.loop-input.input c.args.requests.now.items c.loop-input.requests.items c.ask_port.new.requests.items c.loop-input.invariant.requests c.in_ok-ask_port.ensures.asks;
}
