use Rattle.std.proofs.Common.{arith}
use Rattle.mr_arb.proofs.Picking.{free_all}
use Rattle.mr_arb.proofs.clear.Goals as goal

pub returns : goal.returns
returns c = free_all c.loop-request.granted c.args.requests.now c.loop-request.request-index (omega arith) c.loop-request.invariant
