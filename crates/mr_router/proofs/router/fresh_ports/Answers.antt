use Rattle.std.proofs.Common.{◌<◌, length, None, arith}
use Rattle.mr_router.specs.Kept.Steps.{fresh_more}
use Rattle.mr_router.proofs.router.fresh_ports.Goals as goal

pub loop-index-preserved : goal.loop-index-preserved
loop-index-preserved c =
    let within : c.loop-index.index < length c.args.rooms.now = omega arith in
    fresh_more c.args.set.now c.args.rooms.now c.loop-index.index None c.loop-index.ports.items c.push.new.self.items c.in_ok-fresh_port.field-0 within c.loop-index.invariant c.in_ok-push.ensures.items c.in_ok-fresh_port.ensures
