use Rattle.std.proofs.Common.{◌<◌, sym, ◌∙◌, arith}
use Rattle.mr_flow.specs.Side.{channels}
use Rattle.mr_router.specs.Fitting.{lane_fits}
use Rattle.mr_router.specs.Kept.Judging.{not_each}
use Rattle.mr_router.proofs.port.Port.lanes_fit.Goals as goal

pub returns-then-not-lane_fits : goal.returns-then-not-lane_fits
returns-then-not-lane_fits c =
    let p = c.args.self.now in
    let within : c.loop-channel.channel < channels p.line = omega (arith, c.channels-channel-end.ensures.count) in
    not_each (lane_fits c.args.set.now c.args.at c.args.index p) (channels p.line) c.loop-channel.channel within (sym c.lane_fits.ensures ∙ c.if-not-lane_fits.true)
