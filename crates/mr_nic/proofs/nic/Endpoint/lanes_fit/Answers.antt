use Rattle.std.proofs.Common.{◌<◌, sym, ◌∙◌, arith}
use Rattle.mr_nic.specs.Endpoint.{networks}
use Rattle.mr_nic.specs.Kind.{lane_fits}
use Rattle.mr_nic.specs.Kept.Judging.{not_each}
use Rattle.mr_nic.proofs.nic.Endpoint.lanes_fit.Goals as goal

pub returns-then-not-lane_fits : goal.returns-then-not-lane_fits
returns-then-not-lane_fits c =
    let n = c.args.self.now in
    let within : c.loop-vn.vn < networks n = omega (arith, c.loop-vn-test.true, c.networks-vn-end.ensures.count) in
    not_each (lane_fits n c.args.at) (networks n) c.loop-vn.vn within (sym c.lane_fits.ensures ∙ c.if-not-lane_fits.true)
