use Rattle.std.proofs.Common.{◌<◌, length, sym, ap, ◌∙◌, arith}
use Rattle.mr_router.specs.declared.port.Port.{Port}
use Rattle.mr_router.specs.Router.{port_at}
use Rattle.mr_router.specs.Fitting.{port_fits}
use Rattle.mr_router.specs.Kept.Ports.{there_is}
use Rattle.mr_router.specs.Kept.Judging.{not_each}
use Rattle.mr_router.proofs.state.ports_fit.Goals as goal

pub returns-then-not-fits : goal.returns-then-not-fits
returns-then-not-fits c =
    let ports = c.args.ports.now in
    let i = c.loop-index.index in
    let p = c.index-ports-index.result in
    let within : i < length ports = omega arith in
    not_each (λ k. port_fits c.args.set.now c.args.at k (port_at ports k)) (length ports) i within (ap (λ (q : Port). port_fits c.args.set.now c.args.at i q) (sym (c.index-ports-index.is ∙ there_is ports i p within)) ∙ sym c.fits.ensures ∙ c.if-not-fits.true)
