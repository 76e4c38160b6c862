use Rattle.std.proofs.Common.{◌<◌, length, Some, sym, ap, ◌∙◌, arith}
use Rattle.mr_router.specs.declared.port.Port.{Port}
use Rattle.mr_router.specs.Saved.{port_text}
use Rattle.mr_router.proofs.Listing.{get_there, text_step}
use Rattle.mr_router.proofs.port.save_ports.Goals as goal

pub loop-index-preserved : goal.loop-index-preserved
loop-index-preserved c =
    let ports = c.args.ports.now in
    let i = c.loop-index.index in
    let p = c.index-ports-index.result in
    let within : i < length ports = omega arith in
    text_step port_text ports i p c.args.out.now c.loop-index.out c.save.new.out (get_there ports i p within ∙ ap (λ (q : Port). Some q) (sym c.index-ports-index.is)) c.loop-index.invariant c.in_ok-save.ensures
