use Rattle.std.proofs.Common.{◌<◌, length, sym, ap, ◌∙◌, arith}
use Rattle.ss_wire.specs.Form.{each}
use Rattle.ss_element.specs.Gives.{put_at}
use Rattle.ss_element.proofs.Reading.{one_more}
use Rattle.mr_router.specs.declared.port.Port.{Port}
use Rattle.mr_router.specs.Saved.{port_form}
use Rattle.mr_router.proofs.Ports.{port_there}
use Rattle.mr_router.proofs.port.restore_ports.Goals as goal

pub loop-index-preserved : goal.loop-index-preserved
loop-index-preserved c =
    let ports = c.loop-index.ports in
    let i = c.loop-index.index in
    let within : i < length ports = omega (arith, c.loop-index.auto.ports) in
    one_more port_form ports c.restore_at.new.ports i c.loop-index.bytes c.restore_at.new.bytes ((each port_form c.args.ports.now).read c.args.bytes.now) within
    (λ p there. ap (λ (q : Port). put_at ports i ((port_form q).read c.loop-index.bytes)) (sym (port_there ports i p there)) ∙ c.in_ok-restore_at.ensures.told)
    c.loop-index.invariant
