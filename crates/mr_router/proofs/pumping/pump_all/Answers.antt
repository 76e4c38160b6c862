use Rattle.std.proofs.Common.{◌≡◌, ◌<◌, ◌++◌, length, ap, ◌∙◌, arith}
use Rattle.mr_flow.specs.Side.{sent}
use Rattle.mr_router.specs.declared.port.Port.{Port}
use Rattle.mr_router.specs.Router.{port_at, port_pumped, sends_of, counted}
use Rattle.mr_router.specs.Kept.Steps.{step_get, step_set, step_sent, step_counted, length-counted}
use Rattle.mr_router.proofs.pumping.pump_all.Goals as goal

pub loop-index-preserved : goal.loop-index-preserved
loop-index-preserved c =
    let xs = c.args.ports.now in
    let i = c.loop-index.index in
    let now = c.args.now in
    let v = c.loop-index.invariant in
    let e = c.in_ok-pump.ensures in
    let here : i < length xs = omega (arith, c.loop-index.auto.ports) in
    let same : port_at c.loop-index.ports i ≡ port_at xs i = ap (λ l. port_at l i) v.ports ∙ step_get (port_pumped now) xs i here in
    record {
      ports = step_set (port_pumped now) xs c.loop-index.ports c.pump.new.ports i here v.ports e.ports;
      stats = step_counted now c.args.place c.args.stats.now c.loop-index.stats c.pump.new.stats xs i here v.stats (e.stats ∙ ap (λ (p : Port). counted c.args.place c.loop-index.stats (sent p.line now)) same);
      size = ap length e.stats ∙ length-counted c.args.place c.loop-index.stats (sent (port_at c.loop-index.ports i).line now) ∙ v.size;
      acts = step_sent now xs i c.args.acts.now c.loop-index.acts c.pump.new.acts here v.acts (e.actions ∙ ap (λ (p : Port). c.loop-index.acts ++ sends_of i (sent p.line now)) same);
    }
