use Rattle.std.proofs.Common.{◌≡◌, Some, get_or, sym, ap, ◌∙◌}
use Rattle.mr_flow.specs.Queue.{head}
use Rattle.mr_flow.specs.Side.{input}
use Rattle.mr_router.specs.declared.port.Port.{Port}
use Rattle.mr_router.specs.Router.{port_at}
use Rattle.mr_router.specs.Holding.{IsBound}
use Rattle.mr_router.specs.Kept.Ports.{there_is, front_bound}
use Rattle.mr_router.proofs.crossbar.ask_front.Goals as goal

pub ask-requires-clause-bound : goal.ask-requires-clause-bound
ask-requires-clause-bound c =
    let ps = c.args.ports.now in
    let p = c.index-ports-from.result in
    let k = c.args.channel in
    let same : get_or ps c.from.result p ≡ port_at ps c.args.port = ap (λ i. get_or ps i p) c.from.ensures ∙ there_is ps c.args.port p c.requires.here in
    let front : head (input (port_at ps c.args.port).line k) ≡ Some c.in-Some.packet = ap (λ (q : Port). head (input q.line k)) (sym same) ∙ sym c.head.ensures ∙ c.in-Some.is in
    front_bound (IsBound c.args.set.now) (input (port_at ps c.args.port).line k) c.in-Some.packet (c.requires.bound c.args.port k) front
