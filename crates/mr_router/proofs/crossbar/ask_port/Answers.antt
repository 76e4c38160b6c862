use Rattle.std.proofs.Common.{◌≡◌, ◌++◌, get_or, sym, ap, ◌∙◌}
use Rattle.std.specs.Prelude.{List}
use Rattle.std.proofs.lemmas.List.{append-nil}
use Rattle.mr_arb.specs.declared.Request.{Request}
use Rattle.mr_flow.specs.Queue.{head, waiting_in}
use Rattle.mr_flow.specs.Side.{input}
use Rattle.mr_router.specs.declared.port.Port.{Port}
use Rattle.mr_router.specs.Router.{port_at, asks_of}
use Rattle.mr_router.specs.Kept.Ports.{there_is}
use Rattle.mr_router.specs.Kept.Steps.{grown}
use Rattle.mr_router.proofs.Quiet.{quiet_port}
use Rattle.mr_router.proofs.crossbar.ask_port.Goals as goal

pub loop-channel-preserved : goal.loop-channel-preserved
loop-channel-preserved c =
    let s = c.args.set.now in
    let ps = c.args.ports.now in
    record {
      ways = c.in_ok-ask_front.ensures.ways;
      requests = grown (λ k. asks_of s ps c.args.now c.args.input k (head (input (port_at ps c.args.input).line k))) c.loop-channel.channel c.args.requests.now.items c.loop-channel.requests.items c.ask_front.new.requests.items c.loop-channel.invariant.requests c.in_ok-ask_front.ensures.asks;
    }

pub returns-then-held-eq0-clause-asks : goal.returns-then-held-eq0-clause-asks
returns-then-held-eq0-clause-asks c =
    let ps = c.args.ports.now in
    let p = c.index-ports-from.result in
    let same : p ≡ port_at ps c.args.input = c.index-ports-from.is ∙ (ap (λ i. get_or ps i p) c.from.ensures ∙ there_is ps c.args.input p c.requires.here) in
    let none : waiting_in (port_at ps c.args.input).line.inputs ≡ 0 = ap (λ (q : Port). waiting_in q.line.inputs) (sym same) ∙ (sym c.held.ensures ∙ c.if-held-eq0.true) in
    let nothing = quiet_port c.args.set.now ps c.args.now c.args.input none in
    sym (ap (λ (rs : List Request). c.args.requests.now.items ++ rs) nothing ∙ append-nil c.args.requests.now.items)
