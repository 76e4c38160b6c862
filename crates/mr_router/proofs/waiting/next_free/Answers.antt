use Rattle.std.proofs.Common.{◌<◌, ◌≤◌, length, sym, subst, ◌∙◌, arith}
use borrow.Author.Count.{below_more}
use Rattle.mr_router.specs.declared.port.Port.{Port}
use Rattle.mr_router.specs.Router.{port_at}
use Rattle.mr_router.specs.Quiet.{StaysAs}
use Rattle.mr_router.specs.Kept.Ports.{there_is}
use Rattle.mr_router.proofs.Resting.{sooner}
use Rattle.mr_router.proofs.waiting.next_free.Goals as goal

pub loop-port-preserved : goal.loop-port-preserved
loop-port-preserved c =
    let ports = c.args.ports.now in
    let now = c.args.now in
    let i = c.loop-port.port-index in
    let p = c.port-item.result in
    let least = c.min-least.result in
    let here : i < length ports = omega arith in
    let first : least ≤ c.loop-port.least = omega (arith, c.min-least.ensures) in
    let second : least ≤ c.next_free.result = omega (arith, c.min-least.ensures) in
    below_more (λ k. StaysAs now least (port_at ports k)) i
    (λ k l. sooner now c.loop-port.least least (port_at ports k) first (c.loop-port.invariant k l))
    (subst (λ (q : Port). StaysAs now least q) (c.port-item.is ∙ there_is ports i p here) (sooner now c.next_free.result least p second c.next_free.ensures))

pub returns : goal.returns
returns c = λ k d l. (
    let ports = c.args.ports.now in
    let before : k < c.loop-port.port-index = omega (arith, l) in
    subst (λ (q : Port). StaysAs c.args.now c.loop-port.least q) (sym (there_is ports k d l)) (c.loop-port.invariant k before))
