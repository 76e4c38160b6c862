use Rattle.std.proofs.Common.{◌≡◌, ℕ, ◌<◌, ◌^◌, List, length, get_or, ap, sym, subst, ◌∙◌, arith}
use Rattle.mr_flow.specs.Queue.{Row, flits_of}
use Rattle.mr_flow.specs.Side.{channels, input}
use Rattle.mr_router.specs.declared.port.Port.{Port}
use Rattle.mr_router.specs.Router.{Switch, port_at}
use Rattle.mr_router.specs.Kept.Ports.{there_is}
use Rattle.mr_router.proofs.Ports.{few_flits, within_lanes, here_by_lanes}
use Rattle.mr_router.proofs.router.Router.flow_at.Goals as goal

same_port : (x : Switch) (items : List Port) (p : Port) (k port : ℕ) → items ≡ x.ports → p ≡ get_or items k p → k ≡ port → port < length items → p ≡ port_at x.ports port
same_port x items p k port view is from here = is ∙ ap (λ j. get_or items j p) from ∙ there_is items port p here ∙ ap (λ l. port_at l port) view

pub input-queue-requires : goal.input-queue-requires
input-queue-requires c =
    let x = c.args.self.now in
    let items = c.self.inside.ports.items in
    let view : items ≡ x.ports = ap (λ (y : Switch). y.ports) c.self.view_is in
    let here : c.args.port < length items = let l = here_by_lanes x c.args.port c.args.channel c.requires.there in omega (arith, l, ap length view) in
    let same = same_port x items c.index.result.now c.from.result c.args.port view c.index.ensures c.from.ensures here in
    subst (λ (q : Port). c.args.channel < channels q.line) (sym same) (within_lanes x c.args.port c.args.channel c.requires.there)

pub credits-requires : goal.credits-requires
credits-requires c =
    let x = c.args.self.now in
    let items = c.self.inside.ports.items in
    let view : items ≡ x.ports = ap (λ (y : Switch). y.ports) c.self.view_is in
    let here : c.args.port < length items = let l = here_by_lanes x c.args.port c.args.channel c.requires.there in omega (arith, l, ap length view) in
    let same = same_port x items c.index.result.now c.from.result c.args.port view c.index.ensures c.from.ensures here in
    subst (λ (q : Port). c.args.channel < channels q.line) (sym same) (within_lanes x c.args.port c.args.channel c.requires.there)

pub overflow_cast-queued : goal.overflow_cast-queued
overflow_cast-queued c =
    let x = c.args.self.now in
    let items = c.self.inside.ports.items in
    let view : items ≡ x.ports = ap (λ (y : Switch). y.ports) c.self.view_is in
    let here : c.args.port < length items = let l = here_by_lanes x c.args.port c.args.channel c.requires.there in omega (arith, l, ap length view) in
    let same = same_port x items c.index.result.now c.from.result c.args.port view c.index.ensures c.from.ensures here in
    let queue = c.input-queue.ensures ∙ ap (λ (q : Port). input q.line c.args.channel) same in
    let few = few_flits x (2 ^ 62) c.args.port c.args.channel c.requires.fits c.requires.there in
    omega (arith, few, ap (λ (q : Row). flits_of q.packets) queue, ap (λ (q : Row). q.capacity) queue, c.flits-queued.ensures, c.capacity-capacity.ensures, c.capacity-capacity.type_inv)
