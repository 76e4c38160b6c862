use Rattle.std.proofs.Common.{◌≡◌, ◌<◌, sym, ap, ◌∙◌, Some, arith}
use Rattle.std.specs.Prelude.{slice_get}
use Rattle.ss_safe.specs.Laws.{meters_of, packet_flits, credit_flits, packet_on, credit_on}
use Rattle.ss_safe.specs.Safe.{total, weight_at}
use Rattle.ss_safe.specs.Kept.Found.{get_below}
use Rattle.ss_ckpt.specs.Views.{state_of}
use Rattle.ss_restart.proofs.Places.{at_index}
use Rattle.ss_restart.proofs.Ways.{total_same, balance_by}
use Rattle.ss_restart.proofs.flows.is_balanced.Goals as goal

pub returns : goal.returns
returns g c =
    let kind = g.E.Element.kind in
    let xs = c.args.saved.now.model.elements.items in
    let es = c.args.saved.now.events.items in
    let way = c.args.way in
    let ch = c.args.channel in
    let joins = c.requires.joins in
    let x = c.index.result.now in
    let y = c.index-2.result.now in
    let gx : slice_get xs way.sender ≡ Some x = at_index xs way.sender x (get_below xs way.sender joins.sender joins.sender_is) c.index.ensures in
    let gy : slice_get xs way.receiver ≡ Some y = at_index xs way.receiver y (get_below xs way.receiver joins.receiver joins.receiver_is) c.index-2.ensures in
    let within : ch < 256 = omega arith in
    let credits : c.from.result ≡ (kind.flow x way.out_port ch).credits = c.from.ensures ∙ ap (λ f. f.credits) c.flow-sender.ensures in
    let packets : c.from-2.result ≡ total (weight_at (packet_on (meters_of kind) ch) way.line) es =
    c.from-2.ensures ∙ c.requires.packets ch within
    ∙ total_same (λ z. packet_flits ch (g.E.Load.Payload.weighs z)) (packet_on (meters_of kind) ch) (λ z. ap (packet_flits ch) (sym (g.met.E.Element.saved.weights z))) way.line es in
    let queued : c.from-3.result ≡ (kind.flow y way.in_port ch).queued = c.from-3.ensures ∙ ap (λ f. f.queued) c.flow-receiver.ensures in
    let backs : c.from-4.result ≡ total (weight_at (credit_on (meters_of kind) ch) way.back) es =
    c.from-4.ensures ∙ c.requires.credits ch within
    ∙ total_same (λ z. credit_flits ch (g.E.Load.Payload.weighs z)) (credit_on (meters_of kind) ch) (λ z. ap (credit_flits ch) (sym (g.met.E.Element.saved.weights z))) way.back es in
    let capacity : c.from-5.result ≡ (kind.flow y way.in_port ch).capacity = c.from-5.ensures ∙ ap (λ f. f.capacity) c.flow-receiver.ensures in
    balance_by kind c.args.saved.now.model.wires c.args.saved.now.time (state_of c.args.saved.now) c.requires.ready way ch joins x y gx gy c.from.result c.from-2.result c.from-3.result c.from-4.result c.from-5.result credits packets queued backs capacity
