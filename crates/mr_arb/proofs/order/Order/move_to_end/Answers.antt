use Rattle.std.proofs.Common.{◌<◌, ℕ, List, length, ap, sym, subst, ◌∙◌, arith}
use Rattle.std.proofs.Math.ListN.{length-set}
use Rattle.mr_arb.specs.Slots.{to_end}
use Rattle.mr_arb.specs.Uses.{order_of}
use Rattle.mr_arb.proofs.Uses.{order_pushed, timeline_pushed}
use Rattle.mr_arb.proofs.order.Order.move_to_end.Goals as goal

pub invariant_of-self : goal.invariant_of-self
invariant_of-self c =
    let e = c.make_room-used.ensures in
    let tl = c.make_room-used.new.timeline.items in
    let p = c.make_room-used.new.places.items in
    let l : c.args.slot < length (order_of c.self.inside.places.items c.self.inside.timeline.items c.self.inside.used) = subst (λ (xs : List ℕ). c.args.slot < length xs) (sym c.self.view_is) c.requires in
    let m : c.args.slot < length p = omega (arith, l, c.self.invariant.0.order.count, e.slots) in
    (timeline_pushed p tl c.make_room-used.result c.args.slot e.timeline e.room m, e.spare ∙ sym (length-set tl c.make_room-used.result c.args.slot))

pub returns : goal.returns
returns c =
    let e = c.make_room-used.ensures in
    let tl = c.make_room-used.new.timeline.items in
    let p = c.make_room-used.new.places.items in
    let l : c.args.slot < length (order_of c.self.inside.places.items c.self.inside.timeline.items c.self.inside.used) = subst (λ (xs : List ℕ). c.args.slot < length xs) (sym c.self.view_is) c.requires in
    let m : c.args.slot < length p = omega (arith, l, c.self.invariant.0.order.count, e.slots) in
    order_pushed p tl c.make_room-used.result c.args.slot e.timeline e.room m ∙ ap (λ (xs : List ℕ). to_end xs c.args.slot) (e.same ∙ c.self.view_is)
