use Rattle.std.proofs.Common.{◌≡◌, ◌*◌, ℕ, List, length, take, get_or, ap, sym, ◌∙◌, arith}
use Rattle.std.proofs.lemmas.Grind.{common_steps}
use Rattle.std.proofs.lemmas.List.{take-append-le}
use Rattle.mr_arb.proofs.Orders.{put_back}
use Rattle.mr_arb.proofs.Uses.{order_gathered, timeline_gathered}
use Rattle.mr_arb.proofs.order.Order.of_slots.Goals as goal

pub invariant_of-result : goal.invariant_of-result
invariant_of-result c =
    let x = c.in_ok-resize.ensures.items in
    let y = c.in_ok-timeline.ensures in
    let slots = c.args.slots.now in
    let t : take (length slots) c.resize.new.self.items ≡ slots = grind (arith, common_steps, take-append-le {A = ℕ}) in
    let e = put_back c.place_each.new.places c.in_ok-places.places.items c.in_ok-places.places.len (omega arith) (omega arith) in
    let l : length c.place_each.new.places ≡ length slots = omega (arith, c.place_each.auto.places, c.deref_mut.ensures.len, c.in_ok-places.ensures.len) in
    let r : length c.resize.new.self.items ≡ 2 * length slots = omega (arith, c.in_ok-resize.ensures.len) in
    (timeline_gathered _ c.resize.new.self.items slots (length slots) (sym (ap length e ∙ l)) c.requires.order t (λ k m. ap (λ (xs : List ℕ). get_or xs (get_or slots k 0) 0) e ∙ c.place_each.ensures k m) r c.requires.some c.requires.few, omega (arith, r, c.in_ok-spare.ensures.len))

pub returns : goal.returns
returns c =
    let x = c.in_ok-resize.ensures.items in
    let y = c.in_ok-timeline.ensures in
    let slots = c.args.slots.now in
    let t : take (length slots) c.resize.new.self.items ≡ slots = grind (arith, common_steps, take-append-le {A = ℕ}) in
    let e = put_back c.place_each.new.places c.in_ok-places.places.items c.in_ok-places.places.len (omega arith) (omega arith) in
    order_gathered _ c.resize.new.self.items slots (length slots) t (λ k m. ap (λ (xs : List ℕ). get_or xs (get_or slots k 0) 0) e ∙ c.place_each.ensures k m)
