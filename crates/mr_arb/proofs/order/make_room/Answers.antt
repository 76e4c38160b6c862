use Rattle.std.proofs.Common.{◌≡◌, ◌<◌, ◌≤◌, ◌++◌, ◌*◌, ℕ, List, length, take, drop, get_or, ap, sym, subst, ◌∙◌, arith}
use Rattle.std.proofs.lemmas.List.{take_all}
use Rattle.mr_arb.specs.Slots.{IsOrder}
use Rattle.mr_arb.specs.Uses.{order_of, last_uses}
use Rattle.mr_arb.proofs.Orders.{put_back}
use Rattle.mr_arb.proofs.Uses.{order_gathered, timeline_gathered}
use Rattle.mr_arb.proofs.order.make_room.Goals as goal

pub returns-clause-timeline : goal.returns-clause-timeline
returns-clause-timeline c =
    let p = c.args.places.now.items in
    let tl = c.args.timeline.now.items in
    let h = c.requires.timeline in
    let os = order_of p tl c.args.used in
    let n = c.len-slots.result in
    let new = c.gather.new.slots in
    let full : length tl ≤ c.args.used = omega (arith, c.if-used-len.false) in
    let q : last_uses c.deref-2.result.now 0 c.deref.result.now ≡ os = ap (λ (xs : List ℕ). last_uses xs 0 c.deref.result.now) c.deref-2.ensures.value ∙ ap (last_uses p 0) (c.deref.ensures.value ∙ sym (take_all c.args.used tl full)) in
    let g : take (length os) new ≡ os = subst (λ (us : List ℕ). take (length us) new ≡ us) q c.gather.ensures in
    let e = put_back c.place_each.new.places p c.args.places.now.len (omega arith) (omega arith) in
    let sp = put_back new c.args.spare.now.items c.args.spare.now.len (omega arith) (omega arith) in
    let si : c.swap.new.x.items ≡ new = rw c.swap.ensures.x_after sp in
    let len : n ≡ length p = omega arith in
    let cnt : length os ≡ n = omega (arith, h.order.count, len) in
    let cut : take n new ≡ os = ap (λ (m : ℕ). take m new) (sym cnt) ∙ g in
    let t : take n c.swap.new.x.items ≡ os = ap (take n) si ∙ cut in
    let sl : take n c.deref-3.result.now ≡ os = ap (take n) (c.deref-3.ensures.value ∙ sp) ∙ cut in
    let z : (k : ℕ) → k < length os → get_or c.place_each.new.places (get_or os k 0) 0 ≡ k = subst (λ (xs : List ℕ). (k : ℕ) → k < length xs → get_or c.place_each.new.places (get_or xs k 0) 0 ≡ k) sl c.place_each.ensures in
    let pl : n ≡ length (take c.args.places.now.len (c.place_each.new.places ++ drop (length c.place_each.new.places) p)) = omega (arith, len, ap length e, c.place_each.auto.places, c.deref_mut-2.ensures.len) in
    let r : length c.swap.new.x.items ≡ 2 * n = omega (arith, ap length si, c.gather.auto.slots, c.deref_mut.ensures.len, h.room, len) in
    timeline_gathered _ c.swap.new.x.items os n pl (subst (λ (m : ℕ). IsOrder m os) (sym len) h.order) t (λ k m. ap (λ (xs : List ℕ). get_or xs (get_or os k 0) 0) e ∙ z k m) r (omega (arith, h.some, len)) (omega (arith, h.few, len))

pub returns-clause-same : goal.returns-clause-same
returns-clause-same c =
    let p = c.args.places.now.items in
    let tl = c.args.timeline.now.items in
    let h = c.requires.timeline in
    let os = order_of p tl c.args.used in
    let n = c.len-slots.result in
    let new = c.gather.new.slots in
    let full : length tl ≤ c.args.used = omega (arith, c.if-used-len.false) in
    let q : last_uses c.deref-2.result.now 0 c.deref.result.now ≡ os = ap (λ (xs : List ℕ). last_uses xs 0 c.deref.result.now) c.deref-2.ensures.value ∙ ap (last_uses p 0) (c.deref.ensures.value ∙ sym (take_all c.args.used tl full)) in
    let g : take (length os) new ≡ os = subst (λ (us : List ℕ). take (length us) new ≡ us) q c.gather.ensures in
    let e = put_back c.place_each.new.places p c.args.places.now.len (omega arith) (omega arith) in
    let sp = put_back new c.args.spare.now.items c.args.spare.now.len (omega arith) (omega arith) in
    let si : c.swap.new.x.items ≡ new = rw c.swap.ensures.x_after sp in
    let len : n ≡ length p = omega arith in
    let cnt : length os ≡ n = omega (arith, h.order.count, len) in
    let cut : take n new ≡ os = ap (λ (m : ℕ). take m new) (sym cnt) ∙ g in
    let t : take n c.swap.new.x.items ≡ os = ap (take n) si ∙ cut in
    let sl : take n c.deref-3.result.now ≡ os = ap (take n) (c.deref-3.ensures.value ∙ sp) ∙ cut in
    let z : (k : ℕ) → k < length os → get_or c.place_each.new.places (get_or os k 0) 0 ≡ k = subst (λ (xs : List ℕ). (k : ℕ) → k < length xs → get_or c.place_each.new.places (get_or xs k 0) 0 ≡ k) sl c.place_each.ensures in
    order_gathered _ c.swap.new.x.items os n t (λ k m. ap (λ (xs : List ℕ). get_or xs (get_or os k 0) 0) e ∙ z k m)
