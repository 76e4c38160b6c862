use Rattle.std.proofs.Common.{◌≡◌, ℕ, List, length, ap, sym, subst, ◌∙◌, arith}
use Rattle.std.specs.List.{range_with_len}
use Rattle.std.proofs.lemmas.Grind.{common_steps}
use Rattle.std.proofs.lemmas.List.FromFn.{length-range_with_len}
use Rattle.mr_arb.specs.Slots.{IsOrder}
use Rattle.mr_arb.proofs.Orders.{order_range, range_more}
use Rattle.mr_arb.proofs.order.Order.ascending.Goals as goal

pub loop-slot-preserved : goal.loop-slot-preserved
loop-slot-preserved c = grind (arith, common_steps, range_more c.loop-slot.slot)

pub of_slots-requires-clause-few : goal.of_slots-requires-clause-few
of_slots-requires-clause-few c =
    let e : c.deref.result.now ≡ range_with_len 0 c.loop-slot.slot = c.deref.ensures.value ∙ c.loop-slot.invariant in
    omega (arith, ap length e, length-range_with_len 0 c.loop-slot.slot)

pub of_slots-requires-clause-order : goal.of_slots-requires-clause-order
of_slots-requires-clause-order c =
    let e : c.deref.result.now ≡ range_with_len 0 c.loop-slot.slot = c.deref.ensures.value ∙ c.loop-slot.invariant in
    subst (λ (xs : List ℕ). IsOrder (length xs) xs) (sym e) (subst (λ (n : ℕ). IsOrder n (range_with_len 0 c.loop-slot.slot)) (sym (length-range_with_len 0 c.loop-slot.slot)) (order_range c.loop-slot.slot))
