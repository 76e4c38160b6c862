use Rattle.std.proofs.Common.{◌≢◌, ◌<◌, length, get_or, ◌∙◌, refl, arith, below_more}
use Rattle.std.proofs.lemmas.List.{get_or-set_same, get_or-set_other}
use Rattle.mr_arb.proofs.Orders.{once-same}
use Rattle.mr_arb.proofs.order.place_each.Goals as goal

pub loop-k-preserved : goal.loop-k-preserved
loop-k-preserved c =
    let slots = c.args.slots.now in
    let k = c.loop-k.k in
    let l : k < length slots = c.loop-k-test.true in
    let at : get_or slots k 0 < length c.loop-k.places = omega (arith, c.requires.order.inside k 0 l, c.loop-k.auto.places) in
    below_more _ _ (λ j m.
    let n : get_or slots j 0 ≢ get_or slots k 0 = λ e. absurd (omega (arith, m, once-same (get_or slots k 0) slots j k (omega (arith, c.requires.order.once (get_or slots k 0) (c.requires.order.inside k 0 l))) (omega (arith, m, l)) l e refl)) in
    get_or-set_other c.loop-k.places (get_or slots k 0) (get_or slots j 0) k 0 n ∙ c.loop-k.invariant j m)
    (get_or-set_same c.loop-k.places (get_or slots k 0) k 0 at)
