use Rattle.std.proofs.Common.{◌<◌, ◌+◌, ℕ, length, take, get_or, [], ◌∷◌, ◌++◌, List, ap, sym, ◌∙◌, arith}
use Rattle.std.proofs.lemmas.List.{take_more_set, length-append}
use Rattle.mr_arb.specs.Uses.{last_uses}
use Rattle.mr_arb.proofs.Uses.{uses_more, uses_skip, uses_room}
use Rattle.mr_arb.proofs.order.gather.Goals as goal
use Rattle.mr_arb.proofs.order.gather.Goals.{then-places-slot, else-places-slot}

pub bounds-slots-count : goal.bounds-slots-count
bounds-slots-count c = omega (arith, uses_room c.args.places.now c.args.timeline.now c.loop-k.k c.loop-k-test.true c.if-places-slot.true, c.loop-k.invariant.1, c.requires.room, c.loop-k.auto.slots)

pub loop-k-preserved : goal.loop-k-preserved
loop-k-preserved c =
    let p = c.args.places.now in
    let tl = c.args.timeline.now in
    let k = c.loop-k.k in
    let n = c.loop-k.count in
    let slots = c.loop-k.slots in
    elim c.if-places-slot.branch [
      | then-places-slot w ↦
          let m = uses_more p tl k c.loop-k-test.true w.if-places-slot.true in
          let l : n < length slots = omega (arith, uses_room p tl k c.loop-k-test.true w.if-places-slot.true, c.loop-k.invariant.1, c.requires.room, c.loop-k.auto.slots) in (
            ap (λ (x : ℕ). take x c.if-places-slot.slots) w.count-is ∙ ap (take (n + 1)) w.slots-is ∙ take_more_set slots n (get_or tl k 0) l ∙ ap (λ (us : List ℕ). us ++ get_or tl k 0 ∷ []) c.loop-k.invariant.0 ∙ sym m,
            omega (arith, w.count-is, c.loop-k.invariant.1, ap length m, length-append (last_uses p 0 (take k tl)) (get_or tl k 0 ∷ [])),
          )
      | else-places-slot w ↦
          let m = uses_skip p tl k c.loop-k-test.true w.if-places-slot.false in (
            ap (λ (x : ℕ). take x c.if-places-slot.slots) w.count-is ∙ ap (take n) w.slots-is ∙ c.loop-k.invariant.0 ∙ sym m,
            omega (arith, w.count-is, c.loop-k.invariant.1, ap length m),
          )
    ]
