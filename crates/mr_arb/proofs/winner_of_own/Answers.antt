use Rattle.std.proofs.Common.{◌∙◌, ◌<◌, arith, get_or, refl, sym, subst}
use Rattle.mr_arb.specs.declared.Request.{Request}
use Rattle.mr_arb.specs.Arbitrating.{wins}
use Rattle.mr_arb.proofs.Picking.{better_in}
use Rattle.mr_arb.proofs.Chaining.{IsWalked, walk_above, walk_begins, walk_free, walk_granted}
use Rattle.mr_arb.proofs.winner_of_own.Goals as goal
use Rattle.mr_arb.proofs.winner_of_own.Goals.{then-not-granted-request, else-not-granted-request}

abbrev none : Request
none = record { slot = 0; input = 0; output = 0; born = 0 }

pub loop-number-init : goal.loop-number-init
loop-number-init c = (walk_begins c.args.slots c.args.output c.args.turn.now c.args.granted.now c.args.requests.now c.args.first.now c.args.next.now _ c.requires.output c.requires.chains refl, λ x e. absurd (grind (arith, e)))

pub loop-number-smaller : goal.loop-number-smaller
loop-number-smaller c =
    let above : c.loop-number.number < get_or c.args.next.now c.loop-number.number 0 = walk_above c.args.output c.loop-number.number _ c.args.requests.now c.args.first.now c.args.next.now (get_or c.args.requests.now c.loop-number.number none) none c.requires.output c.requires.chains c.loop-number-test.true refl c.loop-number.invariant.0.place refl in
    omega arith

pub loop-number-preserved : goal.loop-number-preserved
loop-number-preserved c =
    elim c.if-not-granted-request.branch [
      | then-not-granted-request w ↦ (walk_free c.args.slots c.args.output c.loop-number.number _ c.args.turn.now c.args.granted.now c.args.requests.now c.args.first.now c.args.next.now _ _ _ _ c.requires.output c.requires.chains c.loop-number-test.true refl refl w.if-not-granted-request.true (w.best-is ∙ w.preferred.ensures) c.loop-number.invariant.0, λ x e. better_in (wins c.args.slots c.args.turn.now) (λ p. p.slot < c.args.slots) c.loop-number.best (get_or c.args.requests.now c.loop-number.number none) x c.loop-number.invariant.1 (c.requires.slots c.loop-number.number none c.loop-number-test.true) (sym (w.best-is ∙ w.preferred.ensures) ∙ e))
      | else-not-granted-request w ↦
          let walked : IsWalked c.args.slots c.args.output c.args.turn.now c.args.granted.now c.args.requests.now (get_or c.args.next.now c.loop-number.number 0) c.loop-number.best = walk_granted c.args.slots c.args.output c.loop-number.number _ c.args.turn.now c.args.granted.now c.args.requests.now c.args.first.now c.args.next.now c.loop-number.best (get_or c.args.requests.now c.loop-number.number none) none c.requires.output c.requires.chains c.loop-number-test.true refl refl w.if-not-granted-request.false c.loop-number.invariant.0 in
          (subst (IsWalked c.args.slots c.args.output c.args.turn.now c.args.granted.now c.args.requests.now (get_or c.args.next.now c.loop-number.number 0)) (sym w.best-is) walked, λ x e. c.loop-number.invariant.1 x (sym w.best-is ∙ e))
    ]
