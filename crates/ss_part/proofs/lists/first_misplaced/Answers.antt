use Rattle.std.proofs.Common.{◌≡◌, not, true, length, arith, ap, sym, ◌∙◌}
use Rattle.ss_part.specs.Assigned.{is_placed}
use Rattle.ss_part.proofs.Placing.{position_here, position_nowhere, no_part}
use Rattle.ss_part.proofs.lists.first_misplaced.Goals as goal

pub returns-then-not-is_placed : goal.returns-then-not-is_placed
returns-then-not-is_placed c =
    let here : not (is_placed c.args.parts c.index-components-c.result) ≡ true = ap not (sym c.is_placed.ensures ∙ c.if-not-is_placed.true) in
    sym (position_here (λ d. not (is_placed c.args.parts d)) c.args.components.now c.loop-c.c c.index-components-c.result c.loop-c-test.true c.loop-c.invariant c.index-components-c.is here)

pub returns : goal.returns
returns c =
    let e : c.loop-c.c ≡ length c.args.components.now = omega arith in
    sym (position_nowhere (λ d. not (is_placed c.args.parts d)) c.args.components.now no_part (λ k d h. c.loop-c.invariant k d (omega arith)))
