use Rattle.std.proofs.Common.{List, map, sym, ap, subst, ◌∙◌}
use Rattle.std.specs.List.{list_all}
use Rattle.mr_arb.specs.Arbitrating.{EachFits}
use Rattle.mr_router.specs.declared.listed.Listed.{Listed}
use Rattle.mr_router.specs.Turns.{turn_read, turn_fits}
use Rattle.mr_router.specs.Kept.Keeping.{fits_turns}
use Rattle.mr_router.proofs.Listing.{unfit}
use Rattle.mr_router.proofs.outputs.chosen.Goals as goal

pub returns-then-not-branch-clause-choice : goal.returns-then-not-branch-clause-choice
returns-then-not-branch-clause-choice c =
    let slots = c.args.slots in
    let fails = ap (λ (l : List Listed). list_all (turn_fits slots) (map turn_read l)) (sym c.deref.ensures.value) ∙ sym c.in_ok-all_fit.ensures ∙ c.if-not-branch.true in
    (c.requires.some, c.requires.few, λ all. unfit slots (map turn_read c.args.turns.items) fails all)

pub to_turns-requires-clause-fit : goal.to_turns-requires-clause-fit
to_turns-requires-clause-fit c =
    let slots = c.args.slots in
    let fit = ap (λ (l : List Listed). list_all (turn_fits slots) (map turn_read l)) (c.deref-2.ensures.value ∙ sym c.deref.ensures.value) ∙ sym c.in_ok-all_fit.ensures ∙ c.if-not-branch.false in
    fits_turns slots (map turn_read c.deref-2.result.now) fit

pub of_turns-requires-clause-fit : goal.of_turns-requires-clause-fit
of_turns-requires-clause-fit c =
    let slots = c.args.slots in
    let fit = ap (λ (l : List Listed). list_all (turn_fits slots) (map turn_read l)) (c.deref-2.ensures.value ∙ sym c.deref.ensures.value) ∙ sym c.in_ok-all_fit.ensures ∙ c.if-not-branch.false in
    subst (EachFits slots) (sym c.in_ok-turns.ensures) (fits_turns slots (map turn_read c.deref-2.result.now) fit)
