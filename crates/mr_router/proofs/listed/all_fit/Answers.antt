use Rattle.std.proofs.Common.{◌<◌, length, sym, ap, ◌∙◌, arith}
use Rattle.mr_router.specs.Turns.{turn_read, turn_fits}
use Rattle.mr_router.specs.declared.listed.Listed.{Listed}
use Rattle.mr_router.proofs.Listing.{not_all}
use Rattle.mr_router.proofs.listed.all_fit.Goals as goal

pub returns-then-not-branch : goal.returns-then-not-branch
returns-then-not-branch c =
    let turns = c.args.turns.now in
    let within : c.loop-index.index < length turns = omega arith in
    not_all (turn_fits c.args.slots) turn_read turns c.loop-index.index c.index-turns-index.result within (ap (λ (t : Listed). turn_fits c.args.slots (turn_read t)) (sym c.index-turns-index.is) ∙ sym c.in_ok-fits.ensures ∙ c.if-not-branch.true)
