use Rattle.std.proofs.Common.{◌≡◌, true, false, sym, subst}
use Rattle.std.specs.List.{list_all}
use Rattle.mr_arb.specs.Arbitrating.{EachFits}
use Rattle.mr_router.specs.declared.outputs.Choice.{Choice}
use Rattle.mr_router.specs.Turns.{Chosen, turns_in, turn_fits, IsChoice}
use Rattle.mr_router.specs.Kept.Keeping.{turns_fit}
use Rattle.mr_router.proofs.Listing.{not_fit}
use Rattle.mr_router.proofs.outputs.Outputs.fit.Goals as goal

pub returns-in-Ready : goal.returns-in-Ready
returns-in-Ready c =
    let i = c.self.inside in
    let held = subst (λ (o : Choice). IsChoice i.slots o) c.in-Ready.is c.self.invariant.0 in
    let fit = subst (λ (o : Choice). EachFits i.slots (turns_in o)) (sym c.in-Ready.is) held.3 in
    subst (λ (a : Chosen). true ≡ list_all (turn_fits a.slots) a.turns) c.self.view_is (sym (turns_fit i.slots (turns_in i.choice) fit))

pub returns-in-Read : goal.returns-in-Read
returns-in-Read c =
    let i = c.self.inside in
    let held = subst (λ (o : Choice). IsChoice i.slots o) c.in-Read.is c.self.invariant.0 in
    subst (λ (a : Chosen). false ≡ list_all (turn_fits a.slots) a.turns) c.self.view_is (not_fit i.slots (turns_in i.choice) (λ all. held.2 (subst (λ (o : Choice). EachFits i.slots (turns_in o)) c.in-Read.is all)))
