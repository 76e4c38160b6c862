use Rattle.std.proofs.Common.{◌≡◌, ◌<◌, length, ap, sym, subst, ◌∙◌, arith}
use Rattle.std.specs.List.{All}
use Rattle.mr_arb.specs.Arbitrating.{Arbiting, EachFits, picks}
use Rattle.mr_arb.proofs.Orders.{put_back}
use Rattle.mr_arb.proofs.Picking.{picks-fit}
use Rattle.mr_router.specs.Kept.Steps.{length-picks}
use Rattle.mr_router.specs.declared.outputs.Choice.{Choice}
use Rattle.mr_router.specs.Turns.{Chosen, turns_in, IsChoice}
use Rattle.mr_router.proofs.outputs.Outputs.pick.Goals as goal

pub unreachable-requires : goal.unreachable-requires
unreachable-requires c =
    let i = c.self.inside in
    let fit = subst (λ (a : Chosen). EachFits a.slots a.turns) (sym c.self.view_is) c.requires.fit in
    let read = subst (λ (o : Choice). EachFits i.slots (turns_in o)) c.in-Read.is fit in
    let no = subst (λ (o : Choice). IsChoice i.slots o) c.in-Read.is c.self.invariant.0 in
    absurd (no.2 read)

pub invariant_of-self : goal.invariant_of-self
invariant_of-self c =
    let i = c.self.inside in
    let a = c.in-Ready.arbiter in
    let held = subst (λ (o : Choice). IsChoice i.slots o) c.in-Ready.is c.self.invariant.0 in
    let turns : length i.grants.items ≡ length a.turns = c.self.invariant.1 ∙ ap (λ (o : Choice). length (turns_in o)) c.in-Ready.is in
    let kept = c.pick.auto.grants ∙ ap length c.deref_mut.ensures.value in
    let back = put_back c.pick.new.grants i.grants.items i.grants.len kept (omega arith) in
    let after = ap (λ (x : Arbiting). length x.turns) c.pick.ensures.turns ∙ length-picks _ _ _ _ in
    let asked = subst (λ (x : Chosen). All (λ q. q.slot < x.slots) c.args.requests.now) (sym c.self.view_is) c.requires.slots in
    let fit = picks-fit i.slots 0 a.turns c.args.requests.now asked held.3 in
    let new = ap (λ (x : Arbiting). x.turns) c.pick.ensures.turns ∙ ap (λ n. (picks n 0 a.turns c.args.requests.now).0) held.2 in
    let long = ap length back ∙ kept in
    let few = c.self.invariant.2 in (
      (held.0, held.1, ap (λ (x : Arbiting). x.slots) c.pick.ensures.turns ∙ held.2, subst (EachFits i.slots) (sym new) fit),
      long ∙ turns ∙ sym after,
      omega (arith, long, few),
    )
