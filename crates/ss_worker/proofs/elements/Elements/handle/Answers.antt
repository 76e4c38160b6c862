-- The entry at the place of a number is the one that handles the cause.
use Rattle.std.proofs.Common.{◌≡◌, ℕ, ◌++◌, ◌<◌, length, arith, Some, is_some, sym, ap, ◌∙◌, append-nil}
use Rattle.std.specs.Prelude.{slice_set}
use Rattle.ss_model.specs.Step.{reaction}
use Rattle.ss_parts.specs.Parts.{state_of}
use Rattle.ss_worker.specs.Placed.{place_from, with_reaction, asked}
use Rattle.ss_worker.proofs.Places.{here, entry_is, absent, places_stay, get_some}
use Rattle.ss_worker.proofs.elements.Elements.handle.Goals as goal

pub returns-in_default-clause-there : goal.returns-in_default-clause-there
returns-in_default-clause-there g c = ap is_some (sym (absent 0 c.args.self.now c.args.number (sym c.in_default.ensures)))

pub returns-in_default-clause-state : goal.returns-in_default-clause-state
returns-in_default-clause-state g c =
    ap (λ o. with_reaction c.args.self.now c.args.number (reaction g.E.Element.kind.handled c.args.now c.args.cause.now o)) (sym (absent 0 c.args.self.now c.args.number (sym c.in_default.ensures)))

pub returns-in_default-clause-actions : goal.returns-in_default-clause-actions
returns-in_default-clause-actions g c =
    sym (append-nil c.args.acts.now)
    ∙ ap (λ o. c.args.acts.now ++ asked (reaction g.E.Element.kind.handled c.args.now c.args.cause.now o)) (sym (absent 0 c.args.self.now c.args.number (sym c.in_default.ensures)))

pub index_mut-requires : goal.index_mut-requires
index_mut-requires g c =
    let below : c.in-Some.place < length c.self.inside.list.items = (here c.self.inside.list.items c.args.number c.in-Some.place (ap (λ l. place_from 0 l c.args.number) c.self.view_is ∙ sym c.in-Some.ensures)).below in
    omega (arith, c.self.inside.list.ok.0)

pub handle-requires-clause-meets : goal.handle-requires-clause-meets
handle-requires-clause-meets g c =
    let h = here c.self.inside.list.items c.args.number c.in-Some.place (ap (λ l. place_from 0 l c.args.number) c.self.view_is ∙ sym c.in-Some.ensures) in
    let e = entry_is c.self.inside.list.items c.args.number c.in-Some.place h c.index_mut.result.now c.index_mut.ensures.value in
    c.requires.meets c.index_mut.result.now.1 (ap (λ l. state_of l c.args.number) (sym c.self.view_is) ∙ h.state ∙ ap (λ (x : ℕ × g.row.E.Denot). Some x.1) e)

pub invariant_of-self : goal.invariant_of-self
invariant_of-self g c n =
    let h = here c.self.inside.list.items c.args.number c.in-Some.place (ap (λ l. place_from 0 l c.args.number) c.self.view_is ∙ sym c.in-Some.ensures) in
    c.self.invariant n ∙ sym (places_stay 0 c.self.inside.list.items c.in-Some.place n c.index_mut.result.now c.handle.new.self (get_some c.self.inside.list.items c.in-Some.place c.index_mut.result.now h.below c.index_mut.ensures.value))

pub invariant_of-self-2 : goal.invariant_of-self-2
invariant_of-self-2 g c n =
    let h = here c.self.inside.list.items c.args.number c.in-Some.place (ap (λ l. place_from 0 l c.args.number) c.self.view_is ∙ sym c.in-Some.ensures) in
    c.self.invariant n ∙ sym (places_stay 0 c.self.inside.list.items c.in-Some.place n c.index_mut.result.now c.handle.new.self (get_some c.self.inside.list.items c.in-Some.place c.index_mut.result.now h.below c.index_mut.ensures.value))

pub returns-clause-there : goal.returns-clause-there
returns-clause-there g c =
    let h = here c.self.inside.list.items c.args.number c.in-Some.place (ap (λ l. place_from 0 l c.args.number) c.self.view_is ∙ sym c.in-Some.ensures) in
    ap is_some (sym (ap (λ l. state_of l c.args.number) (sym c.self.view_is) ∙ h.state))

pub returns-clause-state : goal.returns-clause-state
returns-clause-state g c =
    let xs = c.self.inside.list.items in
    let n = c.args.number in
    let kind = g.E.Element.kind in
    let h = here xs n c.in-Some.place (ap (λ l. place_from 0 l n) c.self.view_is ∙ sym c.in-Some.ensures) in
    let e = entry_is xs n c.in-Some.place h c.index_mut.result.now c.index_mut.ensures.value in
    let state : state_of xs n ≡ Some c.index_mut.result.now.1 = h.state ∙ ap (λ (x : ℕ × g.row.E.Denot). Some x.1) e in
    ap (λ (x : ℕ × g.row.E.Denot). slice_set xs c.in-Some.place (x.0, c.handle.new.self)) (sym e)
    ∙ sym (h.written c.handle.new.self)
    ∙ ap (λ s. with_reaction xs n (Some (record { state = s; actions = (kind.handled c.index_mut.result.now.1 c.args.now c.args.cause.now).actions }))) c.in_ok-handle.ensures.state
    ∙ ap (λ o. with_reaction xs n (reaction kind.handled c.args.now c.args.cause.now o)) (sym state)
    ∙ ap (λ l. with_reaction l n (reaction kind.handled c.args.now c.args.cause.now (state_of l n))) c.self.view_is

pub returns-clause-actions : goal.returns-clause-actions
returns-clause-actions g c =
    let xs = c.self.inside.list.items in
    let n = c.args.number in
    let kind = g.E.Element.kind in
    let h = here xs n c.in-Some.place (ap (λ l. place_from 0 l n) c.self.view_is ∙ sym c.in-Some.ensures) in
    let e = entry_is xs n c.in-Some.place h c.index_mut.result.now c.index_mut.ensures.value in
    let state : state_of xs n ≡ Some c.index_mut.result.now.1 = h.state ∙ ap (λ (x : ℕ × g.row.E.Denot). Some x.1) e in
    c.in_ok-handle.ensures.actions
    ∙ ap (λ o. c.args.acts.now ++ asked (reaction kind.handled c.args.now c.args.cause.now o)) (sym state)
    ∙ ap (λ l. c.args.acts.now ++ asked (reaction kind.handled c.args.now c.args.cause.now (state_of l n))) c.self.view_is
