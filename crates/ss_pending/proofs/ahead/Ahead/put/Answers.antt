use Rattle.std.proofs.Common.{◌≡◌, ◌∷◌, sym, subst, ◌∙◌, OnOk, OnErr}
use Rattle.std.specs.List.Sorted.{IsPermutation}
use Rattle.ss_pending.proofs.Lanes.{on_ok}
use Rattle.ss_pending.proofs.Roads.{swapped, swapped_first, behind_first, still_first}
use Rattle.ss_pending.proofs.ahead.Ahead.put.Goals as goal

pub invariant_of-self-then-is_before : goal.invariant_of-self-then-is_before
invariant_of-self-then-is_before g c =
    let p = subst (λ w. IsPermutation (c.in-Some.first ∷ w) c.put_aside.new.self) c.deref_mut.ensures.value c.in_ok-put_aside-in-Some.ensures.ok in
    swapped_first c.args.filed c.in-Some.first c.self.inside.first c.self.inside.rest.value c.put_aside.new.self c.in-Some.is c.self.invariant (sym c.is_before.ensures ∙ c.if-is_before.true) p

pub invariant_of-self-else-is_before : goal.invariant_of-self-else-is_before
invariant_of-self-else-is_before g c =
    let p = subst (λ w. OnOk c.put.result (IsPermutation (c.args.filed ∷ w) c.put.new.self)) c.deref_mut-else-is_before.ensures.value c.put.ensures.ok in
    let e = subst (λ w. OnErr c.put.result (c.put.new.self ≡ w)) c.deref_mut-else-is_before.ensures.value c.put.ensures.err in
    still_first c.args.filed c.in-Some.first c.self.inside.first c.self.inside.rest.value c.put.new.self c.in-Some.is c.put.result c.self.invariant (sym c.is_before.ensures ∙ c.if-is_before.false) p e

pub returns-in_ok-put_aside-in-Some-clause-ok : goal.returns-in_ok-put_aside-in-Some-clause-ok
returns-in_ok-put_aside-in-Some-clause-ok g c =
    let p = subst (λ w. IsPermutation (c.in-Some.first ∷ w) c.put_aside.new.self) c.deref_mut.ensures.value c.in_ok-put_aside-in-Some.ensures.ok in
    swapped c.args.filed c.in-Some.first c.self.inside.first c.self.inside.rest.value c.put_aside.new.self c.in-Some.is c.args.self.now c.self.view_is p

pub returns-else-is_before-clause-ok : goal.returns-else-is_before-clause-ok
returns-else-is_before-clause-ok g c =
    let q = subst (λ w. OnOk c.put.result (IsPermutation (c.args.filed ∷ w) c.put.new.self)) c.deref_mut-else-is_before.ensures.value c.put.ensures.ok in
    on_ok c.put.result q (λ p. behind_first c.args.filed c.in-Some.first c.self.inside.first c.self.inside.rest.value c.put.new.self c.in-Some.is c.args.self.now c.self.view_is p)
