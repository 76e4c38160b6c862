use Rattle.std.proofs.Common.{◌≡◌, [], subst}
use Rattle.std.specs.Option.{IfSome, IfNone}
use Rattle.ss_pending.specs.Filed.{Takes}
use Rattle.ss_pending.proofs.Roads.{first_goes}
use Rattle.ss_pending.proofs.ahead.Ahead.take.Goals as goal

pub returns-clause-some : goal.returns-clause-some
returns-clause-some g c =
    let s = subst (λ w. IfSome c.take-self-inside.result (λ x. Takes x w c.take-self-inside.new.self)) c.deref_mut.ensures.value c.take-self-inside.ensures.some in
    let n = subst (λ w. IfNone c.take-self-inside.result ((w ≡ []) × (c.take-self-inside.new.self ≡ []))) c.deref_mut.ensures.value c.take-self-inside.ensures.none in
    first_goes c.in_ok-first.first c.take-self-inside.result c.self.inside.first c.self.inside.rest.value c.take-self-inside.new.self c.in_ok-first.was c.self.invariant s n c.args.self.now c.self.view_is
