use Rattle.std.proofs.Common.{◌∙◌, ap, subst, sym}
use Rattle.ss_library.specs.declared.kinds.Any.TheVariants as any
use Rattle.ss_library.specs.Kinds.{any_meets}
use Rattle.ss_library.proofs.kinds.AnyElement.handle.Goals as goal

pub handle-requires-in-Router-clause-meets : goal.handle-requires-in-Router-clause-meets
handle-requires-in-Router-clause-meets c =
    let is = c.in-Router.is ∙ ap any.Router (sym c.get_mut-in-Router.ensures.value) in
    subst (λ x. any_meets x c.args.now c.args.cause.now) is c.requires.meets
