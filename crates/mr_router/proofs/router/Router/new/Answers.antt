use Rattle.std.proofs.Common.{length, ap, ◌∙◌, arith}
use Rattle.mr_router.proofs.Ports.{length-fresh}
use Rattle.mr_router.proofs.Known.{none_kept}
use Rattle.mr_router.proofs.Resting.{never_quiet}
use Rattle.mr_router.proofs.router.Router.new.Goals as goal

pub invariant_of-result : goal.invariant_of-result
invariant_of-result c =
    let long = ap length c.in_ok-ports.ensures ∙ length-fresh c.args.set 0 c.args.rooms.now in
    let few = c.requires.placed.few in
    let none = none_kept c.args.set _ _ c.in_ok-ways.ensures in
    (record { id = c.requires.placed.id; count = long ∙ c.requires.ports; few = omega (arith, few, long) }, none, never_quiet _ 0)
