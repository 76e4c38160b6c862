use Rattle.mr_router.specs.Kept.Lawful.{router_laws}
use Rattle.mr_router.proofs.laws.a_router_keeps_the_laws_of_a_kind.Goals as goal

pub returns : goal.returns
returns c = router_laws
