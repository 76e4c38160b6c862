use Rattle.mr_router.specs.Kept.Keeping.{router_keeps}
use Rattle.mr_router.proofs.laws.a_router_keeps_fitting.Goals as goal

pub returns : goal.returns
returns c = router_keeps
