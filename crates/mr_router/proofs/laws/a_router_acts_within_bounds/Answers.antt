use Rattle.mr_router.specs.Kept.Acting.{router_acts}
use Rattle.mr_router.proofs.laws.a_router_acts_within_bounds.Goals as goal

pub returns : goal.returns
returns c = router_acts
