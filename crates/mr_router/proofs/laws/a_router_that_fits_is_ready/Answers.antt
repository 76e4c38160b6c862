use Rattle.mr_router.specs.Kept.Keeping.{router_is_ready}
use Rattle.mr_router.proofs.laws.a_router_that_fits_is_ready.Goals as goal

pub returns : goal.returns
returns c = router_is_ready
