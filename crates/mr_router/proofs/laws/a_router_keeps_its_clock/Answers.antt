use Rattle.mr_router.specs.Kept.Acting.{router_clocks}
use Rattle.mr_router.proofs.laws.a_router_keeps_its_clock.Goals as goal

pub returns : goal.returns
returns c = router_clocks
