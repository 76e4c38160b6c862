use Rattle.mr_router.specs.Kept.Balance.{router_balances}
use Rattle.mr_router.proofs.laws.a_router_keeps_the_balance.Goals as goal

pub returns : goal.returns
returns c = router_balances
