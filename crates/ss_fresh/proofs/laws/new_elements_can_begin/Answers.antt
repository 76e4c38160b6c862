use Rattle.ss_fresh.proofs.Routers.{router_begins}
use Rattle.ss_fresh.proofs.Endpoints.{endpoint_begins}
use Rattle.ss_fresh.proofs.laws.new_elements_can_begin.Goals as goal

pub returns-clause-routers : goal.returns-clause-routers
returns-clause-routers c = router_begins

pub returns-clause-endpoints : goal.returns-clause-endpoints
returns-clause-endpoints c = endpoint_begins
