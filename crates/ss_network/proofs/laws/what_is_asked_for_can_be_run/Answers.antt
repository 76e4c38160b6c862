use Rattle.ss_network.proofs.Ranges.{router_fits, endpoint_fits, generator_fits}
use Rattle.ss_network.proofs.laws.what_is_asked_for_can_be_run.Goals as goal

pub returns-clause-routers : goal.returns-clause-routers
returns-clause-routers c = router_fits

pub returns-clause-endpoints : goal.returns-clause-endpoints
returns-clause-endpoints c = endpoint_fits

pub returns-clause-generators : goal.returns-clause-generators
returns-clause-generators c = generator_fits
