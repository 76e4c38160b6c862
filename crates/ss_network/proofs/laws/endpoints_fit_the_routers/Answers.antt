use Rattle.ss_network.proofs.Alike.{all_guests}
use Rattle.ss_network.proofs.laws.endpoints_fit_the_routers.Goals as goal

pub returns-clause-guests : goal.returns-clause-guests
returns-clause-guests c = all_guests
