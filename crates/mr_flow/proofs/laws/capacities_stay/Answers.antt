use Rattle.mr_flow.proofs.Flows.{capacity_stays}
use Rattle.mr_flow.proofs.laws.capacities_stay.Goals as goal

pub returns : goal.returns
returns c = capacity_stays
