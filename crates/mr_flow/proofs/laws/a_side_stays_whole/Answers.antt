use Rattle.mr_flow.proofs.Flows.{stays_whole}
use Rattle.mr_flow.proofs.laws.a_side_stays_whole.Goals as goal

pub returns : goal.returns
returns c = stays_whole
