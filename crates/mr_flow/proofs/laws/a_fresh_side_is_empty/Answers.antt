use Rattle.mr_flow.proofs.Flows.{fresh_counts}
use Rattle.mr_flow.proofs.laws.a_fresh_side_is_empty.Goals as goal

pub returns : goal.returns
returns c = fresh_counts
