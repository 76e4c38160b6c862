use Rattle.mr_flow.proofs.Flows.{arrivals_count}
use Rattle.mr_flow.proofs.laws.arrivals_are_counted.Goals as goal

pub returns : goal.returns
returns c = arrivals_count
