use Rattle.mr_flow.proofs.Flows.{taken_count}
use Rattle.mr_flow.proofs.laws.taken_packets_are_counted.Goals as goal

pub returns : goal.returns
returns c = taken_count
