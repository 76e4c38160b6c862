use Rattle.mr_flow.proofs.Flows.{sent_departs}
use Rattle.mr_flow.proofs.laws.sent_packets_depart.Goals as goal

pub returns : goal.returns
returns c = sent_departs
