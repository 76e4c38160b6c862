use Rattle.mr_flow.proofs.Flows.{sent_takes_its_time}
use Rattle.mr_flow.proofs.laws.sent_packets_take_their_time.Goals as goal

pub returns : goal.returns
returns c = sent_takes_its_time
