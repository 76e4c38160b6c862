use Rattle.mr_flow.proofs.Flows.{credits_pay}
use Rattle.mr_flow.proofs.laws.credits_pay_for_what_is_sent.Goals as goal

pub returns : goal.returns
returns c = credits_pay
