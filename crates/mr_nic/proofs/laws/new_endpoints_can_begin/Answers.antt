use Rattle.mr_nic.specs.Kept.Fresh.{test_begins, traffic_begins}
use Rattle.mr_nic.proofs.laws.new_endpoints_can_begin.Goals as goal

pub returns : goal.returns
returns c = record { tests = test_begins; traffic = traffic_begins }
