use Rattle.mr_works.proofs.Fresh.{routers_begin_empty, tests_begin_fresh, traffic_begins_fresh}
use Rattle.mr_works.proofs.what_was_made_begins_fresh.Goals as goal

pub returns : goal.returns
returns c = record { routers = routers_begin_empty; tests = tests_begin_fresh; traffic = traffic_begins_fresh }
