use Rattle.mr_works.proofs.Expecting.{routers_end_none, endpoints_end_theirs}
use Rattle.mr_works.proofs.flows_end_at_their_endpoints.Goals as goal

pub returns : goal.returns
returns c = record { routers = routers_end_none; endpoints = endpoints_end_theirs }
