use Rattle.mr_works.proofs.Expecting.{endpoints_expect, routers_expect}
use Rattle.mr_works.proofs.endpoints_expect_what_comes.Goals as goal

pub returns : goal.returns
returns c = record { endpoints = endpoints_expect; routers = routers_expect }
