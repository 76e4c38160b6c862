use Rattle.mr_wired.proofs.Expecting.{networks_expect_what_comes}
use Rattle.mr_wired.proofs.networks_expect_what_comes.Goals as goal

pub returns : goal.returns
returns g c = networks_expect_what_comes g.E.Element.kind g.E.Local.allowed
