use Rattle.ss_origin.proofs.Opens.{spelled_opens}
use Rattle.ss_origin.proofs.a_spelled_state_opens.Goals as goal

pub returns : goal.returns
returns g c = spelled_opens g.E.Element.kind g.E.Local.allowed g.E.Element.saving g.met.E.Local.local g.met.E.Local.saves
