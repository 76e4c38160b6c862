use Rattle.ss_safe.specs.Worlds.{until_safe}
use Rattle.ss_safe.proofs.a_run_stays_safe.Goals as goal

pub returns : goal.returns
returns g c = until_safe g.E.Element.kind g.E.Local.allowed g.met.E.Local.local
