use Rattle.ss_safe.specs.Worlds.{opening_safe}
use Rattle.ss_safe.proofs.an_opening_is_safe.Goals as goal

pub returns : goal.returns
returns g c = opening_safe g.E.Element.kind g.E.Local.allowed
