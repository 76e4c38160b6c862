use Rattle.ss_safe.specs.Worlds.{within_capacity}
use Rattle.ss_safe.proofs.nothing_overflows.Goals as goal

pub returns : goal.returns
returns g c = within_capacity g.E.Element.kind g.E.Local.allowed
