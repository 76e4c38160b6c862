use Rattle.ss_safe.specs.Worlds.{world_of}
use Rattle.ss_safe.proofs.local_laws_give_a_world.Goals as goal

pub returns : goal.returns
returns g c = world_of g.E.Element.kind g.E.Local.allowed g.met.E.Local.local
