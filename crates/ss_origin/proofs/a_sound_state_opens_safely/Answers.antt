use Rattle.ss_origin.proofs.Opens.{sound_opens}
use Rattle.ss_origin.proofs.a_sound_state_opens_safely.Goals as goal

pub returns : goal.returns
returns g c = sound_opens g.E.Element.kind g.E.Local.allowed g.E.Element.saving g.met.E.Local.local g.met.E.Local.saves
