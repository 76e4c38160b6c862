use Rattle.ss_safe.proofs.Soundness.{sound_is_safe}
use Rattle.ss_safe.proofs.a_sound_state_is_safe.Goals as goal

pub returns : goal.returns
returns g c = sound_is_safe g.E.Element.kind g.E.Local.allowed g.E.Element.saving g.met.E.Local.local g.met.E.Local.saves
