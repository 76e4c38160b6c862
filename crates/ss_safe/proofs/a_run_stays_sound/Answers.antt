use Rattle.ss_safe.proofs.Soundness.{run_is_sound}
use Rattle.ss_safe.proofs.a_run_stays_sound.Goals as goal

pub returns : goal.returns
returns g c = run_is_sound g.E.Element.kind g.E.Local.allowed g.E.Element.saving g.met.E.Local.local g.met.E.Local.saves
