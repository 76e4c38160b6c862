use Rattle.ss_safe.proofs.Soundness.{run_is_read}
use Rattle.ss_safe.proofs.a_run_can_be_saved.Goals as goal

pub returns : goal.returns
returns g c w firsts now t n s safe alike above early until = run_is_read g.E.Element.kind g.E.Local.allowed g.E.Element.saving g.met.E.Local.local g.met.E.Local.saves w now t n s safe above early until firsts alike
