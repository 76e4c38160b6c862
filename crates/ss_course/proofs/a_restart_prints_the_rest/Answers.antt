use Rattle.ss_course.proofs.Restarted.{restarts_print}
use Rattle.ss_course.proofs.a_restart_prints_the_rest.Goals as goal

pub returns : goal.returns
returns g c = restarts_print g.E.Element.kind g.E.Local.allowed g.E.Element.saving g.met.E.Local.local g.met.E.Local.saves g.E.Simulated.meaning g.E.Element.safe g.met.E.Local.tied g.met.E.Simulated.opens
