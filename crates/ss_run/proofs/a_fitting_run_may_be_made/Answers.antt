use Rattle.ss_run.proofs.Fitting.{fitting_runs}
use Rattle.ss_run.proofs.a_fitting_run_may_be_made.Goals as goal

pub returns : goal.returns
returns g c = fitting_runs g.E.Element.kind g.E.Element.safe g.E.Simulated.meaning g.met.E.Simulated.opens
