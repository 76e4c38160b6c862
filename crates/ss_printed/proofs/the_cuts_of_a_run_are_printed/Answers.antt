use Rattle.ss_printed.proofs.Printing.{cuts_are_printed}
use Rattle.ss_printed.proofs.the_cuts_of_a_run_are_printed.Goals as goal

pub returns : goal.returns
returns g c = cuts_are_printed g.E.Element.kind g.E.Element.saving g.E.Simulated.meaning
