use Rattle.std.proofs.Common.{sym}
use Rattle.ss_network.proofs.Numbers.{number_fits}
use Rattle.ss_network.proofs.param.number_at.Goals as goal

pub returns-in-Some-clause-within : goal.returns-in-Some-clause-within
returns-in-Some-clause-within c = number_fits c.args.params.now c.args.row c.in-Some.value c.requires (sym c.in-Some.ensures)
