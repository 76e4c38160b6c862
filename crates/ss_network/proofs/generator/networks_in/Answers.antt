use Rattle.std.proofs.Common.{sym, arith}
use Rattle.ss_network.specs.Params.{num_vns_row}
use Rattle.ss_network.proofs.Numbers.{number_fits}
use Rattle.ss_network.proofs.generator.networks_in.Goals as goal

pub overflow_cast-result : goal.overflow_cast-result
overflow_cast-result c = omega (arith, (number_fits c.args.params.now num_vns_row c.in-Some.n (omega arith, omega arith) (sym c.in-Some.ensures)).1)

pub returns-in-Some-clause-few : goal.returns-in-Some-clause-few
returns-in-Some-clause-few c = (number_fits c.args.params.now num_vns_row c.in-Some.n (omega arith, omega arith) (sym c.in-Some.ensures)).1
