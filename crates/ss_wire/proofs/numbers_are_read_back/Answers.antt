use Rattle.ss_wire.proofs.Fields.{number_again}
use Rattle.ss_wire.proofs.numbers_are_read_back.Goals as goal

pub returns : goal.returns
returns c k n at rest lt = number_again k n at rest lt
