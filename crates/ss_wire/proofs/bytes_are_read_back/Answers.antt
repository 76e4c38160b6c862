use Rattle.ss_wire.proofs.Fields.{taken_again}
use Rattle.ss_wire.proofs.bytes_are_read_back.Goals as goal

pub returns : goal.returns
returns c b rest at = taken_again b rest at
