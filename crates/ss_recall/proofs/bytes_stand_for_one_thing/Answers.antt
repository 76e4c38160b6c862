use Rattle.ss_recall.proofs.Laws.{one_thing}
use Rattle.ss_recall.proofs.bytes_stand_for_one_thing.Goals as goal

pub returns : goal.returns
returns c bytes = one_thing bytes
