use Rattle.mr_moves.proofs.Proving.{numbers_place}
use Rattle.mr_moves.proofs.numbered_packets_are_in_one_place.Goals as goal

pub returns : goal.returns
returns g c = numbers_place
