use Rattle.mr_flow.proofs.Flows.{packets_move}
use Rattle.mr_flow.proofs.laws.packets_move_from_front_to_back.Goals as goal

pub returns : goal.returns
returns c = packets_move
