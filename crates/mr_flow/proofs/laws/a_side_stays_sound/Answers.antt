use Rattle.mr_flow.proofs.Flows.{stays_sound}
use Rattle.mr_flow.proofs.laws.a_side_stays_sound.Goals as goal

pub returns : goal.returns
returns c = stays_sound
