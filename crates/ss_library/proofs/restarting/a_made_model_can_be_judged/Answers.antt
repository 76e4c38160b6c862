use Rattle.ss_library.proofs.Judged.{can_be_judged}
use Rattle.ss_library.proofs.restarting.a_made_model_can_be_judged.Goals as goal

pub returns : goal.returns
returns c = can_be_judged
