use Rattle.ss_model.proofs.Ends.{run_one}
use Rattle.ss_model.proofs.a_run_has_one_outcome.Goals as goal

pub returns : goal.returns
returns g c = λ b w l s o p x y. run_one b w l s o p x y
