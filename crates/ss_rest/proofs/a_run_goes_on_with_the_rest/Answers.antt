use Rattle.ss_rest.proofs.Resting.{stands, goes_on}
use Rattle.ss_rest.proofs.a_run_goes_on_with_the_rest.Goals as goal

pub returns-clause-stands : goal.returns-clause-stands
returns-clause-stands g c = λ b w l s o t run above below. stands b w l s o t run above below

pub returns-clause-rest : goal.returns-clause-rest
returns-clause-rest g c = λ b w l s o t n run at. goes_on b w l s o t n run at
