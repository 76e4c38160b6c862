use Rattle.ss_rest.proofs.Restarting.{saved_stands, restarts}
use Rattle.ss_rest.proofs.a_restart_prints_the_rest.Goals as goal

pub returns-clause-stands : goal.returns-clause-stands
returns-clause-stands g c = λ r o t x fit runs p. saved_stands g.E.Element.kind g.E.Simulated.meaning g.E.Element.safe g.met.E.Simulated.opens r o t x fit runs p

pub returns-clause-rest : goal.returns-clause-rest
returns-clause-rest g c = λ r later o t n fit fits run at on. restarts g.E.Element.kind g.E.Simulated.meaning r later o t n fit fits run at on
