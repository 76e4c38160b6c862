use Rattle.std.proofs.Common.{subst}
use Rattle.ss_join.specs.declared.lead.LeadFault.TheVariants.{NoMemory}
use Rattle.ss_join.specs.Checkpoints.{IsOpening}
use Rattle.ss_join.proofs.Going.{begins_broken, begins_told}
use Rattle.ss_join.proofs.begin.Goals as goal

pub returns-in_default-clause-begins : goal.returns-in_default-clause-begins
returns-in_default-clause-begins g c =
    begins_broken g.E.Element.kind g.E.Element.safe g.met.E.Element.laws g.E.Simulated.meaning g.met.E.Simulated.opens g.run c.requires.1.1.1.0 g.E.Element.saving (g.D.Lead.seen c.args.lead.now) NoMemory c.requires.1.1.1.1.1.1

pub returns-in-Some-clause-begins : goal.returns-in-Some-clause-begins
returns-in-Some-clause-begins g c =
    begins_told g.E.Element.kind g.E.Element.safe g.met.E.Element.laws g.E.Simulated.meaning g.met.E.Simulated.opens g.run c.requires.1.1.1.0 g.E.Element.saving c.in-Some.cut c.cut-in-Some.result (g.D.Lead.seen c.args.lead.now) (g.D.Lead.seen c.cut-in-Some.new.self) c.requires.1.1.1.1.1.1
    (subst (IsOpening g.E.Element.kind g.E.Element.saving g.E.Simulated.meaning g.run) c.in-Some.is c.in-Ok.ensures) c.cut-in-Some.ensures.told
