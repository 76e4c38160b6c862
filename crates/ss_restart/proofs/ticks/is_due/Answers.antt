use Rattle.std.proofs.lemmas.Bool.{false≢true}
use Rattle.ss_restart.proofs.ticks.is_due.Goals as goal

pub returns-in-None : goal.returns-in-None
returns-in-None g c = (λ h. absurd (false≢true h), λ h. absurd (c.in-None.ensures c.args.key.time h.1))
