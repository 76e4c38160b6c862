use Rattle.std.proofs.Common.{◌∙◌}
use Rattle.ss_join.proofs.Mixed.{first_stands}
use Rattle.ss_join.proofs.window.ending.Goals as goal

pub returns-clause-windows : goal.returns-clause-windows
returns-clause-windows g c = c.windows.ensures ∙ (first_stands g.at.run g.at.windows c.args.workers.now.items c.index.result.now c.requires.1.1.0.some c.requires.1.1.1.0 c.index.ensures).windows
