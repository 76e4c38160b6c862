use Rattle.ss_join.proofs.Mixed.{next_giver}
use Rattle.ss_join.proofs.exchange.exchange.Goals as goal

pub loop-giver-preserved : goal.loop-giver-preserved
loop-giver-preserved g c = next_giver g.at c.loop-giver.giver c.args.parts c.exchange_from.new.workers.items c.requires.1.1.0 c.in_ok-exchange_from.ensures
