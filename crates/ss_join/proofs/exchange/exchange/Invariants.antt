use Rattle.ss_join.specs.Between.{AllBetween}
use Rattle.ss_join.proofs.exchange.exchange.Given as goal

abbrev pub ghost-exchange_from : goal.ghost-exchange_from
ghost-exchange_from g a = g.at

abbrev pub invariant-loop-giver : goal.invariant-loop-giver
invariant-loop-giver g l = AllBetween g.at l.giver 0 l.workers.items
