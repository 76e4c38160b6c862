use Rattle.ss_join.specs.Between.{AllBetween}
use Rattle.ss_join.proofs.exchange.exchange_from.Given as goal

abbrev pub invariant-loop-taker : goal.invariant-loop-taker
invariant-loop-taker g l = AllBetween g.at l.giver l.taker l.workers.items
