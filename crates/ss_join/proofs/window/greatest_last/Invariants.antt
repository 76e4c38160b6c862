use Rattle.ss_join.specs.Between.{IsGreatestLast}
use Rattle.ss_join.proofs.window.greatest_last.Given as goal

abbrev pub invariant-loop-worker : goal.invariant-loop-worker
invariant-loop-worker g l = IsGreatestLast g.E.Element.kind g.E.Simulated.meaning g.at.run g.at.windows l.worker-index l.greatest
