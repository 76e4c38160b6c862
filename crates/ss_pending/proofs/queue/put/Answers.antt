use Rattle.ss_pending.proofs.Sorting.{pushed, pushed_different, pushed_below}
use Rattle.ss_pending.proofs.Lanes.{on_ok}
use Rattle.ss_pending.proofs.queue.put.Goals as goal

pub returns-clause-ok : goal.returns-clause-ok
returns-clause-ok g c = on_ok c.put.result c.put.ensures.ok (λ p. pushed c.args.filed _ _ p c.requires.different c.requires.below)

pub returns-clause-different : goal.returns-clause-different
returns-clause-different g c = on_ok c.put.result c.put.ensures.ok (λ p. pushed_different c.args.filed _ _ p c.requires.different c.requires.below)

pub returns-clause-below : goal.returns-clause-below
returns-clause-below g c = on_ok c.put.result c.put.ensures.ok (λ p. pushed_below c.args.filed _ _ p c.requires.below)
