use Rattle.std.proofs.lemmas.Option.{IfSome_then}
use Rattle.ss_pending.specs.Filed.{AllBelow, Different}
use Rattle.ss_pending.proofs.Sorting.{taken, taken_different, taken_below}
use Rattle.ss_pending.proofs.Lanes.{kept}
use Rattle.ss_pending.proofs.Roads.{none_kept, none_in_order}
use Rattle.ss_pending.proofs.queue.take.Goals as goal

pub returns-clause-some : goal.returns-clause-some
returns-clause-some g c = IfSome_then c.take.result c.take.ensures.some (λ x t. taken x _ _ t c.requires)

pub returns-clause-none : goal.returns-clause-none
returns-clause-none g c = none_in_order c.take.result _ _ c.take.ensures.none

pub returns-clause-different : goal.returns-clause-different
returns-clause-different g c = kept Different (λ x old new t d. taken_different x old new t d) c.take.result _ _ c.take.ensures.some (none_kept c.take.result _ _ c.take.ensures.none) c.requires

pub returns-clause-below : goal.returns-clause-below
returns-clause-below g c n b = kept (AllBelow n) (λ x old new t d. taken_below n x old new t d) c.take.result _ _ c.take.ensures.some (none_kept c.take.result _ _ c.take.ensures.none) b
