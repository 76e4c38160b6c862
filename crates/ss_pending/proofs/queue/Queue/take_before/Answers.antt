use Rattle.std.proofs.Common.{sym, subst}
use Rattle.ss_pending.specs.Filed.{in_order}
use Rattle.ss_pending.specs.Loads.{Kept}
use Rattle.ss_pending.proofs.Stored.{first_takes, first_kept}
use Rattle.ss_pending.proofs.queue.Queue.take_before.Goals as goal

pub unstore-load-requires : goal.unstore-load-requires
unstore-load-requires g c = first_takes c.in_ok-first.first.event (in_order c.take.new.queue) c.self.inside.loads (subst (λ es. Kept es c.self.inside.loads) c.in_ok-first.ensures.some c.self.invariant.2)

pub invariant_of-self-2 : goal.invariant_of-self-2
invariant_of-self-2 g c =
    (c.in_ok-first.ensures.different, c.in_ok-first.ensures.below c.self.inside.next c.self.invariant.1, subst (Kept (in_order c.take.new.queue)) (sym c.unstore-load.ensures.left) (first_kept c.in_ok-first.first.event (in_order c.take.new.queue) c.self.inside.loads (subst (λ es. Kept es c.self.inside.loads) c.in_ok-first.ensures.some c.self.invariant.2)))
