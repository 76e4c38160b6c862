use Rattle.ss_pending.proofs.Roads.{all_pushed}
use Rattle.ss_pending.proofs.Turns.{turn_pushed}
use Rattle.ss_pending.proofs.road.place_for.Goals as goal

pub returns-then-count-lt-MOST-clause-same : goal.returns-then-count-lt-MOST-clause-same
returns-then-count-lt-MOST-clause-same g c = all_pushed _ _ _ c.in_ok-push.ensures.items c.in_ok-new.ensures

pub returns-then-count-lt-MOST-clause-turn : goal.returns-then-count-lt-MOST-clause-turn
returns-then-count-lt-MOST-clause-turn g c = turn_pushed _ _ _ c.in_ok-push.ensures.items c.in_ok-new.ensures c.requires
