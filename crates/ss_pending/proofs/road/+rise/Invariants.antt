use Rattle.ss_pending.proofs.road.+rise.Given as goal

-- the places ahead
abbrev pub decreases-rise : goal.decreases-rise
decreases-rise g l = l.place
