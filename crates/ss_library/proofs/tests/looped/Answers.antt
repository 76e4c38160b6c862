use Rattle.std.proofs.Common.{refl}
use Rattle.std.specs.List.{IsDistinct}
use Rattle.ss_library.proofs.tests.looped.Goals as goal

pub graph-requires-clause-ends : goal.graph-requires-clause-ends
unfolding IsDistinct
graph-requires-clause-ends c = rw (c.in_ok-push.ensures.items, c.new-links.ensures.items, c.in_ok-new-2.ensures, c.in_ok-new-3.ensures) ((refl, tt), (tt, tt))
