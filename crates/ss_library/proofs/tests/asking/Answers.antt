use Rattle.std.specs.List.{IsDistinct}
use Rattle.ss_library.proofs.tests.asking.Goals as goal

pub graph-requires-clause-ends : goal.graph-requires-clause-ends
unfolding IsDistinct
graph-requires-clause-ends c = rw c.new-2.ensures.items tt
