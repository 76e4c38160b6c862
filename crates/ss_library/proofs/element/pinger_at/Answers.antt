use Rattle.std.proofs.Common.{arith}
use Rattle.ss_library.proofs.Values.{count_fits}
use Rattle.ss_library.proofs.element.pinger_at.Goals as goal

pub overflow_cast-result : goal.overflow_cast-result
overflow_cast-result c = omega (arith, count_fits c.as_slice.result.now, c.in_ok-count.ensures.1)
