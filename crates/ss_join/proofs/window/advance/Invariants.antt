use Rattle.std.proofs.Common.{◌+◌}
use Rattle.ss_join.proofs.window.advance.Given as goal

abbrev pub ghost-exchange : goal.ghost-exchange
ghost-exchange g a = record { run = g.at.run; windows = g.at.windows + 1 }

abbrev pub ghost-gather : goal.ghost-gather
ghost-gather g a = record { run = g.at.run; windows = g.at.windows + 1 }
