use Rattle.ss_top.proofs.Joining.{run_named}
use Rattle.ss_top.proofs.join.join_workers.Given as goal

abbrev pub ghost-run_joined : goal.ghost-run_joined
ghost-run_joined g a = run_named a.workers.now.items
