use Rattle.ss_join.proofs.window.ending.Given as goal

abbrev pub ghost-final_time : goal.ghost-final_time
ghost-final_time g a = g.at
