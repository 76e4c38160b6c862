use Rattle.ss_join.proofs.window.final_time.Given as goal

abbrev pub ghost-greatest_last : goal.ghost-greatest_last
ghost-greatest_last g a = g.at
