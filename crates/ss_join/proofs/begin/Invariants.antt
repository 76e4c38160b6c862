use Rattle.ss_join.proofs.begin.Given as goal

abbrev pub ghost-opening : goal.ghost-opening
ghost-opening g a = g.run
