use Rattle.ss_join.proofs.window.opening.Given as goal

abbrev pub ghost-first_pieces : goal.ghost-first_pieces
ghost-first_pieces g a = g.run
