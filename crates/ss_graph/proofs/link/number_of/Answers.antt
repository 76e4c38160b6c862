use Rattle.std.proofs.Common.{◌∙◌}
use Rattle.ss_graph.proofs.Names.{place_name}
use Rattle.ss_graph.proofs.link.number_of.Goals as goal

pub returns-in-None : goal.returns-in-None
returns-in-None c = c.in-None.ensures.index ∙ place_name c.args.name.now c.args.names.now.keys

pub returns-in-Some : goal.returns-in-Some
returns-in-Some c = c.in-Some.ensures.index ∙ place_name c.args.name.now c.args.names.now.keys
