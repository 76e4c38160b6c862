use Rattle.ss_graph.proofs.Fitting.{fit_answer}
use Rattle.ss_graph.proofs.reading.read.Goals as goal

pub returns-clause-fit : goal.returns-clause-fit
returns-clause-fit c = fit_answer c.args.text.now _ c.graph_at.result c.graph_at.ensures
