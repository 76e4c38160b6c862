use Rattle.std.proofs.Common.{◌≡◌, drop}
use Rattle.ss_graph.specs.Components.{given}
use Rattle.ss_graph.proofs.param.delay_in.Given as goal

abbrev pub invariant-loop-param : goal.invariant-loop-param
invariant-loop-param l = given l.params l.name ≡ given (drop l.param-index l.params) l.name
