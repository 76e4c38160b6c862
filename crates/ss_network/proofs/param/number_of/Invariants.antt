use Rattle.std.proofs.Common.{◌≡◌, drop}
use Rattle.ss_network.specs.Params.{given, param_text}
use Rattle.ss_network.proofs.param.number_of.Given as goal

abbrev pub invariant-loop-param : goal.invariant-loop-param
invariant-loop-param l = given l.params (param_text l.row.name) ≡ given (drop l.param-index l.params) (param_text l.row.name)
