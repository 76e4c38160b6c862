use Rattle.std.proofs.Common.{◌≡◌, drop}
use Rattle.ss_library.specs.Tables.{given, param_text}
use Rattle.ss_library.proofs.param.row_value.Given as goal

abbrev pub invariant-loop-param : goal.invariant-loop-param
invariant-loop-param l = given l.params (param_text l.row.name) ≡ given (drop l.param-index l.params) (param_text l.row.name)
