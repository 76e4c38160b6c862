use Rattle.std.proofs.lemmas.Result.{err_from_is_err_and}
use Rattle.ss_recall.proofs.Refusing.{head_refused}
use Rattle.ss_recall.proofs.recalling.head_of.Goals as goal

pub returns-in_err-head-clause-refused : goal.returns-in_err-head-clause-refused
returns-in_err-head-clause-refused c =
    let p = err_from_is_err_and c.from_residual.result c.from_residual.ensures.1 in
    rw (p.1, p.2) (head_refused c.args.bytes.now c.in_err-head.field-0.0 c.in_err-head.ensures.exact)
