use Rattle.std.proofs.Common.{subst}
use Rattle.std.proofs.lemmas.Result.{err_from_is_err_and}
use Rattle.ss_ckpt.specs.Views.{fields_of}
use Rattle.ss_recall.specs.Begun.{RefusesText}
use Rattle.ss_recall.proofs.Refusing.{text_refused}
use Rattle.ss_recall.proofs.recalling.recall.Goals as goal

pub returns-in_err-begun-clause-refused : goal.returns-in_err-begun-clause-refused
returns-in_err-begun-clause-refused c =
    let p = err_from_is_err_and c.from_residual-in_err-begun.result c.from_residual-in_err-begun.ensures.1 in
    let of_text = subst (λ t. RefusesText t c.in_err-begun.field-0.0) c.as_slice.ensures.value c.in_err-begun.ensures.refused in
    rw (p.1, p.2) (text_refused c.args.bytes.now (fields_of c.in_ok-head.head) c.in_ok-head.head.body c.in_err-begun.field-0.0 c.in_ok-head.ensures.found of_text)
