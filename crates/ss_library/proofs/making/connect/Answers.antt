use Rattle.std.proofs.lemmas.Result.{err_from_is_err_and}
use Rattle.ss_graph.proofs.Judging.{passes_exit}
use Rattle.ss_network.specs.Faults.{is_memory}
use Rattle.ss_library.proofs.Lines.{link_fails_right, link_fails_protocol}
use Rattle.ss_library.proofs.making.connect.Goals as goal

pub returns-in_err-right-clause-judged : goal.returns-in_err-right-clause-judged
returns-in_err-right-clause-judged c =
    let p = err_from_is_err_and c.from_residual-in_err-right.result c.from_residual-in_err-right.ensures.1 in
    passes_exit is_memory _ _ _ _ p.1 p.2 (link_fails_right _ c.as_slice-parts.result.now _ c.args.index c.args.join.now c.as_slice-parts.ensures c.in_ok-left.ensures.0 c.in_err-right.ensures)

pub returns-in_err-one_protocol-clause-judged : goal.returns-in_err-one_protocol-clause-judged
returns-in_err-one_protocol-clause-judged c =
    let p = err_from_is_err_and c.from_residual-in_err-one_protocol.result c.from_residual-in_err-one_protocol.ensures.1 in
    passes_exit is_memory _ _ _ _ p.1 p.2 (link_fails_protocol _ c.as_slice-parts.result.now _ c.args.index c.args.join.now c.as_slice-parts.ensures c.in_ok-left.ensures.0 c.in_ok-right.ensures.0 c.in_err-one_protocol.ensures)
