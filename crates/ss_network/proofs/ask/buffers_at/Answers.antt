use Rattle.std.proofs.Common.{◌∷◌, []}
use Rattle.std.proofs.lemmas.Result.{err_from_is_err_and}
use Rattle.ss_graph.proofs.Judging.{fails_front, exits}
use Rattle.ss_network.specs.Faults.{is_memory}
use Rattle.ss_network.specs.Params.{input_buf_row, output_buf_row}
use Rattle.ss_network.specs.Asks.{buffer_check, buffers_checks}
use Rattle.ss_network.proofs.ask.buffers_at.Goals as goal

pub returns-in_err-input : goal.returns-in_err-input
unfolding buffers_checks
returns-in_err-input c =
    let p = err_from_is_err_and c.from_residual.result c.from_residual.ensures.1 in
    let a = buffer_check c.args.index c.args.flit c.args.time c.args.period c.args.params.now input_buf_row in
    let b = buffer_check c.args.index c.args.flit c.args.time c.args.time c.args.params.now output_buf_row in
    exits _ _ _ _ _ _ _ p.1 p.2 (fails_front is_memory _ (a ∷ []) (b ∷ []) c.in_err-input.ensures)
