use Rattle.std.proofs.Common.{◌∷◌, []}
use Rattle.std.proofs.lemmas.Result.{err_from_is_err_and}
use Rattle.ss_graph.proofs.Judging.{passes, fails_behind, exits}
use Rattle.ss_network.specs.Faults.{is_memory}
use Rattle.ss_network.specs.Params.{row_check, num_vns_row, flit_size_row, link_bw_row}
use Rattle.ss_network.specs.Asks.{pace_checks}
use Rattle.ss_network.proofs.ask.pace_at.Goals as goal

pub returns-in_err-link-clause-judged : goal.returns-in_err-link-clause-judged
unfolding pace_checks
returns-in_err-link-clause-judged c =
    let p = err_from_is_err_and c.from_residual-in_err-link.result c.from_residual-in_err-link.ensures.1 in
    let a = row_check c.args.index c.args.params.now num_vns_row in
    let b = row_check c.args.index c.args.params.now flit_size_row in
    let d = row_check c.args.index c.args.params.now link_bw_row in
    exits _ _ _ _ _ _ _ p.1 p.2 (fails_behind is_memory _ (a ∷ b ∷ []) (d ∷ []) (passes (a ∷ []) (b ∷ []) c.in_ok-vns.ensures.judged.0 c.in_ok-flit_bits.ensures.judged.0) c.in_err-link.ensures.judged)
