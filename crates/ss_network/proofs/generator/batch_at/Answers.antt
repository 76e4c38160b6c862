use Rattle.std.proofs.Common.{◌∷◌, []}
use Rattle.std.proofs.lemmas.Result.{err_from_is_err_and}
use Rattle.ss_graph.proofs.Judging.{passes, fails_behind, exits}
use Rattle.ss_network.specs.Faults.{is_memory}
use Rattle.ss_network.specs.Params.{row_check, pattern_check, packets_row, packet_size_row}
use Rattle.ss_network.specs.Asks.{batch_checks}
use Rattle.ss_network.proofs.generator.batch_at.Goals as goal

pub returns-in_err-bits : goal.returns-in_err-bits
unfolding batch_checks
returns-in_err-bits c =
    let p = err_from_is_err_and c.from_residual-in_err-bits.result c.from_residual-in_err-bits.ensures.1 in
    let a = pattern_check c.args.index c.args.params.now in
    let b = row_check c.args.index c.args.params.now packets_row in
    let d = row_check c.args.index c.args.params.now packet_size_row in
    exits _ _ _ _ _ _ _ p.1 p.2 (fails_behind is_memory _ (a ∷ b ∷ []) (d ∷ []) (passes (a ∷ []) (b ∷ []) c.in_ok-pattern.ensures.0 c.in_ok-count.ensures.judged.0) c.in_err-bits.ensures.judged)
