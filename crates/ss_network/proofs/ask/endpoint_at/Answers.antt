use Rattle.std.proofs.Common.{◌≡◌, ◌∷◌, [], ◌++◌, None, ap, ◌∙◌}
use Rattle.std.proofs.lemmas.Result.{err_from_is_err_and}
use Rattle.ss_units.specs.Units.{flit_ps}
use Rattle.ss_graph.specs.Checks.{first_fault}
use Rattle.ss_graph.proofs.Judging.{fails_front, fails_behind, exits}
use Rattle.ss_network.specs.declared.ask.Pace.{Pace}
use Rattle.ss_network.specs.Faults.{is_memory}
use Rattle.ss_network.specs.Params.{row_check, id_row, num_peers_row, num_messages_row, message_size_row, verbose_row}
use Rattle.ss_network.specs.Asks.{pace_checks, pace_of, buffers_checks, line_time, endpoint_checks}
use Rattle.ss_network.proofs.Chains.{fails_in, three_pass, four_pass, same_buffers, fails_same}
use Rattle.ss_network.proofs.ask.endpoint_at.Goals as goal

pub returns-in_err-message : goal.returns-in_err-message
unfolding endpoint_checks
returns-in_err-message c =
    let p = err_from_is_err_and c.from_residual-in_err-message.result c.from_residual-in_err-message.ensures.1 in
    let i = c.args.index in
    let ps = c.args.params.now in
    let a = row_check i ps id_row in
    let b = row_check i ps num_peers_row in
    let d = row_check i ps num_messages_row in
    let f = row_check i ps message_size_row in
    let rest = pace_checks i ps ++ (buffers_checks i (pace_of ps).flit_bits (line_time ps) (line_time ps) ps ++ (row_check i ps verbose_row ∷ [])) in
    exits _ _ _ _ _ _ _ p.1 p.2 (fails_front is_memory _ (a ∷ b ∷ d ∷ f ∷ []) rest (fails_behind is_memory _ (a ∷ b ∷ d ∷ []) (f ∷ []) (three_pass a b d c.in_ok-id.ensures.judged.0 c.in_ok-peers.ensures.judged.0 c.in_ok-messages.ensures.judged.0) c.in_err-message.ensures.judged))

pub returns-in_err-pace : goal.returns-in_err-pace
unfolding endpoint_checks
returns-in_err-pace c =
    let p = err_from_is_err_and c.from_residual-in_err-pace.result c.from_residual-in_err-pace.ensures.1 in
    let i = c.args.index in
    let ps = c.args.params.now in
    let a = row_check i ps id_row in
    let b = row_check i ps num_peers_row in
    let d = row_check i ps num_messages_row in
    let f = row_check i ps message_size_row in
    let rest = buffers_checks i (pace_of ps).flit_bits (line_time ps) (line_time ps) ps ++ (row_check i ps verbose_row ∷ []) in
    exits _ _ _ _ _ _ _ p.1 p.2 (fails_in _ (a ∷ b ∷ d ∷ f ∷ []) (pace_checks i ps) rest (four_pass a b d f c.in_ok-id.ensures.judged.0 c.in_ok-peers.ensures.judged.0 c.in_ok-messages.ensures.judged.0 c.in_ok-message.ensures.judged.0) c.in_err-pace.ensures.judged)

pub returns-in_err-buffers : goal.returns-in_err-buffers
unfolding endpoint_checks
returns-in_err-buffers c =
    let p = err_from_is_err_and c.from_residual-in_err-buffers.result c.from_residual-in_err-buffers.ensures.1 in
    let i = c.args.index in
    let ps = c.args.params.now in
    let a = row_check i ps id_row in
    let b = row_check i ps num_peers_row in
    let d = row_check i ps num_messages_row in
    let f = row_check i ps message_size_row in
    let pe = c.in_ok-pace.ensures.judged.1 in
    let te = c.flit_time-time.ensures ∙ ap (λ (q : Pace). flit_ps q.flit_bits q.link) pe in
    let h = fails_same _ i ps _ (pace_of ps).flit_bits _ (line_time ps) _ (line_time ps) (ap (λ (q : Pace). q.flit_bits) pe) te te c.in_err-buffers.ensures in
    exits _ _ _ _ _ _ _ p.1 p.2 (fails_behind is_memory _ (a ∷ b ∷ d ∷ f ∷ []) (pace_checks i ps ++ (buffers_checks i (pace_of ps).flit_bits (line_time ps) (line_time ps) ps ++ (row_check i ps verbose_row ∷ []))) (four_pass a b d f c.in_ok-id.ensures.judged.0 c.in_ok-peers.ensures.judged.0 c.in_ok-messages.ensures.judged.0 c.in_ok-message.ensures.judged.0)
    (fails_in _ (pace_checks i ps) (buffers_checks i (pace_of ps).flit_bits (line_time ps) (line_time ps) ps) (row_check i ps verbose_row ∷ []) c.in_ok-pace.ensures.judged.0 h))

pub returns-in_err-verbose : goal.returns-in_err-verbose
unfolding endpoint_checks
returns-in_err-verbose c =
    let p = err_from_is_err_and c.from_residual-in_err-verbose.result c.from_residual-in_err-verbose.ensures.1 in
    let i = c.args.index in
    let ps = c.args.params.now in
    let a = row_check i ps id_row in
    let b = row_check i ps num_peers_row in
    let d = row_check i ps num_messages_row in
    let f = row_check i ps message_size_row in
    let pe = c.in_ok-pace.ensures.judged.1 in
    let te = c.flit_time-time.ensures ∙ ap (λ (q : Pace). flit_ps q.flit_bits q.link) pe in
    let h = same_buffers (λ cs. first_fault cs ≡ None) i ps _ (pace_of ps).flit_bits _ (line_time ps) _ (line_time ps) (ap (λ (q : Pace). q.flit_bits) pe) te te c.in_ok-buffers.ensures.0 in
    exits _ _ _ _ _ _ _ p.1 p.2 (fails_behind is_memory _ (a ∷ b ∷ d ∷ f ∷ []) (pace_checks i ps ++ (buffers_checks i (pace_of ps).flit_bits (line_time ps) (line_time ps) ps ++ (row_check i ps verbose_row ∷ []))) (four_pass a b d f c.in_ok-id.ensures.judged.0 c.in_ok-peers.ensures.judged.0 c.in_ok-messages.ensures.judged.0 c.in_ok-message.ensures.judged.0)
    (fails_behind is_memory _ (pace_checks i ps) (buffers_checks i (pace_of ps).flit_bits (line_time ps) (line_time ps) ps ++ (row_check i ps verbose_row ∷ [])) c.in_ok-pace.ensures.judged.0
    (fails_behind is_memory _ (buffers_checks i (pace_of ps).flit_bits (line_time ps) (line_time ps) ps) (row_check i ps verbose_row ∷ []) h c.in_err-verbose.ensures.judged)))
