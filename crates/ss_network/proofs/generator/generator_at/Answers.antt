use Rattle.std.proofs.Common.{◌≡◌, ℕ, List, ◌∷◌, [], ◌++◌, None, ap, ◌∙◌}
use Rattle.std.proofs.lemmas.Result.{err_from_is_err_and}
use Rattle.ss_units.specs.Units.{flit_ps}
use Rattle.ss_graph.specs.Checks.{Check, first_fault, Fails}
use Rattle.ss_graph.specs.Options.{the}
use Rattle.ss_graph.proofs.Judging.{passes, fails_front, fails_behind, exits}
use Rattle.ss_network.specs.declared.fault.MakeFault.{MakeFault}
use Rattle.ss_network.specs.declared.ask.Pace.{Pace}
use Rattle.ss_network.specs.declared.generator.Batch.{Batch}
use Rattle.ss_network.specs.Faults.{is_memory}
use Rattle.ss_network.specs.Params.{Params, number, row_check, id_row, num_peers_row, the_pattern}
use Rattle.ss_network.specs.Asks.{batch_checks, aim_checks, pace_checks, pace_of, buffers_checks, line_time, generator_checks}
use Rattle.ss_network.proofs.Chains.{fails_same, same_aim, fails_aim}
use Rattle.ss_network.proofs.generator.generator_at.Goals as goal

abbrev aim : ℕ → Params → List (Check MakeFault)
aim i ps = aim_checks i ps (the (number ps num_peers_row)) (the_pattern ps)

abbrev buffers : ℕ → Params → List (Check MakeFault)
buffers i ps = buffers_checks i (pace_of ps).flit_bits (line_time ps) (line_time ps) ps

-- a fault behind what it sends
late : (e : MakeFault) (i : ℕ) (ps : Params) → first_fault (row_check i ps id_row ∷ []) ≡ None → first_fault (row_check i ps num_peers_row ∷ []) ≡ None → first_fault (batch_checks i ps) ≡ None → Fails is_memory e (first_fault (aim i ps ++ (pace_checks i ps ++ buffers i ps))) → Fails is_memory e (first_fault (generator_checks i ps))
unfolding generator_checks
late e i ps a n b h =
    let r = row_check i ps id_row in
    let q = row_check i ps num_peers_row in
    fails_behind is_memory e (r ∷ q ∷ []) (batch_checks i ps ++ (aim i ps ++ (pace_checks i ps ++ buffers i ps))) (passes (r ∷ []) (q ∷ []) a n) (fails_behind is_memory e (batch_checks i ps) (aim i ps ++ (pace_checks i ps ++ buffers i ps)) b h)

pub returns-in_err-aim : goal.returns-in_err-aim
returns-in_err-aim c =
    let p = err_from_is_err_and c.from_residual-in_err-aim.result c.from_residual-in_err-aim.ensures.1 in
    let i = c.args.index in
    let ps = c.args.params.now in
    let h = fails_aim _ i ps _ (the (number ps num_peers_row)) _ (the_pattern ps) c.in_ok-peers.ensures.judged.1 (ap (λ (b : Batch). b.pattern) c.in_ok-batch.ensures.1) c.in_err-aim.ensures in
    exits _ _ _ _ _ _ _ p.1 p.2 (late _ i ps c.in_ok-id.ensures.judged.0 c.in_ok-peers.ensures.judged.0 c.in_ok-batch.ensures.0 (fails_front is_memory _ (aim i ps) (pace_checks i ps ++ buffers i ps) h))

pub returns-in_err-pace : goal.returns-in_err-pace
returns-in_err-pace c =
    let p = err_from_is_err_and c.from_residual-in_err-pace.result c.from_residual-in_err-pace.ensures.1 in
    let i = c.args.index in
    let ps = c.args.params.now in
    let h = same_aim (λ cs. first_fault cs ≡ None) i ps _ (the (number ps num_peers_row)) _ (the_pattern ps) c.in_ok-peers.ensures.judged.1 (ap (λ (b : Batch). b.pattern) c.in_ok-batch.ensures.1) c.in_ok-aim.ensures.0 in
    exits _ _ _ _ _ _ _ p.1 p.2 (late _ i ps c.in_ok-id.ensures.judged.0 c.in_ok-peers.ensures.judged.0 c.in_ok-batch.ensures.0
    (fails_behind is_memory _ (aim i ps) (pace_checks i ps ++ buffers i ps) h (fails_front is_memory _ (pace_checks i ps) (buffers i ps) c.in_err-pace.ensures.judged)))

pub returns-in_err-buffers : goal.returns-in_err-buffers
returns-in_err-buffers c =
    let p = err_from_is_err_and c.from_residual-in_err-buffers.result c.from_residual-in_err-buffers.ensures.1 in
    let i = c.args.index in
    let ps = c.args.params.now in
    let h = same_aim (λ cs. first_fault cs ≡ None) i ps _ (the (number ps num_peers_row)) _ (the_pattern ps) c.in_ok-peers.ensures.judged.1 (ap (λ (b : Batch). b.pattern) c.in_ok-batch.ensures.1) c.in_ok-aim.ensures.0 in
    let pe = c.in_ok-pace.ensures.judged.1 in
    let te = c.flit_time-time.ensures ∙ ap (λ (q : Pace). flit_ps q.flit_bits q.link) pe in
    let k = fails_same _ i ps _ (pace_of ps).flit_bits _ (line_time ps) _ (line_time ps) (ap (λ (q : Pace). q.flit_bits) pe) te te c.in_err-buffers.ensures in
    exits _ _ _ _ _ _ _ p.1 p.2 (late _ i ps c.in_ok-id.ensures.judged.0 c.in_ok-peers.ensures.judged.0 c.in_ok-batch.ensures.0
    (fails_behind is_memory _ (aim i ps) (pace_checks i ps ++ buffers i ps) h (fails_behind is_memory _ (pace_checks i ps) (buffers i ps) c.in_ok-pace.ensures.judged.0 k)))
