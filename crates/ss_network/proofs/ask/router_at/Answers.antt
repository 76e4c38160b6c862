use Rattle.std.proofs.Common.{◌≡◌, ℕ, List, ◌∷◌, [], ◌++◌, None, ap, ◌∙◌}
use Rattle.std.proofs.lemmas.Result.{err_from_is_err_and}
use Rattle.ss_units.specs.Units.{flit_ps}
use Rattle.ss_graph.specs.Checks.{Check, first_fault, Fails}
use Rattle.ss_graph.proofs.Judging.{fails_front, fails_behind, exits}
use Rattle.ss_network.specs.declared.fault.MakeFault.{MakeFault}
use Rattle.ss_network.specs.declared.ask.Pace.{Pace}
use Rattle.ss_network.specs.Faults.{is_memory}
use Rattle.ss_network.specs.Params.{Params, row_check, arb_check, id_row, xbar_bw_row}
use Rattle.ss_network.specs.Asks.{topology_checks, pace_checks, pace_of, buffers_checks, line_time, cross_time, router_checks}
use Rattle.ss_network.proofs.Chains.{fails_in, same_buffers, fails_same}
use Rattle.ss_network.proofs.ask.router_at.Goals as goal

abbrev buffers : ℕ → Params → List (Check MakeFault)
buffers i ps = buffers_checks i (pace_of ps).flit_bits (line_time ps) (cross_time ps) ps

abbrev behind_cross : ℕ → Params → List (Check MakeFault)
behind_cross i ps = buffers i ps ++ (arb_check i ps ∷ [])

abbrev behind_pace : ℕ → Params → List (Check MakeFault)
behind_pace i ps = (row_check i ps xbar_bw_row ∷ []) ++ behind_cross i ps

abbrev behind_topology : ℕ → Params → List (Check MakeFault)
behind_topology i ps = pace_checks i ps ++ behind_pace i ps

-- a fault behind the lines
late : (e : MakeFault) (i : ℕ) (ps : Params) → first_fault (row_check i ps id_row ∷ []) ≡ None → first_fault (topology_checks i ps) ≡ None → first_fault (pace_checks i ps) ≡ None → Fails is_memory e (first_fault (behind_pace i ps)) → Fails is_memory e (first_fault (router_checks i ps))
unfolding router_checks
late e i ps a t p h =
    fails_behind is_memory e (row_check i ps id_row ∷ []) (topology_checks i ps ++ behind_topology i ps) a (fails_behind is_memory e (topology_checks i ps) (behind_topology i ps) t (fails_behind is_memory e (pace_checks i ps) (behind_pace i ps) p h))

pub returns-in_err-cross : goal.returns-in_err-cross
returns-in_err-cross c =
    let p = err_from_is_err_and c.from_residual-in_err-cross.result c.from_residual-in_err-cross.ensures.1 in
    let i = c.args.index in
    let ps = c.args.params.now in
    exits _ _ _ _ _ _ _ p.1 p.2 (late _ i ps c.in_ok-id.ensures.judged.0 c.in_ok-topology.ensures.0 c.in_ok-pace.ensures.judged.0 (fails_front is_memory _ (row_check i ps xbar_bw_row ∷ []) (behind_cross i ps) c.in_err-cross.ensures.judged))

pub returns-in_err-buffers : goal.returns-in_err-buffers
returns-in_err-buffers c =
    let p = err_from_is_err_and c.from_residual-in_err-buffers.result c.from_residual-in_err-buffers.ensures.1 in
    let i = c.args.index in
    let ps = c.args.params.now in
    let pe = c.in_ok-pace.ensures.judged.1 in
    let te = c.flit_time-time.ensures ∙ ap (λ (q : Pace). flit_ps q.flit_bits q.link) pe in
    let ce = c.flit_time-period.ensures ∙ ap (λ (q : Pace). flit_ps q.flit_bits c.in_ok-cross.cross) pe ∙ ap (λ (x : ℕ). flit_ps (pace_of ps).flit_bits x) c.in_ok-cross.ensures.judged.1 in
    let h = fails_same _ i ps _ (pace_of ps).flit_bits _ (line_time ps) _ (cross_time ps) (ap (λ (q : Pace). q.flit_bits) pe) te ce c.in_err-buffers.ensures in
    exits _ _ _ _ _ _ _ p.1 p.2 (late _ i ps c.in_ok-id.ensures.judged.0 c.in_ok-topology.ensures.0 c.in_ok-pace.ensures.judged.0
    (fails_in _ (row_check i ps xbar_bw_row ∷ []) (buffers i ps) (arb_check i ps ∷ []) c.in_ok-cross.ensures.judged.0 h))

pub returns-in_err-arb : goal.returns-in_err-arb
returns-in_err-arb c =
    let p = err_from_is_err_and c.from_residual-in_err-arb.result c.from_residual-in_err-arb.ensures.1 in
    let i = c.args.index in
    let ps = c.args.params.now in
    let pe = c.in_ok-pace.ensures.judged.1 in
    let te = c.flit_time-time.ensures ∙ ap (λ (q : Pace). flit_ps q.flit_bits q.link) pe in
    let ce = c.flit_time-period.ensures ∙ ap (λ (q : Pace). flit_ps q.flit_bits c.in_ok-cross.cross) pe ∙ ap (λ (x : ℕ). flit_ps (pace_of ps).flit_bits x) c.in_ok-cross.ensures.judged.1 in
    let h = same_buffers (λ cs. first_fault cs ≡ None) i ps _ (pace_of ps).flit_bits _ (line_time ps) _ (cross_time ps) (ap (λ (q : Pace). q.flit_bits) pe) te ce c.in_ok-buffers.ensures.0 in
    exits _ _ _ _ _ _ _ p.1 p.2 (late _ i ps c.in_ok-id.ensures.judged.0 c.in_ok-topology.ensures.0 c.in_ok-pace.ensures.judged.0
    (fails_behind is_memory _ (row_check i ps xbar_bw_row ∷ []) (behind_cross i ps) c.in_ok-cross.ensures.judged.0
    (fails_behind is_memory _ (buffers i ps) (arb_check i ps ∷ []) h c.in_err-arb.ensures)))
