use Rattle.std.proofs.Common.{◌≡◌, ◌∷◌, [], None, Some, refl, arith}
use Rattle.std.proofs.lemmas.Result.{err_from_is_err_and}
use Rattle.ss_graph.specs.Checks.{Check, first_fault}
use Rattle.ss_graph.proofs.Judging.{passes, fails_behind, exits}
use Rattle.ss_network.specs.declared.fault.MakeFault.{MakeFault}
use Rattle.ss_library.specs.declared.table.KindName.TheVariants as kind
use Rattle.ss_library.specs.Tables.{clock_row, count_row, primary_row}
use Rattle.ss_network.specs.Faults.{is_memory}
use Rattle.ss_library.specs.Make.{row_check, stats_by}
use Rattle.ss_library.proofs.Values.{count_fits}
use Rattle.ss_library.proofs.element.ticker_at.Goals as goal

three_pass : (a b d : Check MakeFault) → first_fault (a ∷ []) ≡ None → first_fault (b ∷ []) ≡ None → first_fault (d ∷ []) ≡ None → first_fault (a ∷ b ∷ d ∷ []) ≡ None
three_pass a b d p q r = passes (a ∷ []) (b ∷ d ∷ []) p (passes (b ∷ []) (d ∷ []) q r)

pub overflow_cast-result : goal.overflow_cast-result
overflow_cast-result c = omega (arith, count_fits c.as_slice-params.result.now, c.in_ok-count.ensures.1)

pub returns-in_err-stats : goal.returns-in_err-stats
returns-in_err-stats c =
    let p = err_from_is_err_and c.from_residual-in_err-stats.result c.from_residual-in_err-stats.ensures.1 in
    let i = c.args.index in
    let ps = c.as_slice-params.result.now in
    let rows = three_pass (row_check i ps clock_row) (row_check i ps count_row) (row_check i ps primary_row) c.in_ok-param_at.ensures.0 c.in_ok-count.ensures.0 c.in_ok-primary.ensures.0 in
    exits _ _ _ _ _ _ _ p.1 p.2 (fails_behind is_memory _ _ (stats_by i c.args.part.now (Some kind.Ticker)) (rw c.as_slice-params.ensures at rows) c.in_err-stats.ensures)

pub returns : goal.returns
returns c =
    let i = c.args.index in
    let ps = c.as_slice-params.result.now in
    let rows = three_pass (row_check i ps clock_row) (row_check i ps count_row) (row_check i ps primary_row) c.in_ok-param_at.ensures.0 c.in_ok-count.ensures.0 c.in_ok-primary.ensures.0 in
    (passes _ (stats_by i c.args.part.now (Some kind.Ticker)) (rw c.as_slice-params.ensures at rows) c.in_ok-stats.ensures.0, rw (c.in_ok-copy.ensures, c.in_ok-count.ensures.1, c.in_ok-primary.ensures.1, c.place_in-events.ensures, c.in_ok-stats.ensures.1, c.as_slice-params.ensures) refl)
