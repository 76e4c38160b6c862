use Rattle.std.proofs.Common.{◌≡◌, ◌*◌, length, refl, arith, sym, ◌∙◌}
use Rattle.ss_graph.specs.Fit.{lat}
use Rattle.ss_part.specs.Cut.{least}
use Rattle.ss_part.specs.Cut.{crosses as line_crosses}
use Rattle.ss_part.proofs.Leasts.{least_with, least_without, ord_min_nat, all_lines}
use Rattle.ss_part.proofs.lookahead.Goals as goal
use Rattle.ss_part.proofs.lookahead.Goals.{then-crosses, else-crosses}

pub loop-line-init : goal.loop-line-init
unfolding least
loop-line-init c = refl

pub loop-line-preserved : goal.loop-line-preserved
loop-line-preserved c =
    let g = c.args.graph.now in
    let list = c.args.partition.now.list in
    elim c.if-crosses.branch [
      | then-crosses w ↦ least_with (lat g) (line_crosses g list) c.loop-line.line c.loop-line.least c.if-crosses.least c.loop-line.invariant w.latency.result (sym c.crosses.ensures ∙ w.if-crosses.true) w.latency.ensures.value (w.least-is ∙ w.min-least.ensures ∙ ord_min_nat c.loop-line.least w.latency.result)
      | else-crosses w ↦ least_without (lat g) (line_crosses g list) c.loop-line.line c.loop-line.least c.if-crosses.least c.loop-line.invariant (sym c.crosses.ensures ∙ w.if-crosses.false) w.least-is
    ]

pub returns : goal.returns
returns c =
    let e : c.loop-line.line ≡ 2 * length c.as_slice.result.now = omega arith in
    all_lines c.args.graph.now c.args.partition.now.list c.as_slice.result.now c.loop-line.line c.loop-line.least c.as_slice.ensures e c.loop-line.invariant
