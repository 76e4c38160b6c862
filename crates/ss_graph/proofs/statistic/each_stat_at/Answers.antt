use Rattle.std.proofs.Common.{rules, ◌≡◌, ◌<◌, ◌≤◌, ◌+◌, ◌++◌, ◌∷◌, [], ◌∙◌, arith, length, drop, get_or, subst}
use Rattle.std.proofs.lemmas.Result.{err_from_is_err_and}
use Rattle.std.proofs.lemmas.Grind.{common_steps}
use Rattle.serde_json.specs.View.{items_view}
use Rattle.ss_graph.specs.Statistics.{stats_of}
use Rattle.ss_graph.proofs.Judging.{exits}
use Rattle.ss_graph.proofs.Components.{dropped, emptied}
use Rattle.ss_graph.proofs.Params.{stats_cons, stats_cons_fails, stats_none, stats_push}
use Rattle.ss_graph.proofs.statistic.each_stat_at.Goals as goal

pub returns-in_err-stat_at : goal.returns-in_err-stat_at
returns-in_err-stat_at c =
    let p = err_from_is_err_and c.from_residual.result c.from_residual.ensures.1 in
    let x = c.index-values-i.result in
    let vs = c.args.values.now in
    let i = c.loop-i.i in
    let within : i < length vs = grind (arith, common_steps) in
    let is : x ≡ get_or vs i x = search rules in
    let d : drop i vs ≡ x ∷ drop (i + 1) vs = dropped vs i x within is in
    exits _ _ _ _ _ _ _ p.1 p.2 (rw (c.loop-i.invariant.checked, d) (stats_cons_fails c.in_err-stat_at.field-0.0 c.args.index i x (drop (i + 1) vs) c.in_err-stat_at.ensures))

pub loop-i-preserved : goal.loop-i-preserved
loop-i-preserved c =
    let x = c.index-values-i.result in
    let vs = c.args.values.now in
    let i = c.loop-i.i in
    let within : i < length vs = grind (arith, common_steps) in
    let is : x ≡ get_or vs i x = search rules in
    let d : drop i vs ≡ x ∷ drop (i + 1) vs = dropped vs i x within is in
    record {
      checked = c.loop-i.invariant.checked ∙ rw d (stats_cons c.args.index i x (drop (i + 1) vs) c.in_ok-stat_at.ensures.0);
      made = rw c.in_ok-push.ensures.items (stats_push c.loop-i.stats.items c.in_ok-stat_at.field-0 x (drop (i + 1) vs) (stats_of (items_view vs)) (subst (λ ys. c.loop-i.stats.items ++ stats_of (items_view ys) ≡ stats_of (items_view vs)) d c.loop-i.invariant.made) c.in_ok-stat_at.ensures.1);
    }

pub returns : goal.returns
returns c =
    let vs = c.args.values.now in
    let i = c.loop-i.i in
    let past : length vs ≤ i = grind (arith, common_steps) in
    let d : drop i vs ≡ [] = emptied vs i past in
    (c.loop-i.invariant.checked ∙ rw d (stats_none c.args.index i), grind (arith, d, common_steps))
