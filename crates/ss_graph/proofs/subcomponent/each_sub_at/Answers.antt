use Rattle.std.proofs.Common.{rules, ◌≡◌, ◌<◌, ◌≤◌, ◌+◌, ◌∷◌, [], ◌∙◌, arith, length, drop, get_or, subst, sym}
use Rattle.std.proofs.lemmas.Result.{err_from_is_err_and}
use Rattle.std.proofs.lemmas.Grind.{common_steps}
use Rattle.serde_json.specs.View.{items_view}
use Rattle.ss_graph.specs.Components.{seen_params}
use Rattle.ss_graph.specs.Subcomponents.{with_subs}
use Rattle.ss_graph.proofs.Judging.{passes_exit}
use Rattle.ss_graph.proofs.Components.{dropped, emptied}
use Rattle.ss_graph.proofs.Params.{subs_cons, subs_cons_fails, subs_none}
use Rattle.ss_graph.proofs.subcomponent.each_sub_at.Goals as goal

pub returns-in_err-sub_at-clause-judged : goal.returns-in_err-sub_at-clause-judged
returns-in_err-sub_at-clause-judged c =
    let p = err_from_is_err_and c.from_residual.result c.from_residual.ensures.1 in
    let x = c.index-values-i.result in
    let vs = c.args.values.now in
    let i = c.loop-i.i in
    let within : i < length vs = grind (arith, common_steps) in
    let is : x ≡ get_or vs i x = search rules in
    let d : drop i vs ≡ x ∷ drop (i + 1) vs = dropped vs i x within is in
    passes_exit _ _ _ _ _ p.1 p.2 (rw (c.loop-i.invariant.checked, d) (subs_cons_fails c.in_err-sub_at.field-0.0 c.args.index i (seen_params c.loop-i.params.entries) x (drop (i + 1) vs) c.in_err-sub_at.ensures.judged))

pub loop-i-preserved : goal.loop-i-preserved
loop-i-preserved c =
    let x = c.index-values-i.result in
    let vs = c.args.values.now in
    let i = c.loop-i.i in
    let within : i < length vs = grind (arith, common_steps) in
    let is : x ≡ get_or vs i x = search rules in
    let d : drop i vs ≡ x ∷ drop (i + 1) vs = dropped vs i x within is in
    record {
      checked = c.loop-i.invariant.checked ∙ rw (d, c.in_ok-sub_at.ensures.added) (subs_cons c.args.index i (seen_params c.loop-i.params.entries) x (drop (i + 1) vs) c.in_ok-sub_at.ensures.judged);
      added = rw c.in_ok-sub_at.ensures.added (subst (λ ys. with_subs (seen_params c.loop-i.params.entries) (items_view ys) ≡ with_subs (seen_params c.args.params.now.entries) (items_view vs)) d c.loop-i.invariant.added);
    }

pub returns-clause-judged : goal.returns-clause-judged
returns-clause-judged c =
    let vs = c.args.values.now in
    let i = c.loop-i.i in
    let past : length vs ≤ i = grind (arith, common_steps) in
    let d : drop i vs ≡ [] = emptied vs i past in
    c.loop-i.invariant.checked ∙ rw d (subs_none c.args.index i (seen_params c.loop-i.params.entries))

pub returns-clause-added : goal.returns-clause-added
returns-clause-added c =
    let vs = c.args.values.now in
    let i = c.loop-i.i in
    let past : length vs ≤ i = grind (arith, common_steps) in
    let d : drop i vs ≡ [] = emptied vs i past in
    subst (λ ys. with_subs (seen_params c.loop-i.params.entries) (items_view ys) ≡ with_subs (seen_params c.args.params.now.entries) (items_view vs)) d c.loop-i.invariant.added
