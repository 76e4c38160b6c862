use Rattle.std.proofs.Common.{rules, ◌≡◌, ◌<◌, ◌≤◌, ◌+◌, ◌++◌, ◌∷◌, [], None, ◌∙◌, arith, length, drop, map, get_or, subst, string_bytes}
use Rattle.std.proofs.lemmas.Result.{err_from_is_err_and}
use Rattle.std.proofs.lemmas.Grind.{common_steps}
use Rattle.serde_json.specs.View.{items_view}
use Rattle.ss_graph.specs.Links.{seen_ends, joins_of}
use Rattle.ss_graph.proofs.Judging.{exits}
use Rattle.ss_graph.proofs.Components.{dropped, emptied}
use Rattle.ss_graph.proofs.Links.{links_cons, links_cons_fails, links_none, joins_push}
use Rattle.ss_graph.proofs.link.links_at.Goals as goal

pub returns-in_err-link_at : goal.returns-in_err-link_at
returns-in_err-link_at c =
    let p = err_from_is_err_and c.from_residual.result c.from_residual.ensures.1 in
    let x = c.index-values-i.result in
    let vs = c.args.values.now in
    let i = c.loop-i.i in
    let within : i < length vs = grind (arith, common_steps) in
    let is : x ≡ get_or vs i x = search rules in
    let d : drop i vs ≡ x ∷ drop (i + 1) vs = dropped vs i x within is in
    exits _ _ _ _ _ _ _ p.1 p.2 (rw (c.loop-i.invariant.checked, d) (links_cons_fails (map string_bytes c.args.names.now.keys) c.args.parts.now c.in_err-link_at.field-0.0 i (map string_bytes c.loop-i.taken.names.keys) (seen_ends c.loop-i.taken.ends.keys) x (drop (i + 1) vs) c.in_err-link_at.ensures.judged))

pub loop-i-preserved : goal.loop-i-preserved
loop-i-preserved c =
    let x = c.index-values-i.result in
    let vs = c.args.values.now in
    let names = map string_bytes c.args.names.now.keys in
    let i = c.loop-i.i in
    let within : i < length vs = grind (arith, common_steps) in
    let is : x ≡ get_or vs i x = search rules in
    let d : drop i vs ≡ x ∷ drop (i + 1) vs = dropped vs i x within is in
    record {
      checked = c.loop-i.invariant.checked ∙ rw (d, c.in_ok-link_at.ensures.named, c.in_ok-link_at.ensures.noted) (links_cons names c.args.parts.now i (map string_bytes c.loop-i.taken.names.keys) (seen_ends c.loop-i.taken.ends.keys) x (drop (i + 1) vs) c.in_ok-link_at.ensures.judged.0);
      made = rw c.in_ok-push.ensures.items (joins_push names c.args.parts.now c.loop-i.joins.items c.in_ok-link_at.field-0 x (drop (i + 1) vs) (joins_of names (items_view vs)) (subst (λ ys. c.loop-i.joins.items ++ joins_of names (items_view ys) ≡ joins_of names (items_view vs)) d c.loop-i.invariant.made) c.in_ok-link_at.ensures.judged.1);
    }

pub returns : goal.returns
returns c =
    let vs = c.args.values.now in
    let i = c.loop-i.i in
    let past : length vs ≤ i = grind (arith, common_steps) in
    let d : drop i vs ≡ [] = emptied vs i past in
    (c.loop-i.invariant.checked ∙ rw d (links_none (map string_bytes c.args.names.now.keys) c.args.parts.now i (map string_bytes c.loop-i.taken.names.keys) (seen_ends c.loop-i.taken.ends.keys)), grind (arith, d, common_steps))
