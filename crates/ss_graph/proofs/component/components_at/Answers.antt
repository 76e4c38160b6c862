use Rattle.std.proofs.Common.{rules, ◌≡◌, ◌<◌, ◌≤◌, ◌+◌, ◌++◌, ◌∷◌, [], None, refl, ◌∙◌, arith, length, drop, map, get_or, subst, string_bytes}
use Rattle.std.proofs.lemmas.Result.{err_from_is_err_and}
use Rattle.std.proofs.lemmas.List.{append-nil}
use Rattle.std.proofs.lemmas.Grind.{common_steps}
use Rattle.serde_json.specs.View.{view, items_view}
use Rattle.ss_graph.specs.Checks.{Fails, first_fault}
use Rattle.ss_graph.specs.Faults.{is_memory}
use Rattle.ss_graph.specs.Parts.{components_checks, parts_of, names_of}
use Rattle.ss_graph.proofs.Judging.{exits}
use Rattle.ss_graph.proofs.Components.{dropped, emptied, components_cons, components_cons_fails, components_none, made_push, noted_push}
use Rattle.ss_graph.proofs.component.components_at.Goals as goal

pub returns-in_err-component_at-clause-judged : goal.returns-in_err-component_at-clause-judged
returns-in_err-component_at-clause-judged c =
    let p = err_from_is_err_and c.from_residual.result c.from_residual.ensures.1 in
    let x = c.index-values-i.result in
    let vs = c.args.values.now in
    let i = c.loop-i.i in
    let within : i < length vs = grind (arith, common_steps) in
    let is : x ≡ get_or vs i x = search rules in
    let d : drop i vs ≡ x ∷ drop (i + 1) vs = dropped vs i x within is in
    exits _ _ _ _ _ _ _ p.1 p.2 (rw (c.loop-i.invariant.checked, d) (components_cons_fails c.in_err-component_at.field-0.0 i (map string_bytes c.loop-i.names.keys) x (drop (i + 1) vs) c.in_err-component_at.ensures.judged))

pub loop-i-preserved : goal.loop-i-preserved
loop-i-preserved c =
    let x = c.index-values-i.result in
    let vs = c.args.values.now in
    let i = c.loop-i.i in
    let within : i < length vs = grind (arith, common_steps) in
    let is : x ≡ get_or vs i x = search rules in
    let d : drop i vs ≡ x ∷ drop (i + 1) vs = dropped vs i x within is in
    record {
      checked = c.loop-i.invariant.checked ∙ rw (d, c.in_ok-component_at.ensures.noted) (components_cons i (map string_bytes c.loop-i.names.keys) x (drop (i + 1) vs) c.in_ok-component_at.ensures.judged.0);
      made = rw c.in_ok-push.ensures.items (made_push c.loop-i.parts.items c.in_ok-component_at.field-0 x (drop (i + 1) vs) (parts_of (items_view vs)) (subst (λ ys. c.loop-i.parts.items ++ parts_of (items_view ys) ≡ parts_of (items_view vs)) d c.loop-i.invariant.made) c.in_ok-component_at.ensures.judged.1);
      noted = rw c.in_ok-component_at.ensures.noted (noted_push (map string_bytes c.loop-i.names.keys) x (drop (i + 1) vs) (names_of (items_view vs)) (subst (λ ys. map string_bytes c.loop-i.names.keys ++ names_of (items_view ys) ≡ names_of (items_view vs)) d c.loop-i.invariant.noted));
    }

pub returns-clause-judged : goal.returns-clause-judged
returns-clause-judged c =
    let vs = c.args.values.now in
    let i = c.loop-i.i in
    let past : length vs ≤ i = grind (arith, common_steps) in
    let d : drop i vs ≡ [] = emptied vs i past in
    (c.loop-i.invariant.checked ∙ rw d (components_none i (map string_bytes c.loop-i.names.keys)), grind (arith, d, common_steps))
