use Rattle.std.proofs.Common.{◌≡◌, true, false, subst, arith, codes, string_bytes}
use Rattle.std.proofs.lemmas.Grind.{common_steps}
use Rattle.serde_json.specs.Find.{get}
use Rattle.serde_json.specs.View.{view}
use Rattle.ss_graph.specs.Components.{text_in}
use Rattle.ss_graph.specs.Links.{is_taken, seen_ends}
use Rattle.ss_graph.specs.Components.{has_text}
use Rattle.ss_graph.proofs.Ends.{taken_is, port_taken, port_free}
use Rattle.ss_graph.proofs.link.port_at.Goals as goal

pub returns-then-not-added-clause-judged : goal.returns-then-not-added-clause-judged
returns-then-not-added-clause-judged c =
    let o = get (codes "port") (view c.args.end.now) in
    let ks = c.args.taken.now.keys in
    let named : string_bytes c.in_ok-key.key ≡ text_in o = grind (arith, common_steps) in
    let t : is_taken (seen_ends ks) (c.args.component, string_bytes c.in_ok-key.key) ≡ true = grind (arith, taken_is ks (c.args.component, c.in_ok-key.key)) in
    let u : is_taken (seen_ends ks) (c.args.component, text_in o) ≡ true = subst (λ n. is_taken (seen_ends ks) (c.args.component, n) ≡ true) named t in
    let h : has_text o ≡ true = grind (arith, common_steps) in
    grind (arith, port_taken c.args.index c.args.side.now o (is_taken (seen_ends ks) (c.args.component, text_in o)) h u)

pub returns-clause-judged : goal.returns-clause-judged
returns-clause-judged c =
    let o = get (codes "port") (view c.args.end.now) in
    let ks = c.args.taken.now.keys in
    let named : string_bytes c.in_ok-key.key ≡ text_in o = grind (arith, common_steps) in
    let t : is_taken (seen_ends ks) (c.args.component, string_bytes c.in_ok-key.key) ≡ false = grind (arith, taken_is ks (c.args.component, c.in_ok-key.key)) in
    let u : is_taken (seen_ends ks) (c.args.component, text_in o) ≡ false = subst (λ n. is_taken (seen_ends ks) (c.args.component, n) ≡ false) named t in
    let h : has_text o ≡ true = grind (arith, common_steps) in
    let same : c.in_ok-text.text ≡ text_in o = grind (arith, common_steps) in
    (port_free c.args.index c.args.side.now o (is_taken (seen_ends ks) (c.args.component, text_in o)) h u, same)
