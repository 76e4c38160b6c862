use Rattle.std.proofs.Common.{List, ℕ, sym, ◌∙◌, subst}
use Rattle.ss_part.specs.Forest.{Stands}
use Rattle.ss_part.specs.Nearness.{grouped, ordered, weighed}
use Rattle.ss_part.proofs.Numbering.{numbers_whole, numbers_below}
use Rattle.ss_part.proofs.nearness.by_latency.Goals as goal

pub returns-clause-whole : goal.returns-clause-whole
returns-clause-whole c =
    let names : List ℕ = grouped c.args.graph.now c.args.parts (ordered (weighed c.args.graph.now)) in
    let s = c.in_ok-table.ensures.stands in
    let is = c.in_ok-list.ensures names (subst (λ t. Stands t names) (sym c.deref_mut.ensures.value) s) in
    numbers_whole c.args.parts names c.in_ok-list.list.items s.naming c.requires.some is ∙ sym s.whole ∙ c.in_ok-table.ensures.whole

pub returns-clause-below : goal.returns-clause-below
returns-clause-below c =
    let names : List ℕ = grouped c.args.graph.now c.args.parts (ordered (weighed c.args.graph.now)) in
    let s = c.in_ok-table.ensures.stands in
    let is = c.in_ok-list.ensures names (subst (λ t. Stands t names) (sym c.deref_mut.ensures.value) s) in
    numbers_below c.args.parts names c.in_ok-list.list.items s.naming c.requires.some is
