use Rattle.std.proofs.Common.{◌≡◌, ◌≤◌, length, max, ◌∙◌, ap, rules}
use Rattle.std.proofs.lemmas.Bool.Decides.{nat_tests}
use Rattle.ss_part.specs.Assigned.{assigned}
use Rattle.ss_part.specs.Nearness.{by_latency}
use Rattle.ss_part.proofs.Best.{best_division}
use Rattle.ss_part.proofs.assign.Goals as goal

pub returns-clause-best : goal.returns-clause-best
unfolding assigned
returns-clause-best c = λ is some.
    let g = c.args.graph.now in
    let few : c.args.parts ≤ max 1 (length g.components) = search (rules, nat_tests) in
    let list_is : c.in_ok-list.list.items ≡ by_latency g c.args.parts = c.in_ok-list.ensures.ok.1 ∙ ap (assigned g c.args.parts) is in
    best_division g c.args.parts c.in_ok-list.list.items c.requires some c.if-parts-lt1.false few list_is
