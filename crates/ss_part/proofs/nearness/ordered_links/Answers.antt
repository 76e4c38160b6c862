use Rattle.std.proofs.Common.{◌∙◌, ap, ◌<◌, length}
use Rattle.std.proofs.lemmas.List.Sorted.{All-permutation}
use Rattle.ss_part.specs.Nearness.{ordered}
use Rattle.ss_part.proofs.Sorting.{sorted_is}
use Rattle.ss_part.proofs.Numbering.{weighed_real}
use Rattle.ss_part.proofs.nearness.ordered_links.Goals as goal

pub returns-clause-order : goal.returns-clause-order
returns-clause-order c = sorted_is c.in_ok-links.links.items c.sort.new.self.items c.in_ok-sort.ensures.permutation c.in_ok-sort.ensures.sorted ∙ ap ordered c.in_ok-links.ensures

pub returns-clause-real : goal.returns-clause-real
returns-clause-real c =
    All-permutation (λ e. e.1 < length c.args.graph.now.links) c.in_ok-links.links.items c.sort.new.self.items c.in_ok-sort.ensures.permutation
    (weighed_real c.args.graph.now c.in_ok-links.links.items c.in_ok-links.ensures)
