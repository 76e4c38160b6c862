use Rattle.std.proofs.Common.{◌≡◌, map}
use Rattle.std.specs.List.{range_with_len}
use Rattle.ss_part.specs.Nearness.{weight}
use Rattle.ss_part.proofs.nearness.weighed_links.Given as goal

abbrev pub invariant-loop-link : goal.invariant-loop-link
invariant-loop-link l = l.links.items ≡ map (λ link. (weight l.graph link, link)) (range_with_len 0 l.link)
