use Rattle.std.proofs.Common.{ap}
use Rattle.ss_part.specs.Nearness.{weight}
use Rattle.ss_part.proofs.Tables.{push_more}
use Rattle.ss_part.proofs.nearness.weighed_links.Goals as goal

pub loop-link-preserved : goal.loop-link-preserved
loop-link-preserved c = push_more (λ link. (weight c.args.graph.now link, link)) c.loop-link.link c.loop-link.links.items _ _ c.loop-link.invariant c.in_ok-push.ensures.items (ap (λ w. (w, c.loop-link.link)) c.weight_of.ensures)
