use Rattle.std.proofs.Common.{take, sym, subst, arith}
use Rattle.ss_part.specs.Nearness.{grouped}
use Rattle.ss_part.proofs.Numbering.{begins}
use Rattle.ss_part.specs.Forest.{StandsFor}
use Rattle.ss_part.proofs.Linking.{grouped_more}
use Rattle.ss_part.proofs.nearness.take_links.Goals as goal

pub loop-link-init : goal.loop-link-init
loop-link-init c = begins c.args.graph.now c.args.parts c.args.table.now c.requires.own

pub loop-link-preserved : goal.loop-link-preserved
loop-link-preserved c =
    let g = c.args.graph.now in
    let taken = c.take_link-left.ensures.taken (grouped g c.args.parts (take c.loop-link.link-index c.args.links.now)) c.loop-link.invariant.stands in
    record {
      down = c.take_link-left.ensures.down;
      stands = subst (λ names. StandsFor c.take_link-left.new.table c.take_link-left.result names) (sym (grouped_more g c.args.parts c.args.links.now c.loop-link.link-index _ (omega arith))) taken;
    }
