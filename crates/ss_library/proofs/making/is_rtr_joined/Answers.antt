use Rattle.std.proofs.Common.{◌≡◌, is_some, arith}
use Rattle.std.proofs.lemmas.Grind.{common_steps}
use Rattle.ss_model.specs.Wiring.{link_from}
use Rattle.ss_graph.specs.Links.{is_taken}
use Rattle.ss_graph.specs.Fit.{ends_of}
use Rattle.ss_network.specs.Names.{rtr_text}
use Rattle.ss_library.specs.Make.{links_checks}
use Rattle.ss_library.proofs.Ports.{rtr_named, linked_is}
use Rattle.ss_library.proofs.making.is_rtr_joined.Goals as goal

pub returns : goal.returns
unfolding links_checks
returns c =
    let e : is_some (link_from 0 c.args.wires.now.links c.args.index 0) ≡ is_taken (ends_of c.args.graph.now.links) (c.args.index, rtr_text)
    = rw c.requires.lines (linked_is c.args.graph.now.components c.args.part.now rtr_text c.args.index 0 0 0 c.args.graph.now.links c.requires.there (rtr_named c.args.part.now c.requires.kind) c.requires.known) in
    grind (arith, e, common_steps)
