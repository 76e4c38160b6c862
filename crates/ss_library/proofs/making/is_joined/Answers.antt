use Rattle.std.proofs.Common.{◌≡◌, is_some, arith}
use Rattle.std.proofs.lemmas.Grind.{common_steps}
use Rattle.ss_model.specs.Wiring.{link_from}
use Rattle.ss_graph.specs.Links.{is_taken}
use Rattle.ss_graph.specs.Fit.{ends_of}
use Rattle.ss_kinds.specs.Names.{port_text}
use Rattle.ss_library.specs.Make.{links_checks}
use Rattle.ss_library.proofs.Ports.{rows_named, linked_is}
use Rattle.ss_library.proofs.making.is_joined.Goals as goal

pub returns-else-not-row : goal.returns-else-not-row
unfolding links_checks
returns-else-not-row c =
    let e : is_some (link_from 0 c.args.wires.now.links c.args.index c.args.number) ≡ is_taken (ends_of c.args.graph.now.links) (c.args.index, port_text c.args.row.now.name)
    = rw c.requires.lines (linked_is c.args.graph.now.components c.args.part.now (port_text c.args.row.now.name) c.args.index c.args.number 0 0 c.args.graph.now.links c.requires.there (rows_named c.args.part.now c.args.number c.args.row.now c.requires.row) c.requires.known) in
    grind (arith, e, common_steps)
