use Rattle.std.proofs.Common.{ap, sym, ◌∙◌, refl}
use Rattle.std.specs.Option.{option_map}
use Rattle.mr_fattree.specs.Tree.{tree_of}
use Rattle.mr_fattree.proofs.Shapes.{tree_of-is, tree_of-none}
use Rattle.mr_router.specs.declared.topology.Topology.TheVariants as topology
use Rattle.ss_network.proofs.ask.tree_of_text.Goals as goal

pub returns-in-Ok : goal.returns-in-Ok
returns-in-Ok c =
    let e = ap tree_of (sym c.as_bytes.ensures.value) ∙ tree_of-is c.in-Ok.tree c.as_bytes.result.now c.in-Ok.ensures.ok in
    sym (ap (option_map topology.FatTree) e)

pub returns-in-Err-Form : goal.returns-in-Err-Form
returns-in-Err-Form c =
    let f = rw c.in-Err-Form.field-0-is at c.in-Err-Form.ensures in
    let e = ap tree_of (sym c.as_bytes.ensures.value) ∙ tree_of-none c.as_bytes.result.now (f.form refl) in
    sym (ap (option_map topology.FatTree) e)
