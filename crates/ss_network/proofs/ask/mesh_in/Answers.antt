use Rattle.std.proofs.Common.{ℕ, List, ap, sym, ◌∙◌, refl}
use Rattle.std.specs.Option.{option_map}
use Rattle.mr_topo.specs.Grid.{grid_of}
use Rattle.mr_topo.proofs.Shapes.{grid_of-is, grid_of-none}
use Rattle.mr_router.specs.declared.topology.Topology.TheVariants as topology
use Rattle.ss_network.proofs.ask.mesh_in.Goals as goal

pub returns-in-Ok : goal.returns-in-Ok
returns-in-Ok c =
    let g = c.in-Ok.mesh in
    let e = ap (λ (s : List ℕ). grid_of s c.args.local) (sym c.as_bytes.ensures.value) ∙ ap (λ (n : ℕ). grid_of c.as_bytes.result.now n) (sym c.in-Ok.ensures.local) ∙ grid_of-is g c.as_bytes.result.now c.in-Ok.ensures.ok in
    sym (ap (option_map topology.Mesh) e)

pub returns-in-Err-Form : goal.returns-in-Err-Form
returns-in-Err-Form c =
    let f = rw c.in-Err-Form.field-0-is at c.in-Err-Form.ensures in
    let e = ap (λ (s : List ℕ). grid_of s c.args.local) (sym c.as_bytes.ensures.value) ∙ grid_of-none c.as_bytes.result.now c.args.local (f.form refl) in
    sym (ap (option_map topology.Mesh) e)
