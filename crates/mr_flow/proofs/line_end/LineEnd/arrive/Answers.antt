use Rattle.mr_flow.specs.declared.NetLoad.TheVariants as load
use Rattle.mr_flow.specs.Side.{Side}
use Rattle.mr_flow.proofs.Sides.{whole_arrived}
use Rattle.mr_flow.proofs.line_end.LineEnd.arrive.Goals as goal

pub invariant_of-self : goal.invariant_of-self
invariant_of-self c =
    let i = c.self.inside in
    let s : Side = record { inputs = i.inputs; outputs = i.outputs; credits = i.credits; line_free = i.line_free; pump = i.pump; flit_time = i.flit_time } in
    rw c.in_ok-add-in-Packet.ensures.ok (whole_arrived s (load.Packet c.in-Packet.channel c.in-Packet.packet) c.self.invariant)
