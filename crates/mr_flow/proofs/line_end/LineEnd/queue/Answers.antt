use Rattle.mr_flow.specs.Side.{Side}
use Rattle.mr_flow.proofs.Sides.{whole_queued}
use Rattle.mr_flow.proofs.line_end.LineEnd.queue.Goals as goal

pub invariant_of-self-2 : goal.invariant_of-self-2
invariant_of-self-2 c =
    let i = c.self.inside in
    let s : Side = record { inputs = i.inputs; outputs = i.outputs; credits = i.credits; line_free = i.line_free; pump = i.pump; flit_time = i.flit_time } in
    rw c.in_ok-add.ensures.ok (whole_queued s c.args.channel c.args.packet c.self.invariant)
