use Rattle.std.proofs.Common.{◌<◌, ◌≤◌, ◌^◌, arith, ap}
use Rattle.mr_flow.specs.Queue.{Row, flits_of}
use Rattle.mr_flow.specs.Side.{input}
use Rattle.mr_nic.specs.Endpoint.{networks}
use Rattle.mr_nic.specs.Kept.Fitting.{few_flits, within_networks}
use Rattle.mr_nic.proofs.nic.Endpoint.flow.Goals as goal

pub overflow_cast-queued : goal.overflow_cast-queued
overflow_cast-queued c =
    let n = c.args.self.now in
    let few : flits_of (input n.link c.args.vn).packets ≤ (input n.link c.args.vn).capacity = few_flits n (2 ^ 62) c.args.vn c.requires.fits (within_networks n c.args.port c.args.vn c.requires.there) in
    omega (arith, few, ap (λ (q : Row). flits_of q.packets) c.input-queue.ensures, ap (λ (q : Row). q.capacity) c.input-queue.ensures)
