use Rattle.std.proofs.Common.{◌<◌, Err, arith, ap, ◌∙◌}
use Rattle.std.proofs.lemmas.Result.{err_from_is_err_and}
use Rattle.ss_wire.specs.Form.{times}
use Rattle.mr_flow.specs.Queue.{Row}
use Rattle.mr_flow.specs.Saved.{packet_form}
use Rattle.mr_flow.proofs.Rows.{flits_of-push}
use Rattle.mr_flow.proofs.Reading.{times_more, times_fails, row_reads, fails_of}
use Rattle.mr_flow.proofs.queue.Queue.restore.Goals as goal

pub returns-in_err-packet-clause-told : goal.returns-in_err-packet-clause-told
returns-in_err-packet-clause-told c =
    let p = err_from_is_err_and c.from_residual-in_err-packet.result c.from_residual-in_err-packet.ensures.1 in
    let e = c.in_err-packet.field-0.0 in
    let n = c.in_ok-count.count in
    let within : c.loop-i._i < n = omega arith in
    let none = times_fails packet_form c.loop-i.self.packets n c.loop-i._i e c.loop-i.bytes ((times n packet_form).read c.u32.new.self) within c.in_err-packet.ensures c.loop-i.invariant.read in
    rw (p.1, p.2) (fails_of e _ (row_reads c.args.self.now c.args.bytes.now c.u32.new.self n (Err e) c.in_ok-count.ensures none))

pub loop-i-preserved : goal.loop-i-preserved
loop-i-preserved c =
    let n = c.in_ok-count.count in
    let q = c.loop-i.self in
    let within : c.loop-i._i < n = omega arith in
    let held = c.in_ok-hold.ensures.ok in
    let packets = ap (λ (r : Row). r.packets) held in
    record {
      kept = ap (λ (r : Row). r.capacity) held ∙ c.loop-i.invariant.kept;
      few = rw packets (omega (arith, flits_of-push q.packets c.in_ok-packet.packet, c.loop-i.invariant.few));
      read = rw packets (times_more packet_form q.packets n c.loop-i._i c.in_ok-packet.packet c.loop-i.bytes c.read.new.bytes ((times n packet_form).read c.u32.new.self) within c.in_ok-packet.ensures c.loop-i.invariant.read);
    }
