use Rattle.std.proofs.Common.{◌≡◌, ◌<◌, sym, subst, Some, Ok}
use Rattle.std.specs.Prelude.{slice_get}
use Rattle.ss_element.specs.Gives.{put_at}
use Rattle.mr_flow.specs.Queue.{row_at}
use Rattle.mr_flow.specs.Side.{Side, channels}
use Rattle.mr_flow.specs.Saved.{lanes_by, lanes_of, lane_form}
use Rattle.mr_flow.proofs.Reading.{lane_reads}
use Rattle.mr_flow.proofs.line_end.LineEnd.restore_channel.Goals as goal

pub returns-clause-told : goal.returns-clause-told
returns-clause-told c = λ l there.
    let i = c.self.inside in
    let s : Side = record { inputs = i.inputs; outputs = i.outputs; credits = i.credits; line_free = i.line_free; pump = i.pump; flit_time = i.flit_time } in
    let n = c.args.channel in
    let view : s ≡ c.args.self.now = c.self.view_is in
    let here : n < channels s = subst (λ (x : Side). n < channels x) (sym view) c.requires in
    let at = subst (λ (x : Side). slice_get (lanes_of x) n ≡ Some l) (sym view) there in
    let told = lane_reads s n l c.args.bytes.now c.restore.new.bytes c.restore-2.new.bytes c.u32.new.self (row_at c.restore.new.self n) (row_at c.restore-2.new.self n) c.in_ok-u32.field-0 c.restore.new.self c.restore-2.new.self c.set.new.self c.self.invariant here at c.in_ok-restore.ensures.told c.in_ok-restore-2.ensures.told c.in_ok-u32.ensures c.in_ok-restore.ensures.same c.in_ok-restore-2.ensures.same c.set.ensures in
    subst (λ (x : Side). put_at (lanes_of x) n ((lane_form l).read c.args.bytes.now) ≡ Ok (lanes_by c.restore.new.self c.restore-2.new.self c.set.new.self, c.u32.new.self)) view told
