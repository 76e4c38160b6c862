use Rattle.std.proofs.Common.{◌≡◌, ◌<◌, length, arith, refl, ap, subst, ◌∙◌}
use Rattle.std.proofs.lemmas.Result.{err_from_is_err_and}
use Rattle.ss_wire.specs.Form.{each}
use Rattle.ss_wire.proofs.Loops.{front_none}
use Rattle.ss_element.proofs.Reading.{one_more}
use Rattle.mr_flow.specs.Side.{Side, channels}
use Rattle.mr_flow.specs.Saved.{lane_form, lanes_of}
use Rattle.mr_flow.proofs.Lanes.{length-lanes, lanes_again}
use Rattle.mr_flow.proofs.Reading.{fails_more, same_size}
use Rattle.mr_flow.proofs.line_end.LineEnd.restore_channels.Goals as goal

pub loop-channel-init : goal.loop-channel-init
loop-channel-init c =
    let s = c.args.self.now in
    let whole = c.channels-channel-end.ensures.whole in
    record {
      long = refl;
      size = length-lanes s.inputs s.outputs s.credits whole.inputs whole.outputs;
      same = refl;
      read = front_none ((each lane_form (lanes_of s)).read c.args.bytes.now);
    }

pub loop-channel-preserved : goal.loop-channel-preserved
loop-channel-preserved c =
    let s = c.loop-channel.self in
    let t = c.restore_channel.new.self in
    let o = c.args.self.now in
    let told = c.in_ok-restore_channel.ensures.told in
    let within : c.loop-channel.channel < length (lanes_of s) = omega (arith, c.channels-channel-end.ensures.count) in
    record {
      long = c.in_ok-restore_channel.ensures.len ∙ c.loop-channel.invariant.long;
      size = same_size (lanes_of s) (lanes_of t) c.loop-channel.channel c.loop-channel.bytes c.restore_channel.new.bytes within told ∙ c.loop-channel.invariant.size;
      same = c.in_ok-restore_channel.ensures.same ∙ ap (λ (x : Side). record x { inputs = t.inputs; outputs = t.outputs; credits = t.credits }) c.loop-channel.invariant.same;
      read = one_more lane_form (lanes_of s) (lanes_of t) c.loop-channel.channel c.loop-channel.bytes c.restore_channel.new.bytes ((each lane_form (lanes_of o)).read c.args.bytes.now) within told c.loop-channel.invariant.read;
    }

pub returns-in_err-restore_channel-clause-told : goal.returns-in_err-restore_channel-clause-told
returns-in_err-restore_channel-clause-told c =
    let p = err_from_is_err_and c.from_residual.result c.from_residual.ensures.1 in
    let within : c.loop-channel.channel < length (lanes_of c.loop-channel.self) = omega (arith, c.channels-channel-end.ensures.count) in
    rw (p.1, p.2) (fails_more (lanes_of c.loop-channel.self) c.loop-channel.channel c.loop-channel.bytes c.in_err-restore_channel.field-0.0 ((each lane_form (lanes_of c.args.self.now)).read c.args.bytes.now) within c.in_err-restore_channel.ensures.told c.loop-channel.invariant.read)

pub returns-clause-same : goal.returns-clause-same
returns-clause-same c =
    let i = c.self-2.invariant in
    let e = c.self-2.view_is in
    lanes_again c.args.self.now c.loop-channel.self c.loop-channel.invariant.same (subst (λ (x : Side). length x.inputs ≡ channels x) e i.inputs) (subst (λ (x : Side). length x.outputs ≡ channels x) e i.outputs)
