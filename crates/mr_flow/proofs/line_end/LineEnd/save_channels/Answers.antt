use Rattle.std.proofs.Common.{◌<◌, ◌++◌, sym, ap, ◌∙◌, arith}
use Rattle.std.proofs.lemmas.List.{take_all}
use Rattle.std.specs.List.{flat_map}
use Rattle.mr_flow.specs.Side.{channels}
use Rattle.mr_flow.specs.Saved.{lane_of, lane_text, lanes_of}
use Rattle.mr_flow.proofs.Lanes.{lane_at, length-lanes}
use Rattle.mr_flow.proofs.Writing.{wrote_more}
use Rattle.mr_flow.proofs.line_end.LineEnd.save_channels.Goals as goal

pub loop-channel-preserved : goal.loop-channel-preserved
loop-channel-preserved c =
    let s = c.args.self.now in
    let k = c.loop-channel.channel in
    let whole = c.channels-channel-end.ensures.whole in
    let here : k < channels s = omega (arith, c.channels-channel-end.ensures.count) in
    let long = length-lanes s.inputs s.outputs s.credits whole.inputs whole.outputs in
    let is = sym (lane_at s.inputs s.outputs s.credits k (lane_of s k) whole.inputs whole.outputs here) in
    wrote_more lane_text (lanes_of s) k (lane_of s k) c.args.out.now c.loop-channel.out c.save_channel.new.out (omega (arith, long)) is c.loop-channel.invariant c.in_ok-save_channel.ensures

pub returns : goal.returns
returns c =
    let s = c.args.self.now in
    let whole = c.channels-channel-end.ensures.whole in
    let long = length-lanes s.inputs s.outputs s.credits whole.inputs whole.outputs in
    c.loop-channel.invariant ∙ ap (λ l. c.args.out.now ++ flat_map lane_text l) (take_all c.loop-channel.channel (lanes_of s) (omega (arith, long, c.channels-channel-end.ensures.count)))
