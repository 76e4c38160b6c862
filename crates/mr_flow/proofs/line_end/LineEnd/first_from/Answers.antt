use Rattle.std.proofs.Common.{◌<◌, ◌∙◌, arith, sym}
use Rattle.mr_flow.specs.Side.{may_go}
use Rattle.mr_flow.proofs.Turns.{find_more}
use Rattle.mr_flow.proofs.line_end.LineEnd.first_from.Goals as goal

pub loop-channel-preserved : goal.loop-channel-preserved
loop-channel-preserved c =
    let below : c.loop-channel.channel < c.args.high = omega arith in
    c.loop-channel.invariant ∙ find_more (may_go c.args.self.now) c.loop-channel.channel c.args.high below (sym c.may_go.ensures ∙ c.if-may_go.false)
