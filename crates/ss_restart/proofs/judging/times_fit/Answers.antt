use Rattle.std.proofs.Common.{arith, below_more}
use Rattle.ss_safe.specs.Kept.Found.{get_below}
use Rattle.ss_safe.specs.Sound.{TimeSound}
use Rattle.ss_ckpt.specs.Views.{state_of}
use Rattle.ss_restart.proofs.judging.times_fit.Goals as goal

pub loop-event-preserved : goal.loop-event-preserved
loop-event-preserved g c = below_more (TimeSound g.E.Element.kind c.args.saved.now.model.wires c.args.saved.now.time (state_of c.args.saved.now)) c.loop-event.event c.loop-event.invariant (c.is_timed.ensures.0 c.if-not-is_timed.false)

pub returns : goal.returns
returns g c = λ i e k.
    let below = get_below c.args.saved.now.events.items i e k in
    c.loop-event.invariant i (omega (arith, below, c.len-event-end.ensures, c.loop-event-test.false)) e k
