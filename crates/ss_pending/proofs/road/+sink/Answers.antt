use Rattle.std.proofs.Common.{◌<◌, ◌-◌, ◌+◌, length, arith, refl}
use Rattle.ss_pending.proofs.Turns.{swapped_sinks, swapped_same, sinks_no_more, sunk}
use Rattle.ss_pending.proofs.road.+sink.Goals as goal

pub sink-requires : goal.sink-requires
sink-requires g t c κs within =
    let m : length c.swap.new.self - (c.args.place + 1) < t = omega (arith, c.decreases, c.swap.ensures.len, c.if-behind-lanes.false) in
    (m, (within, (omega (arith, c.swap.ensures.len, c.if-behind-lanes.false), swapped_sinks c.args.lanes.now c.swap.new.self c.args.place (c.args.place + 1) refl (omega (arith, c.if-behind-lanes.false)) c.swap.ensures.after c.requires.turn (c.is_out_of_turn.ensures.out c.if-is_out_of_turn.true))))

pub returns-then-is_out_of_turn-clause-same : goal.returns-then-is_out_of_turn-clause-same
returns-then-is_out_of_turn-clause-same g t c = swapped_same c.args.lanes.now c.swap.new.self c.args.place (c.args.place + 1) refl (omega (arith, c.if-behind-lanes.false)) c.swap.ensures.after c.sink.new.lanes c.sink.ensures.same

pub returns-else-is_out_of_turn-clause-turn : goal.returns-else-is_out_of_turn-clause-turn
returns-else-is_out_of_turn-clause-turn g t c = sinks_no_more c.args.lanes.now c.args.place c.requires.turn (c.is_out_of_turn.ensures.turn c.if-is_out_of_turn.false)

pub returns-then-behind-lanes-clause-turn : goal.returns-then-behind-lanes-clause-turn
returns-then-behind-lanes-clause-turn g t c = sunk c.args.lanes.now c.args.place (c.args.place + 1) refl c.if-behind-lanes.true c.requires.turn
