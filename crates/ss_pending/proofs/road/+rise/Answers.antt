use Rattle.std.proofs.Common.{◌≡◌, ◌+◌, ◌-◌, arith}
use Rattle.ss_pending.proofs.Turns.{swapped_rises, swapped_same, risen}
use Rattle.ss_pending.proofs.road.+rise.Goals as goal

pub rise-requires : goal.rise-requires
rise-requires g t c κs within =
    let e : c.args.place ≡ c.args.place - 1 + 1 = omega (arith, c.if-place-eq0.false) in
    (omega (arith, c.decreases, c.if-place-eq0.false), (within, (omega (arith, c.swap.ensures.len, c.requires.there), swapped_rises c.args.lanes.now c.swap.new.self (c.args.place - 1) c.args.place e c.requires.there c.swap.ensures.after c.requires.turn (c.is_out_of_turn.ensures.out c.if-is_out_of_turn.true))))

pub returns-then-is_out_of_turn-clause-same : goal.returns-then-is_out_of_turn-clause-same
returns-then-is_out_of_turn-clause-same g t c =
    let e : c.args.place ≡ c.args.place - 1 + 1 = omega (arith, c.if-place-eq0.false) in
    swapped_same c.args.lanes.now c.swap.new.self (c.args.place - 1) c.args.place e c.requires.there c.swap.ensures.after c.rise.new.lanes c.rise.ensures.same

pub returns-else-is_out_of_turn-clause-turn : goal.returns-else-is_out_of_turn-clause-turn
returns-else-is_out_of_turn-clause-turn g t c =
    let e : c.args.place ≡ c.args.place - 1 + 1 = omega (arith, c.if-place-eq0.false) in
    risen c.args.lanes.now (c.args.place - 1) c.args.place e c.requires.turn (c.is_out_of_turn.ensures.turn c.if-is_out_of_turn.false)
