use Rattle.std.proofs.Common.{◌<◌, ◌∷◌, [], length, length-append, arith, ap}
use Rattle.std.proofs.lemmas.Result.{err_from_is_err_and}
use Rattle.ss_wire.specs.Form.{each}
use Rattle.mr_arb.specs.declared.turn.Turn.TheVariants as turn
use Rattle.mr_router.specs.Turns.{turn_read, turn_form}
use Rattle.mr_router.proofs.Listing.{next_read, next_fails, get_there}
use Rattle.mr_router.proofs.outputs.Outputs.read.Goals as goal

pub loop-output-preserved : goal.loop-output-preserved
loop-output-preserved c =
    let ys = c.args.self.now.turns in
    let k = c.loop-output.output in
    let within : k < length ys = omega (arith, c.len-output-end.ensures) in
    let there = get_there ys k turn.Age within in
    record {
      long = let e = ap length c.in_ok-hold.ensures in let n = length-append c.loop-output.turns.items (c.in_ok-turn.turn ∷ []) in omega (arith, e, n, c.loop-output.invariant.long);
      read = next_read turn_read turn_form ys k _ c.loop-output.turns.items c.hold.new.turns.items c.in_ok-turn.turn c.loop-output.bytes c.read_turn.new.bytes ((each turn_form ys).read c.args.bytes.now) there (c.in_ok-turn.ensures _ there) c.in_ok-hold.ensures c.loop-output.invariant.read;
    }

pub returns-in_err-turn-clause-told : goal.returns-in_err-turn-clause-told
returns-in_err-turn-clause-told c =
    let p = err_from_is_err_and c.from_residual-in_err-turn.result c.from_residual-in_err-turn.ensures.1 in
    let ys = c.args.self.now.turns in
    let k = c.loop-output.output in
    let within : k < length ys = omega (arith, c.len-output-end.ensures) in
    let there = get_there ys k turn.Age within in
    rw (p.1, p.2) (next_fails turn_read turn_form ys k _ c.loop-output.turns.items c.loop-output.bytes c.in_err-turn.field-0.0 ((each turn_form ys).read c.args.bytes.now) there (c.in_err-turn.ensures _ there) c.loop-output.invariant.read)
