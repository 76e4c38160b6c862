use Rattle.std.proofs.Common.{◌≡◌, ◌++◌, ◌<◌, ℕ, List, [], ◌∷◌, Bool, get_or, length, take, ap, sym, ◌∙◌, arith}
use Rattle.std.proofs.lemmas.Grind.{common_steps}
use Rattle.std.proofs.lemmas.List.{take_more_set}
use Rattle.mr_arb.specs.Arbitrating.{free, winner}
use Rattle.mr_arb.specs.declared.turn.Turn.{Turn}
use Rattle.mr_arb.proofs.Picking.{ahead_step, drop_at, fits_at, free_left, grants_step, same_default, turns_step, winner_in}
use Rattle.mr_arb.proofs.pick_each.Goals as goal

pub winner_of-winner-requires-clause-turn : goal.winner_of-winner-requires-clause-turn
winner_of-winner-requires-clause-turn c = fits_at c.args.slots c.loop-output.turns c.args.turns.now c.loop-output.output c.index-turns-output.result c.loop-output.invariant.ahead c.loop-output-test.true c.requires.fit

pub mark-requires : goal.mark-requires
mark-requires c = λ x e. rw c.loop-output.invariant.marks (winner_in (λ q. q.input < length c.args.granted.now) c.args.slots c.loop-output.output (get_or c.loop-output.turns c.loop-output.output c.index-turns-output.result) c.loop-output.granted c.args.requests.now x c.requires.inputs (sym c.winner_of-winner.ensures ∙ e))

pub pass-requires-clause-turn : goal.pass-requires-clause-turn
pass-requires-clause-turn c = fits_at c.args.slots c.loop-output.turns c.args.turns.now c.loop-output.output c.index-turns-output-in-loop-output.result c.loop-output.invariant.ahead c.loop-output-test.true c.requires.fit

pub pass-requires-clause-slot : goal.pass-requires-clause-slot
pass-requires-clause-slot c = λ x e. winner_in (λ q. q.slot < c.args.slots) c.args.slots c.loop-output.output (get_or c.loop-output.turns c.loop-output.output c.index-turns-output.result) c.loop-output.granted c.args.requests.now x c.requires.slots (sym c.winner_of-winner.ensures ∙ e)

pub loop-output-preserved : goal.loop-output-preserved
loop-output-preserved c =
    let turns = c.loop-output.turns in
    let o = c.loop-output.output in
    let t = get_or turns o c.index-turns-output-in-loop-output.result in
    let w = c.winner_of-winner.result in
    let qs = free c.loop-output.granted c.args.requests.now in
    let l : o < length turns = omega (arith, c.loop-output-test.true, c.loop-output.auto.turns) in
    let m : o < length c.loop-output.grants = omega (arith, c.loop-output-test.true, c.loop-output.auto.grants, c.requires.outputs) in
    let e = drop_at turns c.args.turns.now o c.index-turns-output-in-loop-output.result c.loop-output.invariant.ahead c.loop-output-test.true in
    let v : w ≡ winner c.args.slots o t qs = c.winner_of-winner.ensures ∙ ap (λ (u : Turn). winner c.args.slots o u qs) (same_default turns o c.index-turns-output.result c.index-turns-output-in-loop-output.result l) in
    let f = ap (λ (g : List Bool). free g c.args.requests.now) c.mark.ensures ∙ free_left c.loop-output.granted c.args.requests.now w (λ x e'. rw c.loop-output.invariant.marks (winner_in (λ q. q.input < length c.args.granted.now) c.args.slots o (get_or turns o c.index-turns-output.result) c.loop-output.granted c.args.requests.now x c.requires.inputs (sym c.winner_of-winner.ensures ∙ e'))) in
    record {
      turns = turns_step c.args.slots o _ turns _ _ _ t w qs _ c.loop-output.invariant.turns e v (take_more_set turns o c.pass.new.self l ∙ ap (λ (u : Turn). take o turns ++ u ∷ []) c.pass.ensures) f;
      grants = grants_step c.args.slots o _ c.loop-output.grants _ _ _ t w qs _ c.loop-output.invariant.grants e v (take_more_set c.loop-output.grants o c.slot_of.result m ∙ ap (λ (n : ℕ). take o c.loop-output.grants ++ n ∷ []) c.slot_of.ensures) f;
      ahead = ahead_step turns c.args.turns.now o c.pass.new.self c.loop-output.invariant.ahead;
      marks = grind (arith, common_steps, c.mark.auto.granted, c.loop-output.invariant.marks);
    }
