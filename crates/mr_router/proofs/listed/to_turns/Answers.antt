use Rattle.std.proofs.Common.{◌<◌, length, Some, sym, ap, ◌∙◌, arith}
use Rattle.mr_router.specs.Turns.{turn_read}
use Rattle.mr_router.specs.declared.listed.Listed.{Listed}
use Rattle.mr_router.proofs.Listing.{get_map}
use Rattle.mr_router.proofs.listed.to_turns.Goals as goal

pub to_turn-requires-clause-fit : goal.to_turn-requires-clause-fit
to_turn-requires-clause-fit c =
    let turns = c.args.turns.now in
    let within : c.loop-index.index < length turns = omega arith in
    c.requires.fit c.loop-index.index (turn_read c.index-turns-index.result) (get_map turn_read turns c.loop-index.index c.index-turns-index.result within ∙ ap (λ (t : Listed). Some (turn_read t)) (sym c.index-turns-index.is))
