use Rattle.std.proofs.Common.{map, sym}
use Rattle.ss_piece.specs.Pieces.{slip, event_text}
use Rattle.ss_compose.specs.Compose.{picked}
use Rattle.ss_compose.proofs.Gathered.{flat_on, slip_at}
use Rattle.ss_compose.proofs.merging.pick_all.Goals as goal

pub pick-requires-clause-told : goal.pick-requires-clause-told
pick-requires-clause-told c =
    let p = c.index-pieces-place.result in
    c.requires.told c.loop-place.place (slip p) (slip_at c.args.pieces.now c.loop-place.place p _ c.loop-place-test.true (sym c.index-pieces-place.is))

pub loop-place-preserved : goal.loop-place-preserved
loop-place-preserved c =
    let p = c.index-pieces-place.result in
    flat_on (picked c.args.graph.now c.args.own) slip c.args.pieces.now c.loop-place.place p _
    (map (λ e. event_text e.now) c.args.all.now.items) (map (λ e. event_text e.now) c.loop-place.all.items) (map (λ e. event_text e.now) c.pick.new.all.items)
    c.loop-place-test.true (sym c.index-pieces-place.is) c.in_ok-pick.ensures c.loop-place.invariant
