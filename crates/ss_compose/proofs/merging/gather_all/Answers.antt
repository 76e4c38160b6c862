use Rattle.std.proofs.Common.{map, sym}
use Rattle.ss_piece.specs.Pieces.{Slip, slip, state_text}
use Rattle.ss_compose.proofs.Gathered.{flat_on}
use Rattle.ss_compose.proofs.merging.gather_all.Goals as goal

pub loop-piece-preserved : goal.loop-piece-preserved
loop-piece-preserved c =
    let p = c.piece-item.result in
    flat_on (λ (s : Slip). s.states) slip c.args.pieces.now c.loop-piece.piece-index p _
    (map (λ x. state_text x.now) c.args.all.now.items) (map (λ x. state_text x.now) c.loop-piece.all.items) (map (λ x. state_text x.now) c.gather.new.all.items)
    c.loop-piece-test.true (sym c.piece-item.is) c.in_ok-gather.ensures c.loop-piece.invariant
