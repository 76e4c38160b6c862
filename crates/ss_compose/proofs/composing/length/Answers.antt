use Rattle.std.proofs.Common.{◌+◌, ◌-◌, ◌^◌, length, map, min, ap, ◌∙◌}
use Rattle.std.specs.Prelude.{sum_by}
use Rattle.ss_piece.specs.Pieces.{slip}
use Rattle.ss_compose.specs.Compose.{composed, slip_size}
use Rattle.ss_compose.proofs.Sizes.{composed_size, total_is}
use Rattle.ss_compose.proofs.composing.length.Goals as goal

pub returns : goal.returns
returns c at =
    let ss = map slip c.args.pieces.now in
    let g = c.args.graph.now in
    total_is (length g.text) (sum_by slip_size ss) c.pieces_size.result (length (composed g at ss)) c.saturating_add.result (2 ^ 64 - 1) c.pieces_size.ensures (composed_size g at ss)
    (c.saturating_add.ensures ∙ ap (λ n. min (n + 32 + c.pieces_size.result) (2 ^ 64 - 1)) (ap length c.as_slice.ensures))
