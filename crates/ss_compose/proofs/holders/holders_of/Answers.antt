use Rattle.std.proofs.Common.{map, sym, ap, ◌∙◌}
use Rattle.ss_piece.specs.Pieces.{slip}
use Rattle.ss_compose.specs.Compose.{holder_upto}
use Rattle.ss_compose.proofs.Tables.{all_told, map_length}
use Rattle.ss_compose.proofs.holders.holders_of.Goals as goal

pub returns : goal.returns
returns c =
    let ss = map slip c.args.pieces.now in
    all_told ss c.requires.apart c.args.count c.in_ok-holders.holders.items (λ k below. c.in_ok-holders.ensures k below ∙ ap (λ n. holder_upto n ss k) (sym (map_length slip c.args.pieces.now)))
