use Rattle.std.proofs.Common.{◌<◌, sym, ap, ◌∙◌, map, subst}
use Rattle.std.specs.Prelude.{option_map, slice_get}
use Rattle.ss_piece.specs.Pieces.{slip}
use Rattle.ss_worker.proofs.Gives.{map_set_any, get_set_other, get_set_same, length_map_any}
use Rattle.ss_worker.proofs.worker.put_piece.Goals as goal

pub returns-then-place-len-clause-there : goal.returns-then-place-len-clause-there
returns-then-place-len-clause-there c s lt e =
    ap (λ l. slice_get l c.args.place) (map_set_any slip c.args.pieces.now.items c.args.place c.in-Some.piece)
    ∙ get_set_same (map slip c.args.pieces.now.items) c.args.place (slip c.in-Some.piece) (subst (λ n. c.args.place < n) (sym (length_map_any slip c.args.pieces.now.items)) lt)
    ∙ sym (ap (option_map slip) c.in-Some.is) ∙ e

pub returns-then-place-len-clause-others : goal.returns-then-place-len-clause-others
returns-then-place-len-clause-others c j ne =
    ap (λ l. slice_get l j) (map_set_any slip c.args.pieces.now.items c.args.place c.in-Some.piece)
    ∙ get_set_other (map slip c.args.pieces.now.items) c.args.place j (slip c.in-Some.piece) ne
