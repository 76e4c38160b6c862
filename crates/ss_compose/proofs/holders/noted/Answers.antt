use Rattle.std.proofs.Common.{◌<◌, map, cond, Some, None, sym, ap, ◌∙◌, subst}
use Rattle.std.specs.Prelude.{slice_index_or}
use Rattle.ss_piece.specs.declared.Piece.{Piece}
use Rattle.ss_piece.specs.Pieces.{slip, state_text}
use Rattle.ss_compose.specs.Compose.{has_state}
use Rattle.ss_compose.proofs.Gathered.{slip_at}
use Rattle.ss_compose.proofs.Tables.{upto_more}
use Rattle.ss_compose.proofs.holders.noted.Goals as goal

pub loop-place-preserved : goal.loop-place-preserved
loop-place-preserved c =
    let p = c.index-pieces-place.result in
    let n = c.loop-place.place in
    let ss = map slip c.args.pieces.now in
    record {
      len = c.note.ensures.len ∙ c.loop-place.invariant.len;
      noted = λ k below.
          c.note.ensures.noted k (subst (λ m. k < m) (sym c.loop-place.invariant.len) below)
          ∙ ap (λ l. cond (has_state (map state_text l) k) (Some n) (slice_index_or c.loop-place.holders.items k None)) c.deref.ensures.value
          ∙ ap (λ (q : Piece). cond (has_state (map state_text q.states.items) k) (Some n) (slice_index_or c.loop-place.holders.items k None)) (sym c.index-pieces-place.is)
          ∙ ap (λ o. cond (has_state (map state_text p.states.items) k) (Some n) o) (c.loop-place.invariant.noted k below)
          ∙ upto_more ss n k (slip p) (slip_at c.args.pieces.now n p _ c.loop-place-test.true (sym c.index-pieces-place.is));
    }
