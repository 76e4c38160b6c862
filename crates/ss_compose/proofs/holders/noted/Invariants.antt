use Rattle.std.proofs.Common.{◌≡◌, ◌<◌, ℕ, length, map, None}
use Rattle.std.specs.Prelude.{slice_index_or}
use Rattle.ss_piece.specs.Pieces.{slip}
use Rattle.ss_compose.specs.Compose.{holder_upto}
use Rattle.ss_compose.proofs.holders.noted.Given as goal

abbrev pub invariant-loop-place : goal.invariant-loop-place
invariant-loop-place l = record {
  len : length l.holders.items ≡ l.count;
  noted : (c : ℕ) → c < l.count → slice_index_or l.holders.items c None ≡ holder_upto l.place (map slip l.pieces) c;
}
