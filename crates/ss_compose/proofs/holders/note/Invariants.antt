use Rattle.std.proofs.Common.{◌≡◌, ◌<◌, ℕ, length, map, take, Some, None, cond}
use Rattle.std.specs.Prelude.{slice_index_or}
use Rattle.ss_piece.specs.Pieces.{state_text}
use Rattle.ss_compose.specs.Compose.{has_state}
use Rattle.ss_compose.proofs.holders.note.Given as goal

abbrev pub invariant-loop-number : goal.invariant-loop-number
invariant-loop-number l = record {
  len : length l.holders.items ≡ length l.fn.holders.items;
  noted : (c : ℕ) → c < length l.fn.holders.items → slice_index_or l.holders.items c None ≡ cond (has_state (map state_text (take l.number-index l.states)) c) (Some l.place) (slice_index_or l.fn.holders.items c None);
}
