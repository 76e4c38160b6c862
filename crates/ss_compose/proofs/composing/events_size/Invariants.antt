use Rattle.std.proofs.Common.{◌≡◌, ◌^◌, ◌-◌, length, map, take, min}
use Rattle.std.specs.Prelude.{sum_by}
use Rattle.ss_piece.specs.Pieces.{event_text}
use Rattle.ss_compose.specs.Compose.{event_bytes}
use Rattle.ss_compose.proofs.composing.events_size.Given as goal

abbrev pub invariant-loop-event : goal.invariant-loop-event
invariant-loop-event l = l.total ≡ min (sum_by (λ e. length (event_bytes e)) (map event_text (take l.event-index l.piece.events.items))) (2 ^ 64 - 1)
