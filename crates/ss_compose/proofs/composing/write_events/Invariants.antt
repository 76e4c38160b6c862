use Rattle.std.proofs.Common.{◌≡◌, ◌++◌, map, take}
use Rattle.std.specs.List.{flat_map}
use Rattle.ss_piece.specs.Pieces.{event_text}
use Rattle.ss_compose.specs.Compose.{event_bytes}
use Rattle.ss_compose.proofs.composing.write_events.Given as goal

abbrev pub invariant-loop-event : goal.invariant-loop-event
invariant-loop-event l = l.out ≡ l.fn.out ++ flat_map event_bytes (map (λ e. event_text e.now) (take l.event-index l.events))
