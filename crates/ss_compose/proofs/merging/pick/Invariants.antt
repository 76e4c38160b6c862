use Rattle.std.proofs.Common.{◌≡◌, ◌++◌, map, take}
use Rattle.ss_piece.specs.Pieces.{slip, event_text}
use Rattle.ss_compose.specs.Compose.{picked_of}
use Rattle.ss_compose.proofs.merging.pick.Given as goal

abbrev pub invariant-loop-event : goal.invariant-loop-event
invariant-loop-event l = map (λ e. event_text e.now) l.all.items ≡ map (λ e. event_text e.now) l.fn.all.items ++ picked_of l.graph l.own (slip l.piece).states (map event_text (take l.event-index l.piece.events.items))
