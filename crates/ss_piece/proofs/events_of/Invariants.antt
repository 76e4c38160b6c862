use Rattle.std.proofs.Common.{◌≡◌, map, take}
use Rattle.ss_piece.specs.Pieces.{event_text, event_spelled}
use Rattle.ss_piece.proofs.events_of.Given as goal

abbrev pub invariant-loop-event : goal.invariant-loop-event
invariant-loop-event g l = map event_text l.texts.items ≡ map (event_spelled g.E.Element.saving) (take l.event-index l.events)
