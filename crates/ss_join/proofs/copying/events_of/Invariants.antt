use Rattle.std.proofs.Common.{◌≡◌, map, take}
use Rattle.ss_piece.specs.Pieces.{event_text}
use Rattle.ss_join.proofs.copying.events_of.Given as goal

abbrev pub invariant-loop-key : goal.invariant-loop-key
invariant-loop-key l = map event_text l.copy.items ≡ map event_text (take l.key-index l.events)
