use Rattle.std.proofs.Common.{◌≡◌, map, take}
use Rattle.ss_piece.specs.Pieces.{state_text, state_spelled}
use Rattle.ss_piece.proofs.states_of.Given as goal

abbrev pub invariant-loop-number : goal.invariant-loop-number
invariant-loop-number g l = map state_text l.states.items ≡ map (state_spelled g.E.Element.saving) (take l.number-index l.elements)
