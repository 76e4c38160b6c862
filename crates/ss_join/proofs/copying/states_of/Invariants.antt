use Rattle.std.proofs.Common.{◌≡◌, map, take}
use Rattle.ss_piece.specs.Pieces.{state_text}
use Rattle.ss_join.proofs.copying.states_of.Given as goal

abbrev pub invariant-loop-number : goal.invariant-loop-number
invariant-loop-number l = map state_text l.copy.items ≡ map state_text (take l.number-index l.states)
