use Rattle.std.proofs.Common.{◌≡◌, ◌^◌, ◌-◌, length, map, take, min}
use Rattle.std.specs.Prelude.{sum_by}
use Rattle.ss_piece.specs.Pieces.{state_text}
use Rattle.ss_compose.specs.Compose.{bytes_of}
use Rattle.ss_compose.proofs.composing.states_size.Given as goal

abbrev pub invariant-loop-state : goal.invariant-loop-state
invariant-loop-state l = l.total ≡ min (sum_by (λ x. length (bytes_of x)) (map state_text (take l.state-index l.piece.states.items))) (2 ^ 64 - 1)
