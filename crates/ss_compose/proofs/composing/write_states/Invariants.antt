use Rattle.std.proofs.Common.{◌≡◌, ◌++◌, map, take}
use Rattle.std.specs.List.{flat_map}
use Rattle.ss_piece.specs.Pieces.{state_text}
use Rattle.ss_compose.specs.Compose.{bytes_of}
use Rattle.ss_compose.proofs.composing.write_states.Given as goal

abbrev pub invariant-loop-state : goal.invariant-loop-state
invariant-loop-state l = l.out ≡ l.fn.out ++ flat_map bytes_of (map (λ x. state_text x.now) (take l.state-index l.states))
