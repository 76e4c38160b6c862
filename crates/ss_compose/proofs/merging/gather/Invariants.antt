use Rattle.std.proofs.Common.{◌≡◌, ◌++◌, map, take}
use Rattle.ss_piece.specs.Pieces.{state_text}
use Rattle.ss_compose.proofs.merging.gather.Given as goal

abbrev pub invariant-loop-state : goal.invariant-loop-state
invariant-loop-state l = map (λ x. state_text x.now) l.all.items ≡ map (λ x. state_text x.now) l.fn.all.items ++ map state_text (take l.state-index l.piece.states.items)
