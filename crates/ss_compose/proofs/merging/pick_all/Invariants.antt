use Rattle.std.proofs.Common.{◌≡◌, ◌++◌, map, take}
use Rattle.std.specs.List.{flat_map}
use Rattle.ss_piece.specs.Pieces.{slip, event_text}
use Rattle.ss_compose.specs.Compose.{picked}
use Rattle.ss_compose.proofs.merging.pick_all.Given as goal

abbrev pub invariant-loop-place : goal.invariant-loop-place
invariant-loop-place l = map (λ e. event_text e.now) l.all.items ≡ map (λ e. event_text e.now) l.fn.all.items ++ flat_map (picked l.graph l.own) (map slip (take l.place l.pieces))
