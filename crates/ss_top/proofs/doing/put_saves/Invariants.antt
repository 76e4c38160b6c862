use Rattle.std.proofs.Common.{◌≡◌, ◌≤◌, ℕ, List, Option, [], ◌∷◌, map, flat_map, take}
use Rattle.ss_piece.specs.Pieces.{slip}
use Rattle.ss_course.specs.Kept.{most_kept}
use Rattle.ss_top.specs.Doing.{saves}
use Rattle.ss_top.specs.Headline.{seen}
use Rattle.ss_top.proofs.Onward.{SoFar, count_behind}
use Rattle.ss_top.proofs.doing.put_saves.Given as goal

abbrev pub invariant-loop-time : goal.invariant-loop-time
invariant-loop-time g l = record {
  so_far : (taken : Option (List ℕ)) (faults : ℕ) → SoFar l.prefix l.graph l.initial.count (flat_map (λ t. saves t (map slip l.pieces) ∷ []) (take l.time-index l.times))
      (seen (g.V.Shelf.held l.initial.shelf) (g.V.Shelf.read_faults l.initial.shelf) (g.V.Shelf.put_faults l.initial.shelf) taken faults (g.R.Sink.taken l.initial.err) (g.R.Sink.faults l.initial.err))
      (seen (g.V.Shelf.held l.shelf) (g.V.Shelf.read_faults l.shelf) (g.V.Shelf.put_faults l.shelf) taken faults (g.R.Sink.taken l.err) (g.R.Sink.faults l.err));
  count : l.count ≡ count_behind l.initial.count (flat_map (λ t. saves t (map slip l.pieces) ∷ []) (take l.time-index l.times));
  most : l.count ≤ most_kept;
}
