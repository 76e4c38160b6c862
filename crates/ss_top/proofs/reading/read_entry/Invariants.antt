use Rattle.std.proofs.Common.{◌≡◌, ◌+◌, ◌<◌, length, ◌-◌, vec_len}
use Rattle.ss_edge.specs.Edge.{Kept}
use Rattle.ss_top.specs.Reading.{Begins}
use Rattle.ss_top.proofs.reading.read_entry.Given as goal

abbrev pub invariant-loop-shelf : goal.invariant-loop-shelf
invariant-loop-shelf g l = record {
  begins : Begins (g.V.Shelf.held l.initial.shelf) l.name l.bytes.items;
  same : g.V.Shelf.held l.shelf ≡ g.V.Shelf.held l.initial.shelf;
  reads : Kept (g.V.Shelf.read_faults l.initial.shelf) (g.V.Shelf.read_faults l.shelf);
  puts : Kept (g.V.Shelf.put_faults l.initial.shelf) (g.V.Shelf.put_faults l.shelf);
  room : 0 < length l.piece.items;
}

abbrev pub decreases-loop-shelf : goal.decreases-loop-shelf
decreases-loop-shelf g l = (l.most + 1) - vec_len l.bytes
