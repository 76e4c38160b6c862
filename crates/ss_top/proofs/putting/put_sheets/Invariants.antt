use Rattle.std.proofs.Common.{◌≡◌, ℕ, List, Option, map, take}
use Rattle.ss_edge.specs.Edge.{Kept}
use Rattle.ss_top.specs.Headline.{after_steps}
use Rattle.ss_top.proofs.Shelving.{outside_of, sheet_step}
use Rattle.ss_top.proofs.putting.put_sheets.Given as goal

abbrev pub invariant-loop-sheet : goal.invariant-loop-sheet
invariant-loop-sheet g l = record {
  so_far : (taken : Option (List ℕ)) → outside_of (g.V.Shelf.held l.shelf) taken ≡ after_steps (map sheet_step (take l.sheet-index l.sheets)) (outside_of (g.V.Shelf.held l.initial.shelf) taken);
  reads : Kept (g.V.Shelf.read_faults l.initial.shelf) (g.V.Shelf.read_faults l.shelf);
  puts : Kept (g.V.Shelf.put_faults l.initial.shelf) (g.V.Shelf.put_faults l.shelf);
  quiet : g.R.Sink.taken l.err ≡ g.R.Sink.taken l.initial.err;
  errs : g.R.Sink.faults l.err ≡ g.R.Sink.faults l.initial.err;
}
