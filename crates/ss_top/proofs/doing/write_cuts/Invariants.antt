use Rattle.std.proofs.Common.{◌≡◌, ◌≤◌, take}
use Rattle.ss_course.specs.Kept.{most_kept}
use Rattle.ss_top.specs.Doing.{acts_in}
use Rattle.ss_top.specs.Headline.{seen}
use Rattle.ss_top.proofs.Onward.{SoFar, count_behind}
use Rattle.ss_top.proofs.doing.write_cuts.Given as goal

abbrev pub invariant-loop-cut : goal.invariant-loop-cut
invariant-loop-cut g l = record {
  so_far : SoFar l.prefix l.graph 0 (acts_in (take l.cut-index l.cuts))
      (seen (g.V.Shelf.held l.initial.shelf) (g.V.Shelf.read_faults l.initial.shelf) (g.V.Shelf.put_faults l.initial.shelf) (g.K.Sink.taken l.initial.out) (g.K.Sink.faults l.initial.out) (g.R.Sink.taken l.initial.err) (g.R.Sink.faults l.initial.err))
      (seen (g.V.Shelf.held l.shelf) (g.V.Shelf.read_faults l.shelf) (g.V.Shelf.put_faults l.shelf) (g.K.Sink.taken l.out) (g.K.Sink.faults l.out) (g.R.Sink.taken l.err) (g.R.Sink.faults l.err));
  count : l.count ≡ count_behind 0 (acts_in (take l.cut-index l.cuts));
  most : l.count ≤ most_kept;
}
