use Rattle.ss_worker.specs.Standing.{CanRunTo, Runs}
use Rattle.ss_worker.proofs.Later.{time_left}
use Rattle.ss_worker.proofs.Part.run_to.Given as goal

abbrev pub invariant-loop-now : goal.invariant-loop-now
invariant-loop-now g l = record {
  runs : Runs g.E.Element.kind l.wires l.owners l.part l.time l.initial.self l.self;
  can : CanRunTo g.E.Element.kind l.wires l.owners l.part l.time l.self;
}

abbrev pub decreases-loop-now : goal.decreases-loop-now
decreases-loop-now g l = time_left l.time l.self.part.pending
