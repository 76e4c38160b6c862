use Rattle.std.proofs.Common.{◌+◌}
use Rattle.ss_worker.specs.Standing.{CanRunTo, Runs}
use Rattle.ss_worker.proofs.Later.{AllFrom, count_before}
use Rattle.ss_worker.proofs.Part.run_at.Given as goal

abbrev pub invariant-loop : goal.invariant-loop
invariant-loop g l = record {
  runs : Runs g.E.Element.kind l.wires l.owners l.part (l.now + 1) l.initial.self l.self;
  can : CanRunTo g.E.Element.kind l.wires l.owners l.part (l.now + 1) l.self;
  events : AllFrom l.now l.self.part.pending;
}

abbrev pub decreases-loop : goal.decreases-loop
decreases-loop g l = count_before (l.now + 1) l.self.part.pending
