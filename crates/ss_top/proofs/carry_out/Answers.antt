use Rattle.std.proofs.Common.{refl, sym}
use Rattle.ss_top.specs.Headline.{seen}
use Rattle.ss_top.specs.Spreading.{too_many_threads}
use Rattle.ss_top.proofs.Endings.{threads_answered, threads_refused}
use Rattle.ss_top.proofs.carry_out.Goals as goal

pub returns-in-Some-clause-ends : goal.returns-in-Some-clause-ends
returns-in-Some-clause-ends g c =
    threads_refused c.args.plan.now c.args.ran.now.workers.items (seen (g.V.Shelf.held c.args.shelf.now) (g.V.Shelf.read_faults c.args.shelf.now) (g.V.Shelf.put_faults c.args.shelf.now) (g.K.Sink.taken c.args.out.now) (g.K.Sink.faults c.args.out.now) (g.R.Sink.taken c.args.err.now) (g.R.Sink.faults c.args.err.now)) (seen (g.V.Shelf.held c.args.shelf.now) (g.V.Shelf.read_faults c.args.shelf.now) (g.V.Shelf.put_faults c.args.shelf.now) (g.K.Sink.taken c.args.out.now) (g.K.Sink.faults c.args.out.now) (g.R.Sink.taken c.tell_limit.new.err) (g.R.Sink.faults c.tell_limit.new.err))
    (too_many_threads c.args.plan.now) c.in-Some.threads (sym c.in-Some.ensures) refl c.tell_limit.ensures.told

pub returns-in-None-clause-ends : goal.returns-in-None-clause-ends
returns-in-None-clause-ends g c =
    threads_answered c.args.plan.now c.read_and_run.new.ran.workers.items (seen (g.V.Shelf.held c.args.shelf.now) (g.V.Shelf.read_faults c.args.shelf.now) (g.V.Shelf.put_faults c.args.shelf.now) (g.K.Sink.taken c.args.out.now) (g.K.Sink.faults c.args.out.now) (g.R.Sink.taken c.args.err.now) (g.R.Sink.faults c.args.err.now)) (seen (g.V.Shelf.held c.read_and_run.new.shelf) (g.V.Shelf.read_faults c.read_and_run.new.shelf) (g.V.Shelf.put_faults c.read_and_run.new.shelf) (g.K.Sink.taken c.read_and_run.new.out) (g.K.Sink.faults c.read_and_run.new.out) (g.R.Sink.taken c.read_and_run.new.err) (g.R.Sink.faults c.read_and_run.new.err))
    (too_many_threads c.args.plan.now) c.read_and_run.result (sym c.in-None.ensures) c.read_and_run.ensures.ends
