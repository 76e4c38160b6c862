use Rattle.std.proofs.Common.{refl, ap, Err, subst, List, ℕ, ◌+◌, ◌<◌, ◌≤◌, length}
use Rattle.ss_graph.specs.declared.fault.LimitKind.{LimitKind}
use Rattle.ss_top.specs.Answer.{line}
use Rattle.ss_top.specs.Message.{limit_line}
use Rattle.ss_top.specs.Printing.{Told}
use Rattle.ss_top.specs.Reading.{Holds}
use Rattle.ss_top.proofs.Endings.{read_answered, read_large}
use Rattle.ss_top.proofs.read_and_run.Goals as goal

pub returns-in-Ok-clause-ends : goal.returns-in-Ok-clause-ends
returns-in-Ok-clause-ends g c =
    read_answered c.args.plan.now c.finish.new.ran.workers.items (g.V.Shelf.held c.args.shelf.now) (g.V.Shelf.held c.read_entry.new.shelf) (g.V.Shelf.held c.finish.new.shelf) (g.V.Shelf.read_faults c.args.shelf.now) (g.V.Shelf.read_faults c.read_entry.new.shelf) (g.V.Shelf.read_faults c.finish.new.shelf) (g.V.Shelf.put_faults c.args.shelf.now) (g.V.Shelf.put_faults c.read_entry.new.shelf) (g.V.Shelf.put_faults c.finish.new.shelf) (g.K.Sink.taken c.args.out.now) (g.K.Sink.taken c.finish.new.out) (g.K.Sink.faults c.args.out.now) (g.K.Sink.faults c.finish.new.out) (g.R.Sink.taken c.args.err.now) (g.R.Sink.taken c.finish.new.err) (g.R.Sink.faults c.args.err.now) (g.R.Sink.faults c.finish.new.err) c.in-Ok.bytes.items c.finish.result
    (subst (λ (n : List ℕ). Holds (g.V.Shelf.held c.args.shelf.now) n c.in-Ok.bytes.items) c.name_of-name.ensures c.in-Ok.ensures.whole)
    (subst (λ (m : ℕ × LimitKind). length c.in-Ok.bytes.items ≤ m.0) c.most_of-most.ensures c.in-Ok.ensures.within)
    c.in-Ok.ensures.same c.in-Ok.ensures.puts c.finish.ensures.counted.puts c.finish.ensures.ends

pub returns-in-Err-TooLarge-clause-ends : goal.returns-in-Err-TooLarge-clause-ends
returns-in-Err-TooLarge-clause-ends g c =
    let big = c.in-Err-TooLarge.ensures.large (ap Err c.in-Err-TooLarge.field-0-is) in
    read_large c.args.plan.now c.args.ran.now.workers.items (g.V.Shelf.held c.args.shelf.now) (g.V.Shelf.held c.read_entry.new.shelf) (g.V.Shelf.read_faults c.args.shelf.now) (g.V.Shelf.read_faults c.read_entry.new.shelf) (g.V.Shelf.put_faults c.args.shelf.now) (g.V.Shelf.put_faults c.read_entry.new.shelf) (g.K.Sink.taken c.args.out.now) (g.K.Sink.taken c.args.out.now) (g.K.Sink.faults c.args.out.now) (g.K.Sink.faults c.args.out.now) (g.R.Sink.taken c.args.err.now) (g.R.Sink.taken c.tell_limit.new.err) (g.R.Sink.faults c.args.err.now) (g.R.Sink.faults c.tell_limit.new.err) big.0
    (subst (λ (m : ℕ × LimitKind). m.0 < length big.0) c.most_of-most.ensures big.1)
    (subst (λ (n : List ℕ). Holds (g.V.Shelf.held c.args.shelf.now) n big.0) c.name_of-name.ensures big.2)
    c.in-Err-TooLarge.ensures.same refl
    (subst (λ (m : ℕ × LimitKind). Told (line (limit_line m.1 (m.0 + 1))) (g.R.Sink.taken c.args.err.now) (g.R.Sink.taken c.tell_limit.new.err) (g.R.Sink.faults c.args.err.now) (g.R.Sink.faults c.tell_limit.new.err)) c.most_of-most.ensures c.tell_limit.ensures.told)
