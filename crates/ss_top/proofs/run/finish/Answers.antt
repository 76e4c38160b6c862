use Rattle.std.proofs.Common.{refl, map, subst, sym, List, ℕ}
use Rattle.ss_graph.specs.declared.graph.Graph.{Graph}
use Rattle.ss_graph.specs.Fit.{IsFit}
use Rattle.ss_top.specs.Answer.{AnswersRead}
use Rattle.ss_top.specs.Doing.{EndsIn, listing}
use Rattle.ss_top.specs.Headline.{seen}
use Rattle.ss_top.specs.Left.{LeavesRead}
use Rattle.ss_top.specs.Simulate.{TellsRefusal}
use Rattle.ss_top.proofs.Endings.{refusal_ended, printed_ended, listed_ended}
use Rattle.ss_top.proofs.run.finish.Goals as goal

pub write_printed-requires-clause-fit : goal.write_printed-requires-clause-fit
write_printed-requires-clause-fit g c = subst (λ (x : Graph). IsFit x) (sym c.in-Ran.ensures.is) c.in-Ran.ensures.fit

pub returns-in-Refused-clause-ends : goal.returns-in-Refused-clause-ends
returns-in-Refused-clause-ends g c =
    let told = subst (λ (n : List ℕ). TellsRefusal n c.in-Refused.refusal (g.R.Sink.taken c.args.err.now) (g.R.Sink.taken c.tell_refusal.new.err) (g.R.Sink.faults c.args.err.now) (g.R.Sink.faults c.tell_refusal.new.err) c.tell_refusal.result) c.name_of.ensures c.tell_refusal.ensures.told in
    refusal_ended (AnswersRead c.args.plan.now c.args.bytes.items) (LeavesRead c.args.plan.now c.args.bytes.items c.answer_read.new.ran.workers.items)
    (seen (g.V.Shelf.held c.args.shelf.now) (g.V.Shelf.read_faults c.args.shelf.now) (g.V.Shelf.put_faults c.args.shelf.now) (g.K.Sink.taken c.args.out.now) (g.K.Sink.faults c.args.out.now) (g.R.Sink.taken c.args.err.now) (g.R.Sink.faults c.args.err.now))
    (seen (g.V.Shelf.held c.args.shelf.now) (g.V.Shelf.read_faults c.args.shelf.now) (g.V.Shelf.put_faults c.args.shelf.now) (g.K.Sink.taken c.args.out.now) (g.K.Sink.faults c.args.out.now) (g.R.Sink.taken c.tell_refusal.new.err) (g.R.Sink.faults c.tell_refusal.new.err))
    _ c.in-Refused.refusal c.tell_refusal.result c.in-Refused.ensures refl told.status told.told

pub returns-in-Ran-clause-ends : goal.returns-in-Ran-clause-ends
returns-in-Ran-clause-ends g c =
    printed_ended (AnswersRead c.args.plan.now c.args.bytes.items) (LeavesRead c.args.plan.now c.args.bytes.items c.answer_read.new.ran.workers.items) _ _ c.in-Ran.printed c.write_printed.result c.in-Ran.ensures c.write_printed.ensures.ends

pub returns-in-Listed-clause-ends : goal.returns-in-Listed-clause-ends
returns-in-Listed-clause-ends g c =
    listed_ended (AnswersRead c.args.plan.now c.args.bytes.items) (LeavesRead c.args.plan.now c.args.bytes.items c.answer_read.new.ran.workers.items) _ _ (map (λ t. t.items) c.in-Listed.texts.items) c.write_list.result c.in-Listed.ensures.0 c.in-Listed.ensures.1
    (subst (λ ts. EndsIn (listing (map (λ t. t.items) ts)) (seen (g.V.Shelf.held c.args.shelf.now) (g.V.Shelf.read_faults c.args.shelf.now) (g.V.Shelf.put_faults c.args.shelf.now) (g.K.Sink.taken c.args.out.now) (g.K.Sink.faults c.args.out.now) (g.R.Sink.taken c.args.err.now) (g.R.Sink.faults c.args.err.now)) (seen (g.V.Shelf.held c.args.shelf.now) (g.V.Shelf.read_faults c.args.shelf.now) (g.V.Shelf.put_faults c.args.shelf.now) (g.K.Sink.taken c.write_list.new.out) (g.K.Sink.faults c.write_list.new.out) (g.R.Sink.taken c.write_list.new.err) (g.R.Sink.faults c.write_list.new.err)) c.write_list.result) c.as_slice.ensures.value (c.write_list.ensures.ends (g.V.Shelf.held c.args.shelf.now) (g.V.Shelf.read_faults c.args.shelf.now) (g.V.Shelf.put_faults c.args.shelf.now)))
