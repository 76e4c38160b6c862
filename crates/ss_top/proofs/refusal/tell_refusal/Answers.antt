use Rattle.std.proofs.Common.{sym, subst}
use Rattle.ss_top.specs.Simulate.{TellsRefusal}
use Rattle.ss_top.specs.declared.refusal.Refusal.{Refusal}
use Rattle.ss_top.proofs.refusal.tell_refusal.Goals as goal

pub returns-in-Misspelled-clause-told : goal.returns-in-Misspelled-clause-told
returns-in-Misspelled-clause-told g c = subst (λ (r : Refusal). TellsRefusal c.args.name.now r (g.R.Sink.taken c.args.err.now) (g.R.Sink.taken c.tell_misspelled.new.err) (g.R.Sink.faults c.args.err.now) (g.R.Sink.faults c.tell_misspelled.new.err) c.tell_misspelled.result) (sym c.in-Misspelled.is) (c.tell_misspelled.ensures.told c.args.name.now)

pub returns-in-Unsound-clause-told : goal.returns-in-Unsound-clause-told
returns-in-Unsound-clause-told g c = subst (λ (r : Refusal). TellsRefusal c.args.name.now r (g.R.Sink.taken c.args.err.now) (g.R.Sink.taken c.tell_unsound.new.err) (g.R.Sink.faults c.args.err.now) (g.R.Sink.faults c.tell_unsound.new.err) c.tell_unsound.result) (sym c.in-Unsound.is) (c.tell_unsound.ensures.told c.args.name.now)
