use Rattle.std.proofs.Common.{refl}
use Rattle.ss_top.specs.Headline.{seen}
use Rattle.ss_top.proofs.Endings.{words_answered, words_refused}
use Rattle.ss_top.proofs.sst_here.Goals as goal

pub returns-in-Ok-clause-ends : goal.returns-in-Ok-clause-ends
returns-in-Ok-clause-ends g c = words_answered c.args.words.now c.in-Ok.plan c.carry_out.new.ran.workers.items (seen (g.V.Shelf.held c.args.shelf.now) (g.V.Shelf.read_faults c.args.shelf.now) (g.V.Shelf.put_faults c.args.shelf.now) (g.K.Sink.taken c.args.out.now) (g.K.Sink.faults c.args.out.now) (g.R.Sink.taken c.args.err.now) (g.R.Sink.faults c.args.err.now)) (seen (g.V.Shelf.held c.carry_out.new.shelf) (g.V.Shelf.read_faults c.carry_out.new.shelf) (g.V.Shelf.put_faults c.carry_out.new.shelf) (g.K.Sink.taken c.carry_out.new.out) (g.K.Sink.faults c.carry_out.new.out) (g.R.Sink.taken c.carry_out.new.err) (g.R.Sink.faults c.carry_out.new.err)) c.carry_out.result c.in-Ok.ensures.given c.carry_out.ensures.ends

pub returns-in-Err-clause-ends : goal.returns-in-Err-clause-ends
returns-in-Err-clause-ends g c = words_refused c.args.words.now c.args.ran.now.workers.items (seen (g.V.Shelf.held c.args.shelf.now) (g.V.Shelf.read_faults c.args.shelf.now) (g.V.Shelf.put_faults c.args.shelf.now) (g.K.Sink.taken c.args.out.now) (g.K.Sink.faults c.args.out.now) (g.R.Sink.taken c.args.err.now) (g.R.Sink.faults c.args.err.now)) (seen (g.V.Shelf.held c.args.shelf.now) (g.V.Shelf.read_faults c.args.shelf.now) (g.V.Shelf.put_faults c.args.shelf.now) (g.K.Sink.taken c.args.out.now) (g.K.Sink.faults c.args.out.now) (g.R.Sink.taken c.tell_usage.new.err) (g.R.Sink.faults c.tell_usage.new.err)) refl c.in-Err.usage c.tell_usage.result c.in-Err.ensures.given c.tell_usage.ensures.status c.tell_usage.ensures.told
