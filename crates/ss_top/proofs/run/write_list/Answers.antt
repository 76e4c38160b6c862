use Rattle.std.proofs.Common.{map, refl}
use Rattle.ss_top.proofs.Shelving.{texts_done, texts_fail}
use Rattle.ss_top.proofs.run.write_list.Goals as goal

pub returns-in-Ok-clause-ends : goal.returns-in-Ok-clause-ends
returns-in-Ok-clause-ends g c = λ held reads puts.
    (texts_done (map (λ t. t.items) c.args.texts.now) held reads puts (g.K.Sink.taken c.args.out.now) (g.K.Sink.taken c.write_texts.new.out) (g.K.Sink.faults c.args.out.now) (g.K.Sink.faults c.write_texts.new.out) (g.R.Sink.taken c.args.err.now) (g.R.Sink.faults c.args.err.now) c.in-Ok.ensures.all, refl)

pub returns-in-Err-clause-ends : goal.returns-in-Err-clause-ends
returns-in-Err-clause-ends g c = λ held reads puts.
    texts_fail (map (λ t. t.items) c.args.texts.now) held reads puts (g.K.Sink.taken c.args.out.now) (g.K.Sink.taken c.write_texts.new.out) (g.K.Sink.faults c.args.out.now) (g.K.Sink.faults c.write_texts.new.out) (g.R.Sink.taken c.args.err.now) (g.R.Sink.faults c.args.err.now)
    (g.R.Sink.taken c.tell_plain.new.err) (g.R.Sink.faults c.tell_plain.new.err) c.in-Err.ensures.some c.in-Err.ensures.cause c.tell_plain.ensures.told
