use Rattle.std.proofs.Common.{arith}
use Rattle.ss_top.proofs.Written.{texts_next, texts_stop}
use Rattle.ss_top.proofs.print.write_texts.Goals as goal

pub returns-in-Err-clause-some : goal.returns-in-Err-clause-some
returns-in-Err-clause-some g c = texts_stop (λ t. t.items) c.args.texts.now c.loop-text.text-index c.text-item.result c.as_slice.result.now _ (g.K.Sink.taken c.loop-text.out) _ c.loop-text-test.true c.text-item.is c.as_slice.ensures.value c.loop-text.invariant.taken c.in-Err.ensures.some

pub loop-text-preserved : goal.loop-text-preserved
loop-text-preserved g c = record {
  taken = texts_next (λ t. t.items) c.args.texts.now c.loop-text.text-index c.text-item.result c.as_slice.result.now _ (g.K.Sink.taken c.loop-text.out) _ c.loop-text-test.true c.text-item.is c.as_slice.ensures.value c.loop-text.invariant.taken c.in-Ok.ensures.all;
  faults = omega arith;
}
