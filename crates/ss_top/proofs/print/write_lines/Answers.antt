use Rattle.std.proofs.Common.{arith, ◌∙◌}
use Rattle.ss_model.specs.End.{text_of}
use Rattle.ss_top.proofs.Written.{texts_next, texts_stop}
use Rattle.ss_top.proofs.print.write_lines.Goals as goal

pub returns-in-Err-clause-some : goal.returns-in-Err-clause-some
returns-in-Err-clause-some g c = texts_stop text_of c.args.lines.now c.loop-line.line-index c.line-item.result c.as_bytes.result.now _ (g.K.Sink.taken c.loop-line.out) _ c.loop-line-test.true c.line-item.is (c.as_bytes.ensures.value ∙ c.as_str.ensures) c.loop-line.invariant.taken c.in-Err.ensures.some

pub loop-line-preserved : goal.loop-line-preserved
loop-line-preserved g c = record {
  taken = texts_next text_of c.args.lines.now c.loop-line.line-index c.line-item.result c.as_bytes.result.now _ (g.K.Sink.taken c.loop-line.out) _ c.loop-line-test.true c.line-item.is (c.as_bytes.ensures.value ∙ c.as_str.ensures) c.loop-line.invariant.taken c.in-Ok.ensures.all;
  faults = omega arith;
}
