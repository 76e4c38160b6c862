use Rattle.std.proofs.Common.{arith, ◌-◌}
use Rattle.ss_serial.proofs.Starts.{opening_step}
use Rattle.ss_serial.proofs.start_events.Goals as goal

pub loop-line-preserved : goal.loop-line-preserved
loop-line-preserved g c = record {
  within = omega arith;
  made = opening_step c.args.elements.now c.loop-line.line (c.loop-line.line - 1) c.loop-line.pending _ (omega arith) (omega arith) c.loop-line.invariant.made c.in_ok-insert.ensures.ok;
}
