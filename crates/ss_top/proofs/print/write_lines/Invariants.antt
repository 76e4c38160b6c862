use Rattle.std.proofs.Common.{◌≡◌, ◌≤◌, map, take}
use Rattle.ss_model.specs.End.{text_of}
use Rattle.ss_top.specs.Printing.{more_all}
use Rattle.ss_top.proofs.print.write_lines.Given as goal

abbrev pub invariant-loop-line : goal.invariant-loop-line
invariant-loop-line g l = record {
  taken : g.K.Sink.taken l.out ≡ more_all (map text_of (take l.line-index l.lines)) (g.K.Sink.taken l.initial.out);
  faults : g.K.Sink.faults l.initial.out ≤ g.K.Sink.faults l.out;
}
