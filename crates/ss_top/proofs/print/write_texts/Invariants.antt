use Rattle.std.proofs.Common.{◌≡◌, ◌≤◌, map, take}
use Rattle.ss_top.specs.Printing.{more_all}
use Rattle.ss_top.proofs.print.write_texts.Given as goal

abbrev pub invariant-loop-text : goal.invariant-loop-text
invariant-loop-text g l = record {
  taken : g.K.Sink.taken l.out ≡ more_all (map (λ t. t.items) (take l.text-index l.texts)) (g.K.Sink.taken l.initial.out);
  faults : g.K.Sink.faults l.initial.out ≤ g.K.Sink.faults l.out;
}
