use Rattle.ss_part.proofs.Numbering.{Numbers}
use Rattle.ss_part.proofs.nearness.numbers.Given as goal

abbrev pub invariant-loop-component : goal.invariant-loop-component
invariant-loop-component l = Numbers l.fn.table l.parts l.table l.list.items l.next l.component
