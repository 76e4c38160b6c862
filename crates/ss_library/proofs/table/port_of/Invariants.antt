use Rattle.std.proofs.Common.{◌≡◌, drop}
use Rattle.ss_library.specs.Tables.{port_from, port_by}
use Rattle.ss_library.proofs.table.port_of.Given as goal

abbrev pub invariant-loop-number : goal.invariant-loop-number
invariant-loop-number l = port_by l.fn.kind l.text ≡ port_from l.number (drop l.number l.row-items) l.text
