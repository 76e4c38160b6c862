use Rattle.std.proofs.Common.{◌≡◌, drop, map}
use Rattle.ss_graph.specs.Checks.{first_fault}
use Rattle.ss_graph.specs.Fit.{ends_of}
use Rattle.ss_library.specs.Tables.{ports_table}
use Rattle.ss_library.specs.Make.{linked_check}
use Rattle.ss_library.proofs.making.rows_linked.Given as goal

abbrev pub invariant-loop-number : goal.invariant-loop-number
invariant-loop-number l = first_fault (map (linked_check (ends_of l.graph.links) l.index) (ports_table l.fn.kind)) ≡ first_fault (map (linked_check (ends_of l.graph.links) l.index) (drop l.number l.row-items))
