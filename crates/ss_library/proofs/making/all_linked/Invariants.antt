use Rattle.std.proofs.Common.{◌≡◌, drop}
use Rattle.ss_graph.specs.Checks.{first_fault}
use Rattle.ss_graph.specs.Fit.{ends_of}
use Rattle.ss_library.specs.Make.{each_numbered, ports_checks}
use Rattle.ss_library.proofs.making.all_linked.Given as goal

abbrev pub invariant-loop-index : goal.invariant-loop-index
invariant-loop-index l = first_fault (each_numbered (ports_checks (ends_of l.graph.links)) 0 l.graph.components) ≡ first_fault (each_numbered (ports_checks (ends_of l.graph.links)) l.index (drop l.index l.graph.components))
