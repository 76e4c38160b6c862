use Rattle.std.proofs.Common.{◌≡◌, ◌++◌, ◌*◌, [], drop, length}
use Rattle.ss_graph.specs.Checks.{first_fault}
use Rattle.ss_library.specs.Make.{each_numbered, link_checks, lines_of}
use Rattle.ss_library.proofs.making.lines.Given as goal

abbrev pub invariant-loop-index : goal.invariant-loop-index
invariant-loop-index l = record {
  checked : first_fault (each_numbered (link_checks l.fn.graph.components) 0 l.fn.graph.links) ≡ first_fault (each_numbered (link_checks l.fn.graph.components) l.index (drop l.index l.fn.graph.links));
  read : l.wires.links ++ each_numbered (lines_of l.fn.graph.components) l.index (drop l.index l.fn.graph.links) ≡ each_numbered (lines_of l.fn.graph.components) 0 l.fn.graph.links;
  none : l.wires.inner ≡ [];
  counted : length l.wires.links ≡ 2 * l.index;
}
