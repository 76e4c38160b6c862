use Rattle.std.proofs.Common.{◌≡◌, ◌++◌, drop, map}
use Rattle.ss_graph.specs.Checks.{first_fault}
use Rattle.ss_library.specs.Make.{each_numbered, component_checks, member_of}
use Rattle.ss_library.proofs.element.members_of.Given as goal

abbrev pub invariant-loop-index : goal.invariant-loop-index
invariant-loop-index l = record {
  checked : first_fault (each_numbered component_checks 0 l.parts) ≡ first_fault (each_numbered component_checks l.index (drop l.index l.parts));
  read : l.members.items ++ map member_of (drop l.index l.parts) ≡ map member_of l.parts;
}
