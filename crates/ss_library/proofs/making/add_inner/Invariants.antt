use Rattle.std.proofs.Common.{◌≡◌, ◌≤◌, ◌++◌, drop, length}
use Rattle.ss_library.specs.Make.{each_numbered, inner_of}
use Rattle.ss_library.proofs.making.add_inner.Given as goal

abbrev pub invariant-loop-index : goal.invariant-loop-index
invariant-loop-index l = record {
  links : l.wires.links ≡ l.fn.wires.links;
  read : l.wires.inner ++ each_numbered inner_of l.index (drop l.index l.parts) ≡ each_numbered inner_of 0 l.parts;
  few : length l.wires.inner ≤ l.index;
}
