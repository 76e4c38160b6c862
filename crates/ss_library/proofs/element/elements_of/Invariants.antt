use Rattle.std.proofs.Common.{◌≡◌, ◌++◌, ◌∷◌, [], drop}
use Rattle.ss_graph.specs.Checks.{first_fault}
use Rattle.ss_library.specs.Make.{each_numbered, component_checks, begun}
use Rattle.ss_library.proofs.element.elements_of.Given as goal

abbrev pub invariant-loop-index : goal.invariant-loop-index
invariant-loop-index l = record {
  checked : first_fault (each_numbered component_checks 0 l.parts) ≡ first_fault (each_numbered component_checks l.index (drop l.index l.parts));
  read : l.elements.items ++ each_numbered (λ i p. begun l.wires l.members i p ∷ []) l.index (drop l.index l.parts) ≡ each_numbered (λ i p. begun l.wires l.members i p ∷ []) 0 l.parts;
}
