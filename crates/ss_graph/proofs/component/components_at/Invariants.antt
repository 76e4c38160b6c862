use Rattle.std.proofs.Common.{◌≡◌, ◌++◌, [], drop, map, string_bytes}
use Rattle.serde_json.specs.View.{items_view}
use Rattle.ss_graph.specs.Checks.{first_fault}
use Rattle.ss_graph.specs.Parts.{components_checks, parts_of, names_of}
use Rattle.ss_graph.proofs.component.components_at.Given as goal

abbrev pub invariant-loop-i : goal.invariant-loop-i
invariant-loop-i l = record {
  checked : first_fault (components_checks 0 [] (items_view l.values)) ≡ first_fault (components_checks l.i (map string_bytes l.names.keys) (items_view (drop l.i l.values)));
  made : l.parts.items ++ parts_of (items_view (drop l.i l.values)) ≡ parts_of (items_view l.values);
  noted : map string_bytes l.names.keys ++ names_of (items_view (drop l.i l.values)) ≡ names_of (items_view l.values);
}
