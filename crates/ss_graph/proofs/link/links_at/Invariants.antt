use Rattle.std.proofs.Common.{◌≡◌, ◌++◌, [], drop, map, string_bytes}
use Rattle.serde_json.specs.View.{items_view}
use Rattle.ss_graph.specs.Checks.{first_fault}
use Rattle.ss_graph.specs.Links.{links_checks, joins_of, seen_ends}
use Rattle.ss_graph.proofs.link.links_at.Given as goal

abbrev pub invariant-loop-i : goal.invariant-loop-i
invariant-loop-i l = record {
  checked : first_fault (links_checks (map string_bytes l.names.keys) l.parts 0 [] [] (items_view l.values)) ≡ first_fault (links_checks (map string_bytes l.names.keys) l.parts l.i (map string_bytes l.taken.names.keys) (seen_ends l.taken.ends.keys) (items_view (drop l.i l.values)));
  made : l.joins.items ++ joins_of (map string_bytes l.names.keys) (items_view (drop l.i l.values)) ≡ joins_of (map string_bytes l.names.keys) (items_view l.values);
}
