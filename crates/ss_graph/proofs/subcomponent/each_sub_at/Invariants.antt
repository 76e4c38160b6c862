use Rattle.std.proofs.Common.{◌≡◌, drop}
use Rattle.serde_json.specs.View.{items_view}
use Rattle.ss_graph.specs.Checks.{first_fault}
use Rattle.ss_graph.specs.Components.{seen_params}
use Rattle.ss_graph.specs.Subcomponents.{each_sub_checks, with_subs}
use Rattle.ss_graph.proofs.subcomponent.each_sub_at.Given as goal

abbrev pub invariant-loop-i : goal.invariant-loop-i
invariant-loop-i l = record {
  checked : first_fault (each_sub_checks l.index 0 (seen_params l.fn.params.entries) (items_view l.values)) ≡ first_fault (each_sub_checks l.index l.i (seen_params l.params.entries) (items_view (drop l.i l.values)));
  added : with_subs (seen_params l.params.entries) (items_view (drop l.i l.values)) ≡ with_subs (seen_params l.fn.params.entries) (items_view l.values);
}
