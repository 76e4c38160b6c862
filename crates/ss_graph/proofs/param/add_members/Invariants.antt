use Rattle.std.proofs.Common.{◌≡◌, ◌++◌, ◌&&◌, codes}
use Rattle.serde_json.specs.View.{members_view}
use Rattle.ss_graph.specs.Checks.{first_fault}
use Rattle.ss_graph.specs.Owners.{owner_place}
use Rattle.ss_graph.specs.Components.{param_checks, params_of, seen_params, with_params, are_unnamed}
use Rattle.ss_graph.proofs.param.add_members.Given as goal

abbrev pub invariant-loop-name : goal.invariant-loop-name
invariant-loop-name l = record {
  checked : first_fault (param_checks (owner_place l.owner ++ codes ".params") (members_view l.members.entries)) ≡ first_fault (param_checks (owner_place l.owner ++ codes ".params") (members_view l.name-iterator));
  unnamed : (l.unnamed && are_unnamed (seen_params l.params.entries) (params_of l.prefix (members_view l.name-iterator))) ≡ are_unnamed (seen_params l.fn.params.entries) (params_of l.prefix (members_view l.members.entries));
  added : with_params (seen_params l.params.entries) (params_of l.prefix (members_view l.name-iterator)) ≡ with_params (seen_params l.fn.params.entries) (params_of l.prefix (members_view l.members.entries));
}
