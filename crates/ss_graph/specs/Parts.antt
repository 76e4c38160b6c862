-- The components of a graph.
use Rattle.std.specs.Prelude.{ℕ, ◌+◌, ◌^◌, List, [], ◌∷◌, ◌++◌, Bool, nat_le, Option, is_some, codes}
use Rattle.serde_json.specs.Data.{Data, Items, no_items, item}
use Rattle.serde_json.specs.Find.{get}
use Rattle.ss_graph.specs.declared.fault.GraphFault.{GraphFault}
use Rattle.ss_graph.specs.declared.fault.GraphFault.TheVariants as fault
use Rattle.ss_graph.specs.declared.fault.LimitKind.TheVariants as limit
use Rattle.ss_graph.specs.declared.graph.Part.{Part}
use Rattle.ss_graph.specs.Checks.{Check, check, at}
use Rattle.ss_graph.specs.Options.{fits_if, is_text, the}
use Rattle.ss_graph.specs.Components.{text_in, object_checks, named_checks, is_new, name_in, params_of, members_in, with_params, delay_of, params_checks, delays_checks, items_count, items_in, is_array}
use Rattle.ss_graph.specs.Subcomponents.{subs_checks, sub_items, with_subs}
use Rattle.ss_graph.specs.Statistics.{stats_checks, stats_of, stat_items, thread_checks, thread_in}

unfoldable pub kind_checks : ℕ → Option Data → List (Check GraphFault)
kind_checks i o =
    check (is_some o) (fault.Member (at (codes "components") i ++ codes ".type"))
    ∷ check (fits_if is_text o) (fault.Form (at (codes "components") i ++ codes ".type"))
    ∷ []

-- the parameters of a component, and those that its subcomponents are read as
abbrev pub own_params : Data → List (List ℕ × List ℕ)
own_params d = with_params [] (params_of [] (members_in (get (codes "params") d)))

abbrev pub all_params : Data → List (List ℕ × List ℕ)
all_params d = with_subs (own_params d) (sub_items d)

unfoldable pub all_params_checks : ℕ → Data → List (Check GraphFault)
all_params_checks i d = params_checks (at (codes "components") i) (get (codes "params") d) ++ subs_checks i (own_params d) (get (codes "subcomponents") d)

-- what stands behind a component's parameters and subcomponents
unfoldable pub rest_checks : ℕ → Data → List (Check GraphFault)
rest_checks i d = stats_checks i (get (codes "statistics") d) ++ (thread_checks i (get (codes "partition") d) ++ delays_checks i (all_params d))

-- component i, whose name is new or isn't
unfoldable pub component_checks : ℕ → Bool → Data → List (Check GraphFault)
component_checks i fresh d =
    object_checks (at (codes "components") i) d
    ++ (named_checks (at (codes "components") i ++ codes ".name") fresh (get (codes "name") d)
    ++ (kind_checks i (get (codes "type") d)
    ++ (all_params_checks i d
    ++ rest_checks i d)))

abbrev pub part_of : Data → Part
part_of d = record {
  name = name_in d;
  kind = text_in (get (codes "type") d);
  params = all_params d;
  stats = stats_of (stat_items d);
  thread = thread_in (get (codes "partition") d);
  input_latency = the (delay_of (codes "input_latency") (all_params d));
  output_latency = the (delay_of (codes "output_latency") (all_params d));
}

-- component i and those behind it, where these names stand before them
unfoldable pub components_checks : ℕ → List (List ℕ) → Items → List (Check GraphFault)
components_checks i names no_items = []
components_checks i names (item d ds) = component_checks i (is_new names (name_in d)) d ++ components_checks (i + 1) (names ++ name_in d ∷ []) ds

abbrev pub parts_of : Items → List Part
parts_of no_items = []
parts_of (item d ds) = part_of d ∷ parts_of ds

abbrev pub names_of : Items → List (List ℕ)
names_of no_items = []
names_of (item d ds) = name_in d ∷ names_of ds

-- ---- the list of components

-- the list is there, is one, and keeps its limit
unfoldable pub part_list_checks : Option Data → List (Check GraphFault)
part_list_checks o =
    check (is_some o) (fault.Member (codes "components"))
    ∷ check (fits_if is_array o) (fault.Form (codes "components"))
    ∷ check (nat_le (items_count (items_in o)) (2 ^ 16)) (fault.Limit limit.Components (items_count (items_in o)))
    ∷ []

abbrev pub part_items : Data → Items
part_items d = items_in (get (codes "components") d)

unfoldable pub parts_checks : Data → List (Check GraphFault)
parts_checks d = part_list_checks (get (codes "components") d) ++ components_checks 0 [] (part_items d)
