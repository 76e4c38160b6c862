-- The judge: all checks of a text in their order, and the graph of a text that passes them.
use Rattle.std.specs.Prelude.{ℕ, List, [], ◌∷◌, ◌++◌, length, Bool, true, false, nat_le, if◌then◌else◌, Option, Some, None, is_some, codes}
use Rattle.std.specs.Str.{is_utf8}
use Rattle.serde_json.specs.Data.{Data, Members, no_members, member}
use Rattle.serde_json.specs.Find.{get, as_object}
use Rattle.serde_json.specs.Read.{read}
use Rattle.ss_graph.specs.declared.fault.GraphFault.{GraphFault}
use Rattle.ss_graph.specs.declared.fault.GraphFault.TheVariants as fault
use Rattle.ss_graph.specs.declared.fault.LimitKind.TheVariants as limit
use Rattle.ss_graph.specs.declared.graph.Graph.{Graph}
use Rattle.ss_graph.specs.Checks.{Check, check}
use Rattle.ss_graph.specs.Options.{fits_if, is_object, options_checks, options_of}
use Rattle.ss_graph.specs.Components.{or_null, object_checks}
use Rattle.ss_graph.specs.Parts.{part_items, names_of, parts_of, parts_checks}
use Rattle.ss_graph.specs.Links.{link_items, joins_of, joins_checks}

-- the value of a text, where it is one
abbrev pub json : List ℕ → Option Data
json text = if is_utf8 text then read text else None

-- shared parameters that aren't an empty object
abbrev pub no_member : Members → Bool
no_member no_members = true
no_member (member k d ms) = false

abbrev pub no_member_in : Option Members → Bool
no_member_in None = false
no_member_in (Some ms) = no_member ms

abbrev pub is_empty_object : Data → Bool
is_empty_object d = no_member_in (as_object d)

unfoldable pub shared_checks : Data → List (Check GraphFault)
shared_checks d =
    check (fits_if is_empty_object (get (codes "shared_params") d)) fault.SharedParams
    ∷ check (fits_if is_empty_object (get (codes "global_params") d)) fault.SharedParams
    ∷ []

-- what stands before the components
unfoldable pub head_checks : Data → List (Check GraphFault)
head_checks d = object_checks (codes "graph") d ++ (shared_checks d ++ options_checks d)

-- all checks of a value, in their order
unfoldable pub value_checks : Data → List (Check GraphFault)
value_checks d =
    head_checks d
    ++ (parts_checks d
    ++ joins_checks (names_of (part_items d)) (parts_of (part_items d)) d)

-- all checks of a text, in their order
unfoldable pub text_checks : List ℕ → List (Check GraphFault)
text_checks text =
    (check (nat_le (length text) 67108864) (fault.Limit limit.GraphBytes (length text))
    ∷ check (is_some (json text)) fault.Text
    ∷ [])
    ++ value_checks (or_null (json text))

abbrev pub graph_of_value : List ℕ → Data → Graph
graph_of_value text d = record { text = text; components = parts_of (part_items d); links = joins_of (names_of (part_items d)) (link_items d); options = options_of d }

-- the graph of a text
unfoldable pub graph_of : List ℕ → Graph
graph_of text = graph_of_value text (or_null (json text))
