-- The links of a graph.
use Rattle.std.specs.Prelude.{ℕ, ◌+◌, ◌^◌, ◌&&◌, List, [], ◌∷◌, ◌++◌, length, Bool, not, nat_eq, nat_le, Option, Some, None, option_and_then, is_some, codes, slice_get, map, String, string_bytes}
use Rattle.std.specs.declared.alloc.Global.{Global}
use Rattle.std.specs.List.{list_any}
use Rattle.std.specs.Str.{bytes_eq}
use Rattle.serde_json.specs.Data.{Data, Items, no_items, item}
use Rattle.serde_json.specs.Find.{get, as_str}
use Rattle.ss_graph.specs.declared.fault.GraphFault.{GraphFault}
use Rattle.ss_graph.specs.declared.fault.GraphFault.TheVariants as fault
use Rattle.ss_graph.specs.declared.fault.LimitKind.TheVariants as limit
use Rattle.ss_graph.specs.declared.graph.Part.{Part}
use Rattle.ss_graph.specs.declared.graph.PortEnd.{PortEnd}
use Rattle.ss_graph.specs.declared.graph.Join.{Join}
use Rattle.ss_graph.specs.Checks.{Check, check, at}
use Rattle.ss_graph.specs.Options.{fits_if, time_of, the}
use Rattle.ss_graph.specs.Components.{has_text, text_in, or_null, object_checks, named_checks, is_new, name_in, place_in, items_count, items_in, is_array}

-- a place at the end of a side
abbrev pub end_place : ℕ → List ℕ → List ℕ → List ℕ
end_place i side tail = at (codes "links") i ++ codes "." ++ side ++ tail

-- an end that an earlier end has
abbrev pub same_end : ℕ × List ℕ → ℕ × List ℕ → Bool
same_end a b = nat_eq a.0 b.0 && bytes_eq a.1 b.1

abbrev pub is_taken : List (ℕ × List ℕ) → ℕ × List ℕ → Bool
is_taken ends e = list_any (same_end e) ends

-- the set of ends as a list
abbrev pub seen_ends : List (ℕ × String Global) → List (ℕ × List ℕ)
seen_ends es = map (λ e. (e.0, string_bytes e.1)) es

-- ---- an end

unfoldable pub reach_checks : ℕ → List ℕ → Option ℕ → Option Data → List (Check GraphFault)
reach_checks i side found o =
    check (has_text o) (fault.Form (end_place i side (codes ".component")))
    ∷ check (is_some found) (fault.UnknownComponent (end_place i side (codes ".component")))
    ∷ []

unfoldable pub port_checks : ℕ → List ℕ → Bool → Option Data → List (Check GraphFault)
port_checks i side taken o =
    check (has_text o) (fault.Form (end_place i side (codes ".port")))
    ∷ check (not taken) (fault.PortTaken (end_place i side (codes ".port")))
    ∷ []

abbrev pub latency_in : Option Data → Option ℕ
latency_in o = time_of 0 (2 ^ 62) (option_and_then as_str o)

unfoldable pub latency_checks : ℕ → List ℕ → Option Data → List (Check GraphFault)
latency_checks i side o =
    check (has_text o) (fault.Form (end_place i side (codes ".latency")))
    ∷ check (is_some (latency_in o)) (fault.Unit (end_place i side (codes ".latency")))
    ∷ []

abbrev pub component_in : List (List ℕ) → Data → ℕ
component_in names d = the (place_in names (text_in (get (codes "component") d)))

-- the end of a side of link i, where these are the components' names and these ends are taken
unfoldable pub end_checks : ℕ → List ℕ → List (List ℕ) → List (ℕ × List ℕ) → Data → List (Check GraphFault)
end_checks i side names ends d =
    object_checks (end_place i side []) d
    ++ (reach_checks i side (place_in names (text_in (get (codes "component") d))) (get (codes "component") d)
    ++ (port_checks i side (is_taken ends (component_in names d, text_in (get (codes "port") d))) (get (codes "port") d)
    ++ latency_checks i side (get (codes "latency") d)))

abbrev pub end_of : List (List ℕ) → Data → PortEnd
end_of names d = record { component = component_in names d; port = text_in (get (codes "port") d); latency = the (latency_in (get (codes "latency") d)) }

-- what an end takes
abbrev pub end_key : PortEnd → ℕ × List ℕ
end_key e = (e.component, e.port)

unfoldable pub side_checks : ℕ → List ℕ → List (List ℕ) → List (ℕ × List ℕ) → Option Data → List (Check GraphFault)
side_checks i side names ends o = (check (is_some o) (fault.Member (end_place i side [])) ∷ []) ++ end_checks i side names ends (or_null o)

-- ---- lines

abbrev pub input_of : Option Part → ℕ
input_of None = 0
input_of (Some p) = p.input_latency

abbrev pub output_of : Option Part → ℕ
output_of None = 0
output_of (Some p) = p.output_latency

-- the latency of the line from one end of a link to the other: the sending end's, what the sender adds and what the receiver adds
abbrev pub line_latency : List Part → PortEnd → PortEnd → ℕ
line_latency parts from to = from.latency + output_of (slice_get parts from.component) + input_of (slice_get parts to.component)

abbrev pub is_lasting : List Part → PortEnd → PortEnd → Bool
is_lasting parts from to = nat_le 1 (line_latency parts from to) && nat_le (line_latency parts from to) (2 ^ 40)

unfoldable pub crossing_checks : ℕ → List Part → PortEnd → PortEnd → List (Check GraphFault)
crossing_checks i parts left right =
    check (is_lasting parts left right) (fault.Latency (end_place i (codes "left") []))
    ∷ check (is_lasting parts right left) (fault.Latency (end_place i (codes "right") []))
    ∷ []

-- ---- links

abbrev pub left_of : List (List ℕ) → Data → PortEnd
left_of names d = end_of names (or_null (get (codes "left") d))

abbrev pub right_of : List (List ℕ) → Data → PortEnd
right_of names d = end_of names (or_null (get (codes "right") d))

-- link i of these components, whose name is new or isn't, where these ends are taken
unfoldable pub link_checks : ℕ → Bool → List (List ℕ) → List Part → List (ℕ × List ℕ) → Data → List (Check GraphFault)
link_checks i fresh names parts ends d =
    object_checks (at (codes "links") i) d
    ++ (named_checks (at (codes "links") i ++ codes ".name") fresh (get (codes "name") d)
    ++ (side_checks i (codes "left") names ends (get (codes "left") d)
    ++ (side_checks i (codes "right") names (ends ++ end_key (left_of names d) ∷ []) (get (codes "right") d)
    ++ crossing_checks i parts (left_of names d) (right_of names d))))

abbrev pub join_of : List (List ℕ) → Data → Join
join_of names d = record { name = name_in d; left = left_of names d; right = right_of names d }

-- link i and those behind it, where these link names and these ends stand before them
unfoldable pub links_checks : List (List ℕ) → List Part → ℕ → List (List ℕ) → List (ℕ × List ℕ) → Items → List (Check GraphFault)
links_checks names parts i link_names ends no_items = []
links_checks names parts i link_names ends (item d ds) =
    link_checks i (is_new link_names (name_in d)) names parts ends d
    ++ links_checks names parts (i + 1) (link_names ++ name_in d ∷ []) ((ends ++ end_key (left_of names d) ∷ []) ++ end_key (right_of names d) ∷ []) ds

abbrev pub joins_of : List (List ℕ) → Items → List Join
joins_of names no_items = []
joins_of names (item d ds) = join_of names d ∷ joins_of names ds

-- ---- the list of links

-- the list is one where it is there, and keeps its limit
unfoldable pub link_list_checks : Option Data → List (Check GraphFault)
link_list_checks o =
    check (fits_if is_array o) (fault.Form (codes "links"))
    ∷ check (nat_le (items_count (items_in o)) (2 ^ 18)) (fault.Limit limit.Links (items_count (items_in o)))
    ∷ []

abbrev pub link_items : Data → Items
link_items d = items_in (get (codes "links") d)

unfoldable pub joins_checks : List (List ℕ) → List Part → Data → List (Check GraphFault)
joins_checks names parts d = link_list_checks (get (codes "links") d) ++ links_checks names parts 0 [] [] (link_items d)
