-- Names, parameters and lists in a graph's value.
use Rattle.std.specs.Prelude.{ℕ, suc, ◌+◌, ◌^◌, ◌==◌, ◌&&◌, ◌||◌, List, [], ◌∷◌, ◌++◌, length, Bool, true, false, not, nat_le, nat_lt, if◌then◌else◌, Option, Some, None, option_and_then, option_map, is_some, codes, decimal, position, map, String, string_bytes}
use Rattle.std.specs.declared.alloc.Global.{Global}
use Rattle.std.specs.List.{list_any}
use Rattle.std.specs.Str.{bytes_eq}
use Rattle.std.specs.BTreeMap.{insert_entry}
use Rattle.std.specs.Ordering.{nat_cmp}
use Rattle.std.specs.Cmp.Lexicographic.{slice_cmp}
use Rattle.serde_json.specs.Data.{Data, null, Items, no_items, item, Members, no_members, member}
use Rattle.serde_json.specs.Find.{get, as_str, as_object, as_array, as_number, as_u64, as_bool}
use Rattle.ss_graph.specs.declared.fault.GraphFault.{GraphFault}
use Rattle.ss_graph.specs.declared.fault.GraphFault.TheVariants as fault
use Rattle.ss_graph.specs.declared.fault.LimitKind.TheVariants as limit
use Rattle.ss_graph.specs.Checks.{Check, check, or_else, at}
use Rattle.ss_graph.specs.Options.{fits_if, is_text, is_object, time_of, the}

-- the text under a member, or none
abbrev pub text_of : Option (List ℕ) → List ℕ
text_of None = []
text_of (Some s) = s

abbrev pub text_in : Option Data → List ℕ
text_in o = text_of (option_and_then as_str o)

-- the value under a member, or null
abbrev pub or_null : Option Data → Data
or_null None = null
or_null (Some d) = d

unfoldable pub object_checks : List ℕ → Data → List (Check GraphFault)
object_checks place d = check (is_object d) (fault.Form place) ∷ []

-- ---- names

-- a byte that a name may have
abbrev pub is_plain : ℕ → Bool
is_plain b = not (nat_lt b 32 || b == 127)

abbrev pub all_plain : List ℕ → Bool
all_plain [] = true
all_plain (b ∷ s) = is_plain b && all_plain s

abbrev pub is_name : List ℕ → Bool
is_name s = nat_lt 0 (length s) && all_plain s

-- where a name stands
abbrev pub place_in : List (List ℕ) → List ℕ → Option ℕ
place_in names q = position (bytes_eq q) names

abbrev pub is_new : List (List ℕ) → List ℕ → Bool
is_new names q = not (list_any (bytes_eq q) names)

-- a name is there, has its form and its length, and stands in no earlier item
unfoldable pub name_checks : List ℕ → Option Data → List (Check GraphFault)
name_checks place o =
    check (is_some o) (fault.Member place)
    ∷ check (fits_if is_text o && is_name (text_in o)) (fault.Form place)
    ∷ check (nat_le (length (text_in o)) 255) (fault.Limit limit.NameBytes (length (text_in o)))
    ∷ []

unfoldable pub fresh_checks : List ℕ → Bool → List (Check GraphFault)
fresh_checks place fresh = check fresh (fault.DuplicateName place) ∷ []

unfoldable pub named_checks : List ℕ → Bool → Option Data → List (Check GraphFault)
named_checks place fresh o = name_checks place o ++ fresh_checks place fresh

abbrev pub name_in : Data → List ℕ
name_in d = text_in (get (codes "name") d)

-- ---- parameters

-- the text of a parameter's value: a text, a whole number or a truth value
abbrev pub truth_text : Bool → List ℕ
truth_text true = codes "true"
truth_text false = codes "false"

abbrev pub value_text : Data → Option (List ℕ)
value_text d = or_else (as_str d) (or_else (option_map decimal (option_and_then as_u64 (as_number d))) (option_map truth_text (as_bool d)))

-- each member's value, in byte order of the names
unfoldable pub param_checks : List ℕ → Members → List (Check GraphFault)
param_checks place no_members = []
param_checks place (member k d ms) = check (is_some (value_text d)) (fault.Form (place ++ codes "." ++ k)) ∷ param_checks place ms

-- the members as parameters, whose names begin like this
abbrev pub params_of : List ℕ → Members → List (List ℕ × List ℕ)
params_of prefix no_members = []
params_of prefix (member k d ms) = (prefix ++ k, text_of (value_text d)) ∷ params_of prefix ms

-- the members of an object that may be there
abbrev pub members_or : Option Members → Members
members_or None = no_members
members_or (Some ms) = ms

abbrev pub members_in : Option Data → Members
members_in o = members_or (option_and_then as_object o)

-- the text of a parameter
abbrev pub given : List (List ℕ × List ℕ) → List ℕ → Option (List ℕ)
given [] q = None
given (p ∷ ps) q = if bytes_eq p.0 q then Some p.1 else given ps q

-- the entries of a map as parameters
abbrev pub seen_params : List (String Global × List ℕ) → List (List ℕ × List ℕ)
seen_params es = map (λ e. (string_bytes e.0, e.1)) es

-- the parameters with one more, in byte order of the names
abbrev pub with_param : List (List ℕ × List ℕ) → List ℕ × List ℕ → List (List ℕ × List ℕ)
with_param ps q = insert_entry (slice_cmp nat_cmp) ps q.0 q.1

abbrev pub with_params : List (List ℕ × List ℕ) → List (List ℕ × List ℕ) → List (List ℕ × List ℕ)
with_params ps [] = ps
with_params ps (q ∷ qs) = with_params (with_param ps q) qs

abbrev pub is_unnamed : List (List ℕ × List ℕ) → List ℕ → Bool
is_unnamed ps q = not (is_some (given ps q))

-- none of these names is there or comes twice
abbrev pub are_unnamed : List (List ℕ × List ℕ) → List (List ℕ × List ℕ) → Bool
are_unnamed ps [] = true
are_unnamed ps (q ∷ qs) = is_unnamed ps q.0 && are_unnamed (with_param ps q) qs

-- what a component adds to the latency of its lines: a time, 0 where it isn't given
abbrev pub delay_or : Option (List ℕ) → Option ℕ
delay_or None = Some 0
delay_or (Some s) = time_of 0 (2 ^ 40) (Some s)

abbrev pub delay_of : List ℕ → List (List ℕ × List ℕ) → Option ℕ
delay_of name ps = delay_or (given ps name)

unfoldable pub params_checks : List ℕ → Option Data → List (Check GraphFault)
params_checks place o = check (fits_if is_object o) (fault.Form (place ++ codes ".params")) ∷ param_checks (place ++ codes ".params") (members_in o)

unfoldable pub delay_checks : ℕ → List ℕ → List (List ℕ × List ℕ) → List (Check GraphFault)
delay_checks i name ps = check (is_some (delay_of name ps)) (fault.Unit (at (codes "components") i ++ codes ".params." ++ name)) ∷ []

unfoldable pub delays_checks : ℕ → List (List ℕ × List ℕ) → List (Check GraphFault)
delays_checks i ps = delay_checks i (codes "input_latency") ps ++ delay_checks i (codes "output_latency") ps

-- ---- lists

abbrev pub items_count : Items → ℕ
items_count no_items = 0
items_count (item d ds) = suc (items_count ds)

abbrev pub items_or : Option Items → Items
items_or None = no_items
items_or (Some ds) = ds

abbrev pub items_in : Option Data → Items
items_in o = items_or (option_and_then as_array o)

abbrev pub is_array : Data → Bool
is_array d = is_some (as_array d)

-- a member that must be there and be a text, where both are one fault
abbrev pub has_text : Option Data → Bool
has_text o = is_some (option_and_then as_str o)

unfoldable pub word_checks : List ℕ → Option Data → List (Check GraphFault)
word_checks place o = check (has_text o) (fault.Form place) ∷ []
