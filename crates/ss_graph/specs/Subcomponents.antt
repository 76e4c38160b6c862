-- The subcomponents of a component, which are read as its parameters.
use Rattle.std.specs.Prelude.{ℕ, ◌+◌, List, [], ◌∷◌, ◌++◌, Bool, true, false, ◌&&◌, Option, Some, codes}
use Rattle.serde_json.specs.Data.{Data, Items, no_items, item}
use Rattle.serde_json.specs.Find.{get, as_array}
use Rattle.ss_graph.specs.declared.fault.GraphFault.{GraphFault}
use Rattle.ss_graph.specs.declared.fault.GraphFault.TheVariants as fault
use Rattle.ss_graph.specs.Checks.{Check, check, at}
use Rattle.ss_graph.specs.Options.{fits_if}
use Rattle.ss_graph.specs.Components.{text_in, object_checks, word_checks, members_in, params_of, params_checks, with_params, are_unnamed, items_in, is_array}

abbrev pub sub_place : ℕ → ℕ → List ℕ
sub_place i j = at (at (codes "components") i ++ codes ".subcomponents") j

-- an array without items
abbrev pub is_no_item : Items → Bool
is_no_item no_items = true
is_no_item (item d ds) = false

abbrev pub is_no_list : Data → Bool
is_no_list d = is_array d && is_no_item (items_in (Some d))

-- what a subcomponent in a slot is read as: the slot's parameter is its type, and its own parameters stand behind the slot's name
abbrev pub slot_in : Data → List ℕ
slot_in d = text_in (get (codes "slot_name") d)

abbrev pub sub_params : Data → List (List ℕ × List ℕ)
sub_params d = (slot_in d, text_in (get (codes "type") d)) ∷ params_of (slot_in d ++ codes ".") (members_in (get (codes "params") d))

unfoldable pub slot_checks : ℕ → ℕ → Data → List (Check GraphFault)
slot_checks i j d =
    object_checks (sub_place i j) d
    ++ (word_checks (sub_place i j ++ codes ".slot_name") (get (codes "slot_name") d)
    ++ word_checks (sub_place i j ++ codes ".type") (get (codes "type") d))

unfoldable pub flat_checks : ℕ → ℕ → Option Data → List (Check GraphFault)
flat_checks i j o = check (fits_if is_no_list o) (fault.Form (sub_place i j ++ codes ".subcomponents")) ∷ []

unfoldable pub unnamed_checks : ℕ → ℕ → Bool → List (Check GraphFault)
unnamed_checks i j fresh = check fresh (fault.Form (sub_place i j)) ∷ []

-- subcomponent j, where these parameters stand before it
unfoldable pub sub_checks : ℕ → ℕ → List (List ℕ × List ℕ) → Data → List (Check GraphFault)
sub_checks i j ps d =
    slot_checks i j d
    ++ (params_checks (sub_place i j) (get (codes "params") d)
    ++ (flat_checks i j (get (codes "subcomponents") d)
    ++ unnamed_checks i j (are_unnamed ps (sub_params d))))

-- subcomponent j and those behind it
unfoldable pub each_sub_checks : ℕ → ℕ → List (List ℕ × List ℕ) → Items → List (Check GraphFault)
each_sub_checks i j ps no_items = []
each_sub_checks i j ps (item d ds) = sub_checks i j ps d ++ each_sub_checks i (j + 1) (with_params ps (sub_params d)) ds

-- the parameters with those of subcomponents
abbrev pub with_subs : List (List ℕ × List ℕ) → Items → List (List ℕ × List ℕ)
with_subs ps no_items = ps
with_subs ps (item d ds) = with_subs (with_params ps (sub_params d)) ds

abbrev pub sub_items : Data → Items
sub_items d = items_in (get (codes "subcomponents") d)

unfoldable pub sub_list_checks : ℕ → Option Data → List (Check GraphFault)
sub_list_checks i o = check (fits_if is_array o) (fault.Form (at (codes "components") i ++ codes ".subcomponents")) ∷ []

unfoldable pub subs_checks : ℕ → List (List ℕ × List ℕ) → Option Data → List (Check GraphFault)
subs_checks i ps o = sub_list_checks i o ++ each_sub_checks i 0 ps (items_in o)
