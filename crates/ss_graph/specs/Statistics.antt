-- The statistics that are asked of a component, and the thread that it names.
use Rattle.std.specs.Prelude.{ℕ, ◌+◌, ◌-◌, ◌*◌, ◌^◌, ◌==◌, ◌&&◌, List, [], ◌∷◌, ◌++◌, length, Bool, true, false, nat_le, nat_lt, if◌then◌else◌, Option, Some, None, option_and_then, is_some, codes}
use Rattle.std.specs.Str.{bytes_eq}
use Rattle.serde_json.specs.Data.{Data, Items, no_items, item}
use Rattle.serde_json.specs.Find.{get, as_str, as_number, as_u64}
use Rattle.ss_graph.specs.declared.fault.GraphFault.{GraphFault}
use Rattle.ss_graph.specs.declared.fault.GraphFault.TheVariants as fault
use Rattle.ss_graph.specs.declared.graph.StatAsk.{StatAsk}
use Rattle.ss_graph.specs.declared.statistic.Bounds.{Bounds}
use Rattle.ss_graph.specs.Checks.{Check, check, at}
use Rattle.ss_graph.specs.Options.{fits_if, is_object, the}
use Rattle.ss_graph.specs.Components.{text_in, or_null, object_checks, word_checks, items_in, is_array}

abbrev pub stat_place : ℕ → ℕ → List ℕ
stat_place i j = at (at (codes "components") i ++ codes ".statistics") j

-- ---- whole numbers

-- digits behind v, where they write at most this
abbrev pub digits_value : ℕ → ℕ → List ℕ → Option ℕ
digits_value most v [] = Some v
digits_value most v (b ∷ s) = if nat_le 48 b && nat_le b 57 && nat_le (v * 10 + (b - 48)) most then digits_value most (v * 10 + (b - 48)) s else None

-- digits without a leading 0, or 0
abbrev pub count_value : ℕ → List ℕ → Option ℕ
count_value most [] = None
count_value most (b ∷ s) = if b == 48 && nat_lt 0 (length s) then None else digits_value most 0 (b ∷ s)

abbrev pub count_of : ℕ → Option (List ℕ) → Option ℕ
count_of most None = None
count_of most (Some s) = count_value most s

abbrev pub at_most : ℕ → Option ℕ → Option ℕ → Option ℕ
at_most most None o = o
at_most most (Some n) o = if nat_le n most then Some n else None

-- a whole number, or a text of its digits
abbrev pub whole_of : ℕ → Data → Option ℕ
whole_of most d = at_most most (option_and_then as_u64 (as_number d)) (count_of most (as_str d))

abbrev pub whole_or : ℕ → ℕ → Option Data → Option ℕ
whole_or default most None = Some default
whole_or default most (Some d) = whole_of most d

-- ---- a statistic

-- whether a type is that of a histogram
abbrev pub histogram_named : List ℕ → Option Bool
histogram_named s = if bytes_eq s (codes "sst.AccumulatorStatistic") then Some false else (if bytes_eq s (codes "sst.HistogramStatistic") then Some true else None)

abbrev pub histogram_in : Option Data → Option Bool
histogram_in None = Some false
histogram_in (Some d) = option_and_then histogram_named (as_str d)

abbrev pub is_true_in : Option Bool → Bool
is_true_in None = false
is_true_in (Some b) = b

abbrev pub is_histogram : Data → Bool
is_histogram d = is_true_in (histogram_in (get (codes "type") d))

abbrev pub asked : Data → List ℕ → Option Data
asked d name = get name (or_null (get (codes "params") d))

abbrev pub least_in : Data → Option ℕ
least_in d = whole_or 0 (2 ^ 64 - 1) (asked d (codes "minvalue"))

abbrev pub width_in : Data → Option ℕ
width_in d = whole_or 5000 (2 ^ 64 - 1) (asked d (codes "binwidth"))

abbrev pub bins_in : Data → Option ℕ
bins_in d = whole_or 100 (2 ^ 32 - 1) (asked d (codes "numbins"))

unfoldable pub type_checks : ℕ → ℕ → Option Data → List (Check GraphFault)
type_checks i j o = check (is_some (histogram_in o)) (fault.Form (stat_place i j ++ codes ".type")) ∷ []

unfoldable pub asked_checks : ℕ → ℕ → Option Data → List (Check GraphFault)
asked_checks i j o = check (fits_if is_object o) (fault.Form (stat_place i j ++ codes ".params")) ∷ []

-- a histogram's numbers, where each is one
abbrev pub bounds_by : Option ℕ → Option ℕ → Option ℕ → Option Bounds
bounds_by None w b = None
bounds_by (Some l) None b = None
bounds_by (Some l) (Some w) None = None
bounds_by (Some l) (Some w) (Some b) = Some (record { least = l; width = w; bins = b })

abbrev pub bounds_of : Data → Option Bounds
bounds_of d = bounds_by (least_in d) (width_in d) (bins_in d)

abbrev pub no_bounds : Bounds
no_bounds = record { least = 0; width = 0; bins = 0 }

abbrev pub or_none : Option Bounds → Bounds
or_none None = no_bounds
or_none (Some b) = b

abbrev pub bounds_in : Data → Bounds
bounds_in d = if is_histogram d then or_none (bounds_of d) else no_bounds

unfoldable pub bounds_checks : ℕ → ℕ → Data → List (Check GraphFault)
bounds_checks i j d = if is_histogram d then check (is_some (bounds_of d)) (fault.Form (stat_place i j)) ∷ [] else []

-- statistic j
unfoldable pub stat_checks : ℕ → ℕ → Data → List (Check GraphFault)
stat_checks i j d =
    object_checks (stat_place i j) d
    ++ (word_checks (stat_place i j ++ codes ".name") (get (codes "name") d)
    ++ (type_checks i j (get (codes "type") d)
    ++ (asked_checks i j (get (codes "params") d)
    ++ bounds_checks i j d)))

abbrev pub stat_of : Data → StatAsk
stat_of d = record {
  name = text_in (get (codes "name") d);
  histogram = is_histogram d;
  least = (bounds_in d).least;
  width = (bounds_in d).width;
  bins = (bounds_in d).bins;
}

-- statistic j and those behind it
unfoldable pub each_stat_checks : ℕ → ℕ → Items → List (Check GraphFault)
each_stat_checks i j no_items = []
each_stat_checks i j (item d ds) = stat_checks i j d ++ each_stat_checks i (j + 1) ds

abbrev pub stats_of : Items → List StatAsk
stats_of no_items = []
stats_of (item d ds) = stat_of d ∷ stats_of ds

abbrev pub stat_items : Data → Items
stat_items d = items_in (get (codes "statistics") d)

unfoldable pub stat_list_checks : ℕ → Option Data → List (Check GraphFault)
stat_list_checks i o = check (fits_if is_array o) (fault.Form (at (codes "components") i ++ codes ".statistics")) ∷ []

unfoldable pub stats_checks : ℕ → Option Data → List (Check GraphFault)
stats_checks i o = stat_list_checks i o ++ each_stat_checks i 0 (items_in o)

-- ---- the thread

abbrev pub is_number_below : ℕ → Option ℕ → Bool
is_number_below limit None = false
is_number_below limit (Some n) = nat_lt n limit

abbrev pub number_in : Data → Option ℕ
number_in d = option_and_then as_u64 (as_number d)

abbrev pub is_thread : Data → Bool
is_thread d = is_number_below (2 ^ 32) (number_in d)

abbrev pub thread_in : Option Data → Option ℕ
thread_in o = option_and_then number_in (get (codes "thread") (or_null o))

unfoldable pub thread_checks : ℕ → Option Data → List (Check GraphFault)
thread_checks i o =
    check (fits_if is_object o) (fault.Form (at (codes "components") i ++ codes ".partition"))
    ∷ check (fits_if is_thread (get (codes "thread") (or_null o))) (fault.Form (at (codes "components") i ++ codes ".partition.thread"))
    ∷ []
