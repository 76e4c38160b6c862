-- The statistics that elements keep, and what values and reading leave as it is.
use Rattle.std.specs.Prelude.{◌≡◌, ℕ, List, length, map, Option, Some, None}
use Rattle.ss_stats.specs.declared.set.Stat.{Stat}
use Rattle.ss_stats.specs.declared.set.Stat.TheVariants as stat
use Rattle.ss_stats.specs.Set.{Entry, set_with_value, place_of}
use Rattle.ss_element.specs.Stored.{stats_form}

-- a set in which the statistic at a place, if it is there, has a value more
abbrev pub added : List Entry → Option ℕ → ℕ → List Entry
added set None v = set
added set (Some i) v = set_with_value set i v

-- a set in which the statistic of a name, if it was asked for, has a value more
abbrev pub tallied : List Entry → List ℕ → ℕ → List Entry
tallied set name v = added set (place_of set name) v

-- the name of a statistic, and of a histogram where its bins lie and how many they are: what no value changes
abbrev pub bins_of : Stat → Option (ℕ × ℕ × ℕ)
bins_of (stat.Accumulator a) = None
bins_of (stat.Histogram h) = Some (h.least, h.width, length h.bins)

abbrev pub settings : Entry → List ℕ × Option (ℕ × ℕ × ℕ)
settings e = (e.0, bins_of e.1)

-- each number is within what its field holds
abbrev pub StatsFit : List Entry → Type 0
StatsFit set = (stats_form set).Fits set

-- the same statistics with other values
abbrev pub AlikeStats : List Entry → List Entry → Type 0
AlikeStats set other = map settings other ≡ map settings set
