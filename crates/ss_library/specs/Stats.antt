-- The statistics that elements begin with: those that their graph asked for, in its order.
use Rattle.std.specs.Prelude.{ℕ, ◌+◌, ◌*◌, ◌^◌, List, map, Bool, ◌&&◌, nat_le, is_some, take, true, false}
use Rattle.ss_stats.specs.declared.set.Stat.{Stat}
use Rattle.ss_stats.specs.declared.set.Stat.TheVariants as stat
use Rattle.ss_stats.specs.Binned.{no_values}
use Rattle.ss_stats.specs.Set.{Entry, place_of}
use Rattle.ss_graph.specs.declared.graph.StatAsk.{StatAsk}

-- a statistic without values
abbrev pub empty_by : StatAsk → Bool → Stat
empty_by a true = stat.Histogram (no_values a.least a.width a.bins)
empty_by a false = stat.Accumulator (record { count = 0; sum = 0; sumsq = 0; least = 0; greatest = 0 })

abbrev pub empty_stat : StatAsk → Stat
empty_stat a = empty_by a a.histogram

-- the statistics that are asked for, without values
abbrev pub empty_stats : List StatAsk → List Entry
empty_stats asks = map (λ a. (a.name, empty_stat a)) asks

-- a histogram's bins may be so wide and so many
abbrev pub has_bins : StatAsk → Bool
has_bins a = nat_le 1 a.width && (nat_le 1 a.bins && (nat_le a.bins 65536 && nat_le (a.least + a.width * a.bins) (2 ^ 63)))

-- whether a name is asked for before item j
abbrev pub is_asked_before : List StatAsk → ℕ → List ℕ → Bool
is_asked_before asks j name = is_some (place_of (empty_stats (take j asks)) name)
