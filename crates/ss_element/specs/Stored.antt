-- The form of statistics: field by field, high byte first.
use Rattle.std.specs.Prelude.{◌≡◌, ℕ, List}
use Rattle.std.specs.List.{flat_map}
use Rattle.ss_wire.specs.Form.{Form, big_bytes, plain, pair, told, each_as}
use Rattle.ss_stats.specs.Binned.{Binned, no_values}
use Rattle.ss_stats.specs.Set.{Entry}
use Rattle.ss_stats.specs.declared.accumulator.Accumulator.{Accumulator}
use Rattle.ss_stats.specs.declared.set.Stat.{Stat}
use Rattle.ss_stats.specs.declared.set.Stat.TheVariants as stat
use Rattle.ss_element.specs.declared.fault.RestoreFault.{RestoreFault}
use Rattle.ss_element.specs.declared.fault.RestoreFault.TheVariants as fault

-- a number of k bytes
abbrev pub field : ℕ → Form RestoreFault ℕ
field k = plain fault.Short k

-- an accumulator: count 8, sum 16, sum of squares 16, least 8, greatest 8
abbrev pub accumulator_fields : Form RestoreFault (ℕ × (ℕ × (ℕ × (ℕ × ℕ))))
accumulator_fields = pair (field 8) (λ n. pair (field 16) (λ m. pair (field 16) (λ k. pair (field 8) (λ l. field 8))))

abbrev pub accumulator_form : Form RestoreFault Accumulator
accumulator_form = told accumulator_fields
    (λ p. record { count = p.0; sum = p.1.0; sumsq = p.1.1.0; least = p.1.1.1.0; greatest = p.1.1.1.1 })
    (λ a. (a.count, (a.sum, (a.sumsq, (a.least, a.greatest)))))
    (λ a. Unit {0})

-- a histogram with the bins of another: count 8, below 8, above 8, and 8 for each bin
abbrev pub bins_form : List ℕ → Form RestoreFault (List ℕ)
bins_form bins = each_as (big_bytes 8) (λ n. field 8) bins

abbrev pub histogram_fields : List ℕ → Form RestoreFault (ℕ × (ℕ × (ℕ × List ℕ)))
histogram_fields bins = pair (field 8) (λ n. pair (field 8) (λ m. pair (field 8) (λ k. bins_form bins)))

abbrev pub histogram_form : Binned → Form RestoreFault Binned
histogram_form h = told (histogram_fields h.bins)
    (λ p. record h { count = p.0; below = p.1.0; above = p.1.1.0; bins = p.1.1.1 })
    (λ k. (k.count, (k.below, (k.above, k.bins))))
    (λ k. (k.least ≡ h.least) × (k.width ≡ h.width))

-- a statistic of the sort of another
abbrev pub IsAccumulator : Stat → Type 0
IsAccumulator (stat.Accumulator a) = Unit {0}
IsAccumulator (stat.Histogram h) = ⊥

abbrev pub IsHistogram : Stat → Type 0
IsHistogram (stat.Accumulator a) = ⊥
IsHistogram (stat.Histogram h) = Unit {0}

abbrev pub accumulator_of : Stat → Accumulator
accumulator_of (stat.Accumulator a) = a
accumulator_of (stat.Histogram h) = record { count = 0; sum = 0; sumsq = 0; least = 0; greatest = 0 }

abbrev pub histogram_of : Stat → Binned
histogram_of (stat.Accumulator a) = no_values 0 0 0
histogram_of (stat.Histogram h) = h

abbrev pub stat_form : Stat → Form RestoreFault Stat
stat_form (stat.Accumulator a) = told accumulator_form stat.Accumulator accumulator_of IsAccumulator
stat_form (stat.Histogram h) = told (histogram_form h) stat.Histogram histogram_of IsHistogram

-- the bytes of a statistic
abbrev pub stat_text : Stat → List ℕ
stat_text (stat.Accumulator a) = accumulator_form.spell a
stat_text (stat.Histogram h) = (histogram_form h).spell h

-- a statistic under its name, which isn't written
abbrev pub entry_form : Entry → Form RestoreFault Entry
entry_form e = told (stat_form e.1) (λ s. (e.0, s)) (λ y. y.1) (λ y. y.0 ≡ e.0)

abbrev pub entry_text : Entry → List ℕ
entry_text e = stat_text e.1

-- the statistics of an element, in their order
abbrev pub stats_form : List Entry → Form RestoreFault (List Entry)
stats_form set = each_as entry_text entry_form set

abbrev pub stats_text : List Entry → List ℕ
stats_text set = flat_map entry_text set
