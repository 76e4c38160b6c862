-- The CSV text of statistics: one record per field.
use Rattle.std.specs.Prelude.{ℕ, ◌+◌, List, [], ◌∷◌, ◌++◌, codes, decimal, flat_map}
use Rattle.csv.specs.Writing.{row_text, default_writer}
use Rattle.ss_stats.specs.Binned.{Binned}
use Rattle.ss_stats.specs.Set.{Entry}
use Rattle.ss_stats.specs.declared.accumulator.Accumulator.{Accumulator}
use Rattle.ss_stats.specs.declared.set.Stat.{Stat}
use Rattle.ss_stats.specs.declared.set.Stat.TheVariants as stat

-- a field's name and its number
abbrev pub Field : Type 0
Field = List ℕ × ℕ

abbrev pub accumulator_fields : Accumulator → List Field
accumulator_fields a = (codes "count", a.count) ∷ (codes "sum", a.sum) ∷ (codes "sumsq", a.sumsq) ∷ (codes "min", a.least) ∷ (codes "max", a.greatest) ∷ []

-- the bins from bin i on
abbrev pub bin_fields : ℕ → List ℕ → List Field
bin_fields i [] = []
bin_fields i (n ∷ bins) = (codes "bin" ++ decimal i, n) ∷ bin_fields (i + 1) bins

abbrev pub histogram_fields : Binned → List Field
histogram_fields h = (codes "count", h.count) ∷ (codes "below", h.below) ∷ (codes "above", h.above) ∷ bin_fields 0 h.bins

abbrev pub fields : Stat → List Field
fields (stat.Accumulator a) = accumulator_fields a
fields (stat.Histogram h) = histogram_fields h

-- the record of a field
unfoldable pub row : List ℕ → List ℕ → Field → List ℕ
row component name field = row_text default_writer (component ∷ name ∷ field.0 ∷ decimal field.1 ∷ [])

-- the records of fields
abbrev pub rows : List ℕ → List ℕ → List Field → List ℕ
rows component name fields = flat_map (λ field. row component name field) fields

-- the records of a component's statistics, in their order
abbrev pub set_rows : List ℕ → List Entry → List ℕ
set_rows component set = flat_map (λ e. rows component e.0 (fields e.1)) set

-- the record of the columns' names
unfoldable pub head : List ℕ
head = row_text default_writer (codes "component" ∷ codes "statistic" ∷ codes "field" ∷ codes "value" ∷ [])
