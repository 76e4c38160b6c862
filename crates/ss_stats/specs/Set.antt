-- Named statistics in order.
use Rattle.std.specs.Prelude.{ℕ, zero, suc, List, [], ◌∷◌, Option, slice_get, option_map, position, bytes_eq}
use Rattle.ss_stats.specs.Binned.{binned}
use Rattle.ss_stats.specs.Steps.{accumulated}
use Rattle.ss_stats.specs.declared.set.Stat.{Stat}
use Rattle.ss_stats.specs.declared.set.Stat.TheVariants as stat

-- a name and its statistic
abbrev pub Entry : Type 0
Entry = List ℕ × Stat

-- a statistic with a value more
abbrev pub with_value : Stat → ℕ → Stat
with_value (stat.Accumulator a) v = stat.Accumulator (accumulated a v)
with_value (stat.Histogram h) v = stat.Histogram (binned h v)

-- a set in which the statistic at a place has a value more
abbrev pub set_with_value : List Entry → ℕ → ℕ → List Entry
set_with_value [] i v = []
set_with_value (e ∷ set) zero v = (e.0, with_value e.1 v) ∷ set
set_with_value (e ∷ set) (suc i) v = e ∷ set_with_value set i v

-- a set in which another statistic stands at a place, under the same name
abbrev pub set_with : List Entry → ℕ → Stat → List Entry
set_with [] i s = []
set_with (e ∷ set) zero s = (e.0, s) ∷ set
set_with (e ∷ set) (suc i) s = e ∷ set_with set i s

-- the statistic at a place
abbrev pub stat_at : List Entry → ℕ → Option Stat
stat_at set i = option_map (λ e. e.1) (slice_get set i)

-- the first place of a name
abbrev pub place_of : List Entry → List ℕ → Option ℕ
place_of set name = position (λ e. bytes_eq e.0 name) set
