-- Histograms: counts of the values in bins of one width, and of those below and above all bins.
use Rattle.std.specs.Prelude.{ℕ, ◌+◌, ◌*◌, ◌-◌, ◌^◌, ◌≤◌, min, List, [], ◌∷◌, length, replicate, Bool, nat_le, nat_lt, ◌&&◌, if◌then◌else◌}

-- bin i has the values from least + width * i up to but not least + width * (i + 1)
pub record Binned : Type 0 where
  pub least : ℕ
  pub width : ℕ
  pub count : ℕ
  pub below : ℕ
  pub above : ℕ
  pub bins : List ℕ

-- the bins that a histogram may have
pub record InRange (least width bins : ℕ) : Type 0 where
  pub wide : 1 ≤ width
  pub some : 1 ≤ bins
  pub few : bins ≤ 65536
  pub low : least + width * bins ≤ 2 ^ 63

abbrev pub no_values : ℕ → ℕ → ℕ → Binned
no_values least width bins = record { least = least; width = width; count = 0; below = 0; above = 0; bins = replicate bins 0 }

-- one more, where it is to be counted, up to the greatest number of 64 bits
abbrev pub more_if : Bool → ℕ → ℕ
more_if b n = if b then min (n + 1) (2 ^ 64 - 1) else n

-- bins of a width, the first of which begins at a number, with a value more
abbrev pub bins_with : ℕ → ℕ → List ℕ → ℕ → List ℕ
bins_with from width [] v = []
bins_with from width (n ∷ bins) v = more_if (nat_le from v && nat_lt v (from + width)) n ∷ bins_with (from + width) width bins v

-- where the last bin ends
abbrev pub end_of : Binned → ℕ
end_of h = h.least + h.width * length h.bins

-- a histogram with a value more
abbrev pub binned : Binned → ℕ → Binned
binned h v = record h {
  count = min (h.count + 1) (2 ^ 64 - 1);
  below = more_if (nat_lt v h.least) h.below;
  above = more_if (nat_le (end_of h) v) h.above;
  bins = bins_with h.least h.width h.bins v;
}
