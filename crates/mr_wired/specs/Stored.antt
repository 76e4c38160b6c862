-- What accumulators hold that began with no values: no packet out of order, and one value for each packet received.
use Rattle.std.specs.Prelude.{◌≡◌, ℕ, ◌-◌, ◌^◌, min, List, length, map, slice_get, Option, Some}
use Rattle.std.specs.List.{sum}
use Rattle.ss_model.specs.Wiring.{Wiring}
use Rattle.ss_model.specs.Step.{after, opening}
use Rattle.ss_stats.specs.declared.accumulator.Accumulator.{Accumulator}
use Rattle.ss_stats.specs.declared.set.Stat.{Stat}
use Rattle.ss_stats.specs.declared.set.Stat.TheVariants as stat
use Rattle.ss_element.specs.Kind.{Kind}
use Rattle.mr_order.specs.Ways.{Ways}
use Rattle.mr_order.specs.Expected.{Expecting, own_steps, ExpectedAfter}

-- an accumulator without values
abbrev pub nothing : Accumulator
nothing = record { count = 0; sum = 0; sumsq = 0; least = 0; greatest = 0 }

-- so many values of which each is 0, as far as a field counts
abbrev pub zeros : ℕ → Accumulator
zeros n = record { count = min n (2 ^ 64 - 1); sum = 0; sumsq = 0; least = 0; greatest = 0 }

-- a statistic with as many values as there are, and their sum, as far as its fields hold them
pub record Sums (s : Option Stat) (values : List ℕ) : Type 0 where
  pub accumulator : Accumulator
  pub is : s ≡ Some (stat.Accumulator accumulator)
  pub counted : accumulator.count ≡ min (length values) (2 ^ 64 - 1)
  pub summed : accumulator.sum ≡ min (sum values) (2 ^ 128 - 1)

-- what an element's statistics hold that began with no values, when it has delivered these packets: none was out of order, and each was
-- received
pub record Stored {S P F : Type 0} (expecting : Expecting S P F) (x y : S) (ps : List P) : Type 0 where
  pub out_of_order : expecting.out_of_order y ≡ Some (stat.Accumulator nothing) → expecting.out_of_order x ≡ Some (stat.Accumulator (zeros (length ps)))
  pub received : expecting.received y ≡ Some (stat.Accumulator nothing) → Sums (expecting.received x) (map expecting.flits ps)

-- so it is in each state of a run in which elements expect what comes
abbrev pub StatisticsAreStored : {S L : Type 0} → Type 0 → Type 0 → Kind S L → Type 0
StatisticsAreStored {S} {L} P F kind = (ways : Ways S L P F) (expecting : Expecting S P F) (w : Wiring) (xs : List S) (most : F → ℕ) (n : ℕ) → ExpectedAfter kind ways expecting w xs most n →
    (c : ℕ) (x y : S) → slice_get (after kind.handled w n (opening xs)).components c ≡ Some x → slice_get xs c ≡ Some y → Stored expecting x y (own_steps kind w ways.delivers c n (opening xs))
