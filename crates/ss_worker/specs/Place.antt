-- Where a worker stands: its run and part, how many windows it has run, and of the last of them which batches were handed
-- out, which were taken in, and whether its lines were gathered.
use Rattle.std.specs.Prelude.{◌≡◌, ℕ, ◌+◌, Bool, true, false, List, slice_get, slice_set, replicate, length, Some}
use Rattle.std.specs.List.{list_all}
use Rattle.ss_run.specs.declared.RunSpec.{RunSpec}

pub record Place : Type 0 where
  pub run : RunSpec
  pub part : ℕ
  pub windows : ℕ
  -- for each part, the own part among them
  pub handed : List Bool
  pub taken : List Bool
  pub gathered : Bool
  -- no memory was left for a window or a batch, and nothing more is known of the part
  pub failed : Bool

abbrev pub all_set : List Bool → Bool
all_set flags = list_all (λ b. b) flags

-- nothing of the last window is missing
pub record IsWhole (pl : Place) : Type 0 where
  pub alive : pl.failed ≡ false
  pub handed : all_set pl.handed ≡ true
  pub taken : all_set pl.taken ≡ true

-- the one flag
abbrev pub only : ℕ → ℕ → List Bool
only n p = slice_set (replicate n false) p true

-- at the beginning, and after each of the calls
abbrev pub first : RunSpec → ℕ → Place
first r p = record { run = r; part = p; windows = 0; handed = replicate r.partition.parts true; taken = replicate r.partition.parts true; gathered = true; failed = false }

abbrev pub after_window : Place → Place
after_window pl = record pl { windows = pl.windows + 1; handed = only pl.run.partition.parts pl.part; taken = only pl.run.partition.parts pl.part; gathered = false }

abbrev pub after_out : Place → ℕ → Place
after_out pl taker = record pl { handed = slice_set pl.handed taker true }

abbrev pub after_in : Place → ℕ → Place
after_in pl giver = record pl { taken = slice_set pl.taken giver true }

abbrev pub after_gathering : Place → Place
after_gathering pl = record pl { gathered = true }

abbrev pub broken : Place → Place
broken pl = record pl { failed = true }

-- the worker of part p of a run, which has run so many windows, of which nothing is missing
pub record StandsAt (r : RunSpec) (p k : ℕ) (pl : Place) : Type 0 where
  pub run : pl.run ≡ r
  pub part : pl.part ≡ p
  pub windows : pl.windows ≡ k
  pub whole : IsWhole pl

-- the workers of a run, one for each part, in order, after so many windows of which nothing is missing
pub record AllStandAt (r : RunSpec) (k : ℕ) (ws : List Place) : Type 0 where
  pub count : length ws ≡ r.partition.parts
  pub each : (p : ℕ) (pl : Place) → slice_get ws p ≡ Some pl → StandsAt r p k pl
