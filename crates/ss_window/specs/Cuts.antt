-- Where a run is cut.
use Rattle.std.specs.Prelude.{◌≡◌, ℕ, ◌+◌, ◌^◌, ◌<◌, ◌≤◌, ◌⊎◌, Option, Some, None}
use Rattle.ss_window.specs.declared.Cuts.{Cuts}
use Rattle.ss_window.specs.Least.{OnPeriod, IsIn, Above}

-- a time at which a checkpoint is asked for: the one that is named, or a multiple of the period, above the beginning
abbrev pub IsNamed : Cuts → ℕ → Type 0
IsNamed c t = IsIn c.save_at t ⊎ OnPeriod c.save_every t

abbrev pub IsSave : Cuts → ℕ → Type 0
IsSave c t = Above (IsNamed c) c.origin t

-- a time at which a window may have to end that begins with an event at the least time: it goes no further than the
-- lookahead and the bound, nor past a time above the least one at which the primaries are asked or a checkpoint is
pub data MayEnd (least look bound : ℕ) (c : Cuts) (t : ℕ) : Type 0 where
  ahead : t ≡ least + look → MayEnd least look bound c t
  bounded : t ≡ bound → MayEnd least look bound c t
  asked : Above (OnPeriod c.exit) least t → MayEnd least look bound c t
  saved : Above (IsSave c) least t → MayEnd least look bound c t

-- a time at which a run may have to stop whose primaries were done in the window of that least time
abbrev pub MayStop : ℕ → Cuts → ℕ → Type 0
MayStop at c t = (t ≡ c.stop) ⊎ Above (OnPeriod c.exit) at t

-- numbers within which all sums stay in range
abbrev pub IsTime : ℕ → Type 0
IsTime t = t < 2 ^ 62 + 2 ^ 42

abbrev pub IsSpan : ℕ → Type 0
IsSpan n = (1 ≤ n) × (n ≤ 2 ^ 62)

abbrev pub SpanFits : Option ℕ → Type 0
SpanFits None = Unit {0}
SpanFits (Some n) = IsSpan n

pub record CutsFit (c : Cuts) : Type 0 where
  pub stop : IsTime c.stop
  pub origin : c.origin < 2 ^ 62
  pub exit : SpanFits c.exit
  pub save_at : SpanFits c.save_at
  pub save_every : SpanFits c.save_every
