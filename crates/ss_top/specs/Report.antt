-- What the report on a run's windows says.
use Rattle.std.specs.Prelude.{◌≡◌, ℕ, zero, suc, ◌==◌, ◌<◌, List, [], ◌∷◌, ◌++◌, length, Option, Some, None, if◌then◌else◌, codes, decimal}
use Rattle.ss_model.specs.declared.Event.{Event}
use Rattle.mr_flow.specs.declared.Load.{Load}
use Rattle.ss_library.specs.Kinds.{any_kind}
use Rattle.ss_library.specs.Meaning.{any_meaning}
use Rattle.ss_run.specs.declared.RunSpec.{RunSpec}
use Rattle.ss_run.specs.Run.{HasWindows, IsBatch}
use Rattle.ss_worker.specs.Told.{total}

-- the run has so many windows
abbrev pub Has : RunSpec → ℕ → Type 0
Has r windows = HasWindows any_kind any_meaning r windows

-- these events go from the giver to the taker in window k
abbrev pub Goes : RunSpec → ℕ → ℕ → ℕ → List (Event Load) → Type 0
Goes r giver taker k events = IsBatch any_kind any_meaning r giver taker k events

-- so many events go from the giver to the taker in the first windows
pub record Sent (r : RunSpec) (giver taker windows events : ℕ) : Type 0 where
  pub batch : ℕ → List (Event Load)
  pub goes : (k : ℕ) → k < windows → Goes r giver taker k (batch k)
  pub count : events ≡ total windows (λ k. length (batch k))

-- the line of a giver and a taker
unfoldable pub pair_line : ℕ → ℕ → ℕ → ℕ → List ℕ
pair_line giver taker windows events =
    decimal giver ++ codes " " ++ decimal taker ++ codes " batches " ++ decimal windows ++ codes " events " ++ decimal events ++ codes "\n"

-- the lines of a giver, for the first n takers
abbrev pub giver_lines : (ℕ → ℕ) → ℕ → ℕ → ℕ → List ℕ
giver_lines sent windows giver zero = []
giver_lines sent windows giver (suc n) =
    giver_lines sent windows giver n ++ (if giver == n then [] else pair_line giver n windows (sent n))

-- the lines of the first n givers
abbrev pub givers_lines : (ℕ → ℕ → ℕ) → ℕ → ℕ → ℕ → List ℕ
givers_lines sent windows parts zero = []
givers_lines sent windows parts (suc n) = givers_lines sent windows parts n ++ giver_lines (sent n) windows n parts

-- a text has got the lines of a giver for its first n takers
pub record Lists (r : RunSpec) (windows giver n : ℕ) (old new : List ℕ) : Type 0 where
  pub sent : ℕ → ℕ
  pub each : (taker : ℕ) → taker < n → (giver ≡ taker → ⊥) → Sent r giver taker windows (sent taker)
  pub is : new ≡ old ++ giver_lines sent windows giver n

-- and those of the first n givers
pub record ListsAll (r : RunSpec) (windows n : ℕ) (old new : List ℕ) : Type 0 where
  pub sent : ℕ → ℕ → ℕ
  pub each : (giver taker : ℕ) → giver < n → taker < r.partition.parts → (giver ≡ taker → ⊥) → Sent r giver taker windows (sent giver taker)
  pub is : new ≡ old ++ givers_lines sent windows r.partition.parts n

unfoldable pub windows_line : ℕ → List ℕ
windows_line windows = codes "windows " ++ decimal windows ++ codes "\n"

abbrev pub report_text : ℕ → ℕ → (ℕ → ℕ → ℕ) → List ℕ
report_text parts windows sent = windows_line windows ++ givers_lines sent windows parts parts

-- the report of a run: how many windows it has, and for each giver and each other part as taker how many events go
pub record IsReport (r : RunSpec) (text : List ℕ) : Type 0 where
  pub windows : ℕ
  pub has : Has r windows
  pub sent : ℕ → ℕ → ℕ
  pub each : (giver taker : ℕ) → giver < r.partition.parts → taker < r.partition.parts → (giver ≡ taker → ⊥) → Sent r giver taker windows (sent giver taker)
  pub is : text ≡ report_text r.partition.parts windows sent

-- what is put where a name for the report is given: the report
abbrev pub Reports : RunSpec → Option (List ℕ) → List (List ℕ × List ℕ) → Type 0
Reports r None puts = puts ≡ []
Reports r (Some name) puts = (text : List ℕ) × IsReport r text × (puts ≡ (name, text) ∷ [])
