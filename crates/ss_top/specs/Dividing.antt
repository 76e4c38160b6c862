-- What is so of a run in parts that was run.
use Rattle.std.specs.Prelude.{ℕ, ◌≡◌, ◌<◌, ◌++◌, List, [], length, slice_get, slice_index, slice_index_or, sum_by, Option, Some, None}
use Rattle.ss_parts.specs.Parts.{components_of}
use Rattle.ss_ckpt.specs.declared.reading.Saved.{Saved}
use Rattle.ss_ckpt.specs.Views.{state_of}
use Rattle.ss_graph.specs.declared.graph.Graph.{Graph}
use Rattle.mr_flow.specs.declared.Load.{Load}
use Rattle.ss_library.specs.declared.kinds.Any.{Any}
use Rattle.ss_library.specs.Kinds.{any_kind}
use Rattle.ss_library.specs.Meaning.{any_meaning, any_opening}
use Rattle.ss_library.specs.Saved.{any_saving}
use Rattle.ss_cmd.specs.declared.RunOptions.{RunOptions}
use Rattle.ss_run.specs.declared.Origin.{Origin}
use Rattle.ss_run.specs.declared.RunSpec.{RunSpec}
use Rattle.ss_worker.specs.Place.{AllStandAt}
use Rattle.ss_worker.specs.Told.{AreElements}
use Rattle.ss_join.specs.declared.Ending.{Ending}
use Rattle.ss_join.specs.Cutting.{Given, refused_cuts}
use Rattle.ss_join.specs.Joined.{Ends, Breaks}
use Rattle.ss_course.specs.Kept.{most_kept}
use Rattle.ss_top.specs.declared.parts.Done.{Done}
use Rattle.ss_top.specs.declared.printed.End.{End}
use Rattle.ss_top.specs.declared.printed.End.TheVariants as end
use Rattle.ss_top.specs.declared.sheets.Sheet.{Sheet}
use Rattle.ss_top.specs.Answer.{sheets as sheets_of, stats_text}
use Rattle.ss_top.specs.Left.{Working}
use Rattle.ss_top.specs.Report.{Has, Reports}
use Rattle.ss_top.specs.Simulate.{puts_by}

-- a run begins with what is at hand
abbrev pub BeginsWith : Graph → Origin → Saved Any Load → Type 0
BeginsWith g from s = any_opening g from ≡ record { wires = s.model.wires; time = s.time; state = state_of s }

-- how many checkpoints cuts have
abbrev pub saves_of : List Given → ℕ
saves_of cuts = sum_by (λ c. length c.saves) cuts

-- a run that was stopped handed out more checkpoints than a run may have, the last of them with a cut that was refused
pub record WasStopped (r : RunSpec) (cuts : List Given) : Type 0 where
  pub front : List Given
  pub refused : Option Given
  pub are : cuts ≡ front ++ refused_cuts refused
  pub breaks : Breaks any_kind any_saving any_meaning r front refused
  pub many : most_kept < saves_of cuts

-- one that came to its end left its workers after its last window
abbrev pub HasEnded : RunSpec → List Given → List Working → Option Ending → Type 0
HasEnded r cuts workers (Some e) = Ends any_kind any_saving any_meaning r cuts e × AllStandAt r e.windows workers
HasEnded r cuts workers None = WasStopped r cuts

abbrev pub IsDone : RunSpec → Done → Type 0
IsDone r d = HasEnded r d.cuts.items d.workers.items d.ending

-- the elements of each worker, as lists
pub record AreListsOf (workers : List Working) (lists : List (List (ℕ × Any))) : Type 0 where
  pub count : length lists ≡ length workers
  pub each : (p : ℕ) (x : Working) → slice_get workers p ≡ Some x → AreElements any_kind any_meaning x.run x.part x.windows (slice_index_or lists p [])

-- the components, of which each stands with its number in the list of its part
pub record AreParts (owners : List ℕ) (lists : List (List (ℕ × Any))) (left : List Any) : Type 0 where
  pub whole : length left ≡ length owners
  pub within : (c : ℕ) → c < length owners → slice_index owners c < length lists
  pub each : (p : ℕ) → p < length lists → slice_index_or lists p [] ≡ components_of (slice_index owners) p 0 left

-- what is put after a run: its statistics, of the components as its last window left them, and its report
pub record AreSheets (r : RunSpec) (o : RunOptions) (sheets : List Sheet) : Type 0 where
  pub windows : ℕ
  pub has : Has r windows
  pub reports : List (List ℕ × List ℕ)
  pub reported : Reports r o.sync_report reports
  pub puts : puts_by sheets ≡ sheets_of o.stats (stats_text r.graph has.last.whole.state) ++ reports

-- the end of a run, with the time that it tells and what is put then
abbrev pub IsEndOf : RunSpec → RunOptions → Option Ending → End → Type 0
IsEndOf r o None end.Stopped = Unit {0}
IsEndOf r o None (end.Complete time sheets) = ⊥
IsEndOf r o (Some e) end.Stopped = ⊥
IsEndOf r o (Some e) (end.Complete time sheets) = (time ≡ e.time) × AreSheets r o sheets.items
