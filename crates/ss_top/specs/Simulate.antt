-- What a call comes to: a run, a list of texts, or a refusal.
use Rattle.std.specs.Prelude.{ℕ, ◌≡◌, ◌≤◌, Bool, true, false, List, [], ◌++◌, map, Option, Some, None, codes}
use Rattle.std.specs.List.{All}
use Rattle.ss_wire.specs.Wire.{IsBytes}
use Rattle.ss_graph.specs.declared.graph.Graph.{Graph}
use Rattle.ss_graph.specs.declared.fault.GraphFault.{GraphFault}
use Rattle.ss_graph.specs.declared.fault.LimitKind.{LimitKind}
use Rattle.ss_graph.specs.Faults.{is_memory}
use Rattle.ss_graph.specs.Fit.{IsFit}
use Rattle.ss_network.specs.declared.fault.MakeFault.{MakeFault}
use Rattle.ss_network.specs.Faults as making
use Rattle.ss_ckpt.specs.declared.fault.CkptFault.{CkptFault}
use Rattle.ss_ckpt.specs.declared.fault.CkptFault.TheVariants as form
use Rattle.ss_restart.specs.declared.fault.RestartFault.{RestartFault}
use Rattle.ss_restart.specs.declared.fault.RestartFault.TheVariants as state
use Rattle.ss_recall.specs.declared.fault.RecallFault.{RecallFault}
use Rattle.ss_recall.specs.declared.fault.RecallFault.TheVariants as recall_fault
use Rattle.ss_library.specs.declared.kinds.Any.{Any}
use Rattle.ss_library.specs.Kinds.{any_kind}
use Rattle.ss_library.specs.Meaning.{any_meaning}
use Rattle.ss_library.specs.Saved.{any_saving}
use Rattle.ss_run.specs.declared.Origin.{Origin}
use Rattle.ss_join.specs.Cutting.{Given}
use Rattle.ss_course.specs.Kept.{Kept, RunsWhole, RunsOut}
use Rattle.ss_printed.specs.Printed.{allowed, kept_in, rest_in, stop}
use Rattle.ss_cmd.specs.declared.RunOptions.{RunOptions}
use Rattle.ss_part.specs.declared.How.{How}
use Rattle.ss_part.specs.declared.PartFault.{PartFault}
use Rattle.ss_part.specs.declared.PartFault.TheVariants as part_fault
use Rattle.ss_top.specs.Message.{message_text, fault_line, limit_line, misspelled_line, unsound_line}
use Rattle.ss_top.specs.Asked.{course_of, run_of}
use Rattle.ss_top.specs.Answer.{Answer, division, limited, line, ran, refused_as, sheets as sheets_of, stats_text, undivided_by, unrecalled_by, whole}
use Rattle.ss_top.specs.Doing.{AreWhole, Doing, acts_in, closing, doing, next_to, nothing}
use Rattle.ss_top.specs.Report.{Reports}
use Rattle.ss_top.specs.Left.{Working, AreWorkers}
use Rattle.ss_top.specs.Printing.{Told}
use Rattle.ss_top.specs.Judge.{Judged, not_text, at_fault, past_limit, misspelled, unsound, accepted, refused_by, unmade_by}
use Rattle.ss_top.specs.declared.print.Message.TheVariants as message
use Rattle.ss_top.specs.declared.refusal.Fault.TheVariants as fault
use Rattle.ss_top.specs.declared.refusal.Refusal.{Refusal}
use Rattle.ss_top.specs.declared.refusal.Refusal.TheVariants as refusal
use Rattle.ss_top.specs.declared.sheets.Sheet.{Sheet}
use Rattle.ss_top.specs.declared.printed.End.{End}
use Rattle.ss_top.specs.declared.printed.End.TheVariants as end
use Rattle.ss_top.specs.declared.printed.Printed.{Printed}
use Rattle.ss_top.specs.declared.simulate.Verdict.{Verdict}
use Rattle.ss_top.specs.declared.simulate.Verdict.TheVariants as verdict
use Rattle.ss_top.specs.declared.Status.{Status}
use Rattle.ss_top.specs.declared.Status.TheVariants as status

-- what the faults of a checkpoint say, where they aren't want of memory
abbrev pub misspelled_by : CkptFault → Option Judged
misspelled_by form.Magic = Some (misspelled form.Magic)
misspelled_by form.Form = Some (misspelled form.Form)
misspelled_by (form.Short at) = Some (misspelled (form.Short at))
misspelled_by (form.Value at) = Some (misspelled (form.Value at))
misspelled_by (form.Order at) = Some (misspelled (form.Order at))
misspelled_by (form.Trailing at) = Some (misspelled (form.Trailing at))
misspelled_by form.NoMemory = None

abbrev pub unsound_by : RestartFault → Option Judged
unsound_by (state.Element component) = Some (unsound (state.Element component))
unsound_by (state.Payload event) = Some (unsound (state.Payload event))
unsound_by (state.Time event) = Some (unsound (state.Time event))
unsound_by (state.Tick clock) = Some (unsound (state.Tick clock))
unsound_by (state.Unbalanced line channel) = Some (unsound (state.Unbalanced line channel))
unsound_by state.NoMemory = None

-- what a refusal says of what was read, where it isn't want of memory
abbrev pub judged_by : Refusal → Option Judged
judged_by refusal.NotText = Some not_text
judged_by (refusal.Graph f place) = Some (at_fault f place)
judged_by refusal.SharedParams = Some (at_fault fault.SharedParams (codes "shared_params"))
judged_by (refusal.Limit k n) = Some (past_limit k n)
judged_by (refusal.Misspelled f) = misspelled_by f
judged_by (refusal.Unsound f) = unsound_by f
judged_by refusal.NoMemory = None

-- of a fault
abbrev pub IsSaid : Bool → Option Judged → Judged → Type 0
IsSaid memory None j = Unit {0}
IsSaid memory (Some i) j = (memory ≡ false) × (j ≡ i)

abbrev pub RefusedBy : GraphFault → Refusal → Type 0
RefusedBy f r = IsSaid (is_memory f) (judged_by r) (refused_by f)

abbrev pub UnmadeBy : MakeFault → Refusal → Type 0
UnmadeBy f r = IsSaid (making.is_memory f) (judged_by r) (unmade_by f)

abbrev pub is_recall_memory : RecallFault → Bool
is_recall_memory (recall_fault.Form f) = false
is_recall_memory (recall_fault.State f) = false
is_recall_memory recall_fault.NoMemory = true

abbrev pub UnrecalledBy : RecallFault → Refusal → Type 0
UnrecalledBy f r = IsSaid (is_recall_memory f) (judged_by r) (unrecalled_by f)

-- the bytes that are put, each with its name
abbrev pub put_by : Sheet → List ℕ × List ℕ
put_by s = (s.name, s.text.items)

abbrev pub puts_by : List Sheet → List (List ℕ × List ℕ)
puts_by sheets = map put_by sheets

abbrev pub is_part_memory : PartFault → Bool
is_part_memory (part_fault.Parts n) = false
is_part_memory (part_fault.BadThread c) = false
is_part_memory part_fault.NoMemory = true

-- ---- what a call comes to, of which answers and leaves tell the meaning

-- a refusal is an answer
abbrev pub IsRefusal : (Answer → Type 0) → List ℕ → Option Judged → Type 0
IsRefusal answers name None = Unit {0}
IsRefusal answers name (Some j) = answers (refused_as name j)

-- the cuts of what was printed, as they are seen
abbrev pub cuts_by : Printed → List Given
cuts_by p = p.cuts.items

-- the checkpoints in them, as far as they pass no limit, and the first that passes one
abbrev pub kept_by : Graph → Printed → List Kept
kept_by g p = kept_in g [] (cuts_by p)

abbrev pub stop_of : Graph → Printed → Option (Kept × (LimitKind × ℕ))
stop_of g p = stop 0 (kept_by g p)

-- where no checkpoint passes a limit the run came to its end, which is an answer
abbrev pub Closes : (Answer → Type 0) → Type 0 → Graph → Printed → End → Type 0
Closes answers leaves g p end.Stopped = ⊥
Closes answers leaves g p (end.Complete time sheets) = answers (ran p.prefix (kept_by g p) (rest_in [] (cuts_by p)) time (puts_by sheets.items)) × (All IsBytes (map (λ k. k.bytes) (kept_by g p)) → leaves)

-- what is done to write and put it
abbrev pub closing_by : End → Doing
closing_by end.Stopped = nothing None
closing_by (end.Complete time sheets) = closing time (puts_by sheets.items)

abbrev pub doing_by : Graph → Printed → Doing
doing_by g p = next_to (doing p.prefix g 0 (acts_in (cuts_by p))) (closing_by p.end)

-- a run of a graph was made, and what it prints and puts is an answer
pub record IsPrinted (answers : Answer → Type 0) (leaves : Type 0) (p : Printed) : Type 0 where
  pub graph : Graph
  pub is : p.run.value.graph ≡ graph
  pub fit : IsFit graph
  pub parts : AreWhole (cuts_by p)
  pub closes : stop_of graph p ≡ None → Closes answers leaves graph p p.end
  pub limits : (next : Kept) (what : LimitKind) (n : ℕ) → stop_of graph p ≡ Some (next, (what, n)) → answers (limited p.prefix (allowed 0 (kept_by graph p)) next.lines what n)

-- the run of a graph from what it begins with, in so many parts: what it prints and puts, and which workers it leaves
module _ (g : Graph) (from : Origin) (o : RunOptions) (parts : ℕ) (workers : List Working) (p : Printed) where
  pub record Completes (time : ℕ) (sheets : List Sheet) : Type 0 where
    pub left : List Any
    pub reports : List (List ℕ × List ℕ)
    pub runs : RunsWhole any_kind any_saving any_meaning (course_of g from o) (kept_by g p) (rest_in [] (cuts_by p)) time left
    pub reported : Reports (run_of g from o parts) o.sync_report reports
    pub puts : puts_by sheets ≡ sheets_of o.stats (stats_text g left) ++ reports
    pub leaves : 2 ≤ parts → AreWorkers (run_of g from o parts) workers

  abbrev pub HasClosed : End → Type 0
  HasClosed end.Stopped = ⊥
  HasClosed (end.Complete time sheets) = Completes time sheets.items

  pub record HasRun : Type 0 where
    pub graph : p.run.value.graph ≡ g
    pub prefix : p.prefix ≡ o.checkpoint_prefix
    pub fit : IsFit g
    pub whole : AreWhole (cuts_by p)
    pub closes : stop_of g p ≡ None → HasClosed p.end
    pub limits : (next : Kept) (what : LimitKind) (n : ℕ) → stop_of g p ≡ Some (next, (what, n)) → RunsOut any_kind any_saving any_meaning (course_of g from o) (allowed 0 (kept_by g p)) next.lines what n

-- a verdict is an answer, and what has to be left then is left
abbrev pub IsVerdict : (Answer → Type 0) → Type 0 → List ℕ → Verdict → Type 0
IsVerdict answers leaves name (verdict.Ran p) = IsPrinted answers leaves p
IsVerdict answers leaves name (verdict.Listed texts) = answers (whole (map (λ t. t.items) texts.items)) × leaves
IsVerdict answers leaves name (verdict.Refused r) = IsRefusal answers name (judged_by r)

-- a division of an accepted graph, or its refusal, or want of memory
abbrev pub IsDivided : List ℕ → Graph → ℕ → How → Verdict → Type 0
IsDivided name g parts how v = IsVerdict (λ a. a ≡ division name g parts how) (Unit {0}) name v

-- of a division
abbrev pub UndividedBy : PartFault → Refusal → Type 0
UndividedBy f r = IsSaid (is_part_memory f) (judged_by r) (undivided_by f)

-- the status of a refusal, and its line
abbrev pub status_of : Option Judged → Status
status_of None = status.NoMemory
status_of (Some not_text) = status.Text
status_of (Some (at_fault f place)) = status.Graph
status_of (Some (past_limit k n)) = status.Limit
status_of (Some (misspelled f)) = status.Checkpoint
status_of (Some (unsound f)) = status.Checkpoint
status_of (Some accepted) = status.Whole

abbrev pub line_of : List ℕ → Option Judged → List ℕ
line_of name None = line (message_text message.NoMemory)
line_of name (Some not_text) = line (message_text message.NotText ++ name)
line_of name (Some (at_fault f place)) = line (fault_line f place)
line_of name (Some (past_limit k n)) = line (limit_line k n)
line_of name (Some (misspelled f)) = line (misspelled_line f)
line_of name (Some (unsound f)) = line (unsound_line f)
line_of name (Some accepted) = []

pub record TellsJudged (name : List ℕ) (o : Option Judged) (err err' : Option (List ℕ)) (errs errs' : ℕ) (s : Status) : Type 0 where
  pub status : s ≡ status_of o
  pub told : Told (line_of name o) err err' errs errs'

abbrev pub TellsRefusal : List ℕ → Refusal → Option (List ℕ) → Option (List ℕ) → ℕ → ℕ → Status → Type 0
TellsRefusal name r err err' errs errs' s = TellsJudged name (judged_by r) err err' errs errs' s
