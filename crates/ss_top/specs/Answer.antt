-- What a call answers: a definition over the words and the entries alone.
use Rattle.std.specs.Prelude.{ℕ, ◌^◌, ◌==◌, slice_index, unwrap_or, ◌+◌, ◌≡◌, List, [], ◌∷◌, ◌++◌, ◌⊎◌, length, map, flat_map, nat_lt, if◌then◌else◌, Option, Some, None, Result, Ok, Err, codes, decimal, Bool, true, false}
use Rattle.std.specs.FinMap.{get}
use Rattle.ss_top.specs.Message.{message_text, fault_line, limit_line, misspelled_line, unsound_line}
use Rattle.ss_top.specs.declared.print.Message.TheVariants as message
use Rattle.ss_edge.specs.Edge.{Contents}
use Rattle.ss_cmd.specs.declared.Plan.{Plan}
use Rattle.ss_cmd.specs.declared.Plan.TheVariants as plan
use Rattle.ss_cmd.specs.declared.RunOptions.{RunOptions}
use Rattle.ss_cmd.specs.declared.Usage.{Usage}
use Rattle.ss_cmd.specs.declared.Usage.TheVariants as usage
use Rattle.ss_cmd.specs.Grammar.{plan_by}
use Rattle.ss_graph.specs.declared.graph.Graph.{Graph}
use Rattle.ss_graph.specs.declared.graph.Part.{Part}
use Rattle.ss_graph.specs.Checks.{at}
use Rattle.ss_part.specs.declared.How.{How}
use Rattle.ss_part.specs.declared.PartFault.{PartFault}
use Rattle.ss_part.specs.declared.PartFault.TheVariants as part_fault
use Rattle.ss_part.specs.Assigned.{assigned, refusal as undivided}
use Rattle.ss_part.specs.Cut.{cut}
use Rattle.ss_stats.specs.Text.{head, set_rows}
use Rattle.ss_model.specs.declared.Line.{Line}
use Rattle.ss_model.specs.End.{text_of, final_line}
use Rattle.ss_run.specs.declared.Origin.{Origin}
use Rattle.ss_run.specs.declared.Origin.TheVariants as origin
use Rattle.ss_library.specs.declared.kinds.Any.{Any}
use Rattle.ss_library.specs.Kinds.{any_kind, any_stats}
use Rattle.ss_library.specs.Meaning.{any_meaning}
use Rattle.ss_library.specs.Saved.{any_saving}
use Rattle.ss_course.specs.Kept.{Kept, RunsWhole, RunsOut}
use Rattle.ss_recall.specs.declared.fault.RecallFault.{RecallFault}
use Rattle.ss_recall.specs.declared.fault.RecallFault.TheVariants as recall_fault
use Rattle.ss_recall.specs.Recall.{Reading, Recalls, Refuses, graph_in}
use Rattle.ss_top.specs.declared.refusal.Fault.TheVariants as fault
use Rattle.ss_graph.specs.Judge.{graph_of}
use Rattle.ss_graph.specs.declared.fault.LimitKind.{LimitKind}
use Rattle.ss_graph.specs.declared.fault.LimitKind.TheVariants as limit
use Rattle.ss_top.specs.Asked.{course_of, run_of}
use Rattle.ss_top.specs.Report.{Reports}
use Rattle.ss_top.specs.Spreading.{parts_of, too_many_threads}
use Rattle.ss_top.specs.Judge.{Judged, not_text, at_fault, past_limit, misspelled, unsound, accepted, judge}
use Rattle.ss_top.specs.declared.Status.{Status}
use Rattle.ss_top.specs.declared.Status.TheVariants as status

-- one thing that a call does to the outside: it writes bytes to the output, or puts them under a name
pub data Step : Type 0 where
  write : List ℕ → Step
  put : List ℕ → List ℕ → Step

-- a call's status, what it does to the outside in order, and what it writes to the error output
pub record Answer : Type 0 where
  pub status : Status
  pub steps : List Step
  pub err : List ℕ

-- a line
abbrev pub line : List ℕ → List ℕ
line text = text ++ 10 ∷ []

abbrev pub refusal : Status → List ℕ → Answer
refusal s text = record { status = s; steps = []; err = line text }

-- bytes that are put under a name
abbrev pub put_of : List ℕ × List ℕ → Step
put_of p = put p.0 p.1

-- a call that is whole and puts nothing: its texts are written one by one
abbrev pub whole : List (List ℕ) → Answer
whole texts = record { status = status.Whole; steps = map write texts; err = [] }

-- the name of what is read: a graph, or a checkpoint
abbrev pub entry_name : Plan → List ℕ
entry_name (plan.Run graph options) = graph
entry_name (plan.Restart checkpoint options) = checkpoint
entry_name (plan.Check graph) = graph
entry_name (plan.Partition graph parts how) = graph

-- what a graph says that is accepted and not run
unfoldable pub accepted_text : Graph → List ℕ
accepted_text g = codes "graph accepted: " ++ decimal (length g.components) ++ codes " components, " ++ decimal (length g.links) ++ codes " links\n"

-- a component and its part
abbrev pub part_line : List ℕ → ℕ → List ℕ
part_line name part = name ++ 32 ∷ decimal part ++ 10 ∷ []

-- each component from number i on with its part
abbrev pub part_lines : List ℕ → ℕ → List Part → List (List ℕ)
part_lines list i [] = []
part_lines list i (c ∷ cs) = part_line c.name (slice_index list i) ∷ part_lines list (i + 1) cs

-- the least latency between two parts; 2^62 stands for none
unfoldable pub cut_line : ℕ → List ℕ
cut_line n = if n == 2 ^ 62 then codes "cut none\n" else codes "cut " ++ decimal n ++ codes " ps\n"

-- what a division says
abbrev pub division_texts : Graph → List ℕ → List (List ℕ)
division_texts g list = part_lines list 0 g.components ++ cut_line (cut g list) ∷ []

-- the refusal of what stands under a name
abbrev pub refused_as : List ℕ → Judged → Answer
refused_as name not_text = refusal status.Text (message_text message.NotText ++ name)
refused_as name (at_fault f place) = refusal status.Graph (fault_line f place)
refused_as name (past_limit k n) = refusal status.Limit (limit_line k n)
refused_as name (misspelled f) = refusal status.Checkpoint (misspelled_line f)
refused_as name (unsound f) = refusal status.Checkpoint (unsound_line f)
refused_as name accepted = whole []

-- why a graph isn't divided, as a judgement
abbrev pub undivided_by : PartFault → Judged
undivided_by (part_fault.Parts asked) = past_limit limit.Parts asked
undivided_by (part_fault.BadThread component) = at_fault fault.BadThread (at (codes "components") component ++ codes ".partition.thread")
undivided_by part_fault.NoMemory = not_text

-- why a checkpoint isn't gone on from, as a judgement
abbrev pub unrecalled_by : RecallFault → Judged
unrecalled_by (recall_fault.Form f) = misspelled f
unrecalled_by (recall_fault.State f) = unsound f
unrecalled_by recall_fault.NoMemory = not_text

abbrev pub divided_as : List ℕ → List (List ℕ) → Option PartFault → Answer
divided_as name texts None = whole texts
divided_as name texts (Some f) = refused_as name (undivided_by f)

-- a graph that is divided into so many parts
abbrev pub division : List ℕ → Graph → ℕ → How → Answer
division name g parts how = divided_as name (division_texts g (assigned g parts how)) (undivided g parts how)

-- the records of the components' statistics, each under its component's name
abbrev pub stats_rows : List Part → List Any → List ℕ
stats_rows [] left = []
stats_rows (c ∷ cs) [] = []
stats_rows (c ∷ cs) (x ∷ left) = set_rows c.name (any_stats x) ++ stats_rows cs left

-- the text of the statistics of a graph's components, as a run left them
abbrev pub stats_text : Graph → List Any → List ℕ
stats_text g left = head ++ stats_rows g.components left

-- what is put where a name for the statistics is given: their text
abbrev pub sheets : Option (List ℕ) → List ℕ → List (List ℕ × List ℕ)
sheets None text = []
sheets (Some name) text = (name, text) ∷ []

-- the name of the checkpoint of a time: the prefix, and the time in picoseconds
unfoldable pub save_name : List ℕ → ℕ → List ℕ
save_name prefix t = prefix ++ (codes "_" ++ (decimal t ++ codes ".sstcpt"))

-- what is done for a checkpoint: the lines before it are written one by one, and then it is put
abbrev pub steps_of : List ℕ → Kept → List Step
steps_of prefix k = map write (map text_of k.lines) ++ put (save_name prefix k.time) k.bytes ∷ []

-- a run that came to its end: its checkpoints, the lines behind them and the final line, and what is put at the end
abbrev pub ran : List ℕ → List Kept → List Line → ℕ → List (List ℕ × List ℕ) → Answer
ran prefix ks rest time puts = record { status = status.Whole; steps = flat_map (steps_of prefix) ks ++ (map write (map text_of rest ++ final_line time ∷ []) ++ map put_of puts); err = [] }

-- a run that a limit ended: its checkpoints, and the lines before the one that passes it
abbrev pub limited : List ℕ → List Kept → List Line → LimitKind → ℕ → Answer
limited prefix ks rest what n = record { status = status.Limit; steps = flat_map (steps_of prefix) ks ++ map write (map text_of rest); err = line (limit_line what n) }

-- the run of an accepted graph in so many parts, from what it begins with
module _ (g : Graph) (from : Origin) (o : RunOptions) (parts : ℕ) where
  -- it comes to its end: then the statistics are put, and the report
  pub record AnswersWhole (a : Answer) : Type 0 where
    pub ks : List Kept
    pub rest : List Line
    pub time : ℕ
    pub left : List Any
    pub reports : List (List ℕ × List ℕ)
    pub runs : RunsWhole any_kind any_saving any_meaning (course_of g from o) ks rest time left
    pub reported : Reports (run_of g from o parts) o.sync_report reports
    pub is : a ≡ ran o.checkpoint_prefix ks rest time (sheets o.stats (stats_text g left) ++ reports)

  -- or a checkpoint of it passes a limit
  pub record AnswersLimited (a : Answer) : Type 0 where
    pub ks : List Kept
    pub rest : List Line
    pub what : LimitKind
    pub number : ℕ
    pub runs : RunsOut any_kind any_saving any_meaning (course_of g from o) ks rest what number
    pub is : a ≡ limited o.checkpoint_prefix ks rest what number

  abbrev pub AnswersRun : Answer → Type 0
  AnswersRun a = AnswersWhole a ⊎ AnswersLimited a

-- the same where the graph can be divided into so many parts, and else the refusal
abbrev pub AnswersDivided : List ℕ → Graph → Origin → RunOptions → ℕ → Option PartFault → Answer → Type 0
AnswersDivided name g from o parts None a = AnswersRun g from o parts a
AnswersDivided name g from o parts (Some f) a = a ≡ refused_as name (undivided_by f)

-- the run as its options ask for it
abbrev pub AnswersAsked : List ℕ → Graph → Origin → RunOptions → Answer → Type 0
AnswersAsked name g from o a = AnswersDivided name g from o (parts_of o.spread g) (undivided g (parts_of o.spread g) o.spread.how) a

-- what an accepted graph answers; a restart is answered by a checkpoint
abbrev pub AnswersAccepted : Plan → Graph → Answer → Type 0
AnswersAccepted (plan.Run graph options) g a = AnswersAsked graph g origin.Start options a
AnswersAccepted (plan.Restart checkpoint options) g a = ⊥
AnswersAccepted (plan.Check graph) g a = a ≡ whole (accepted_text g ∷ [])
AnswersAccepted (plan.Partition graph parts how) g a = a ≡ division graph g (unwrap_or parts 1) how

-- what a graph that was judged answers
abbrev pub AnswersJudged : Plan → Graph → Judged → Answer → Type 0
AnswersJudged p g not_text a = a ≡ refused_as (entry_name p) not_text
AnswersJudged p g (at_fault f place) a = a ≡ refused_as (entry_name p) (at_fault f place)
AnswersJudged p g (past_limit k n) a = a ≡ refused_as (entry_name p) (past_limit k n)
AnswersJudged p g (misspelled f) a = a ≡ refused_as (entry_name p) (misspelled f)
AnswersJudged p g (unsound f) a = a ≡ refused_as (entry_name p) (unsound f)
AnswersJudged p g accepted a = AnswersAccepted p g a

-- what a graph's text answers
unfoldable pub AnswersText : Plan → List ℕ → Answer → Type 0
AnswersText p bytes a = AnswersJudged p (graph_of bytes) (judge bytes) a

-- a checkpoint's bytes stand for a state of a graph from which a run goes on
pub record AnswersRecalled (name bytes : List ℕ) (o : RunOptions) (a : Answer) : Type 0 where
  pub recalled : Reading
  pub recalls : Recalls bytes recalled
  pub asked : AnswersAsked name (graph_in recalled) (origin.Saved bytes) o a

-- or they are refused
pub record AnswersUnrecalled (name bytes : List ℕ) (a : Answer) : Type 0 where
  pub fault : RecallFault
  pub refuses : Refuses bytes fault
  pub is : a ≡ refused_as name (unrecalled_by fault)

abbrev pub AnswersSaved : List ℕ → List ℕ → RunOptions → Answer → Type 0
AnswersSaved name bytes o a = AnswersRecalled name bytes o a ⊎ AnswersUnrecalled name bytes a

-- what the bytes that were read answer
abbrev pub AnswersRead : Plan → List ℕ → Answer → Type 0
AnswersRead (plan.Run graph options) bytes a = AnswersText (plan.Run graph options) bytes a
AnswersRead (plan.Restart checkpoint options) bytes a = AnswersSaved checkpoint bytes options a
AnswersRead (plan.Check graph) bytes a = AnswersText (plan.Check graph) bytes a
AnswersRead (plan.Partition graph parts how) bytes a = AnswersText (plan.Partition graph parts how) bytes a

-- the bytes of a graph text, or of a checkpoint, are at most so many
abbrev pub most_of : Plan → ℕ
most_of (plan.Run graph options) = 67108864
most_of (plan.Restart checkpoint options) = 1073741824
most_of (plan.Check graph) = 67108864
most_of (plan.Partition graph parts how) = 67108864

abbrev pub size_limit : Plan → LimitKind
size_limit (plan.Run graph options) = limit.GraphBytes
size_limit (plan.Restart checkpoint options) = limit.CheckpointBytes
size_limit (plan.Check graph) = limit.GraphBytes
size_limit (plan.Partition graph parts how) = limit.GraphBytes

abbrev pub AnswersSized : Plan → List ℕ → Bool → Answer → Type 0
AnswersSized p bytes true a = a ≡ refusal status.Limit (limit_line (size_limit p) (most_of p + 1))
AnswersSized p bytes false a = AnswersRead p bytes a

-- what the bytes under the name answer
abbrev pub AnswersBytes : Plan → List ℕ → Answer → Type 0
AnswersBytes p bytes a = AnswersSized p bytes (nat_lt (most_of p) (length bytes)) a

-- a name that isn't there has no answer, since a read of it is a fault
abbrev pub AnswersEntry : Plan → Option (List ℕ) → Answer → Type 0
AnswersEntry p None a = ⊥
AnswersEntry p (Some bytes) a = AnswersBytes p bytes a

-- what a refusal of words names
abbrev pub usage_text : Usage → List ℕ
usage_text usage.UnknownCommand = codes "unknown command"
usage_text usage.Words = codes "words"
usage_text (usage.Value whose) = whose
usage_text usage.NoMemory = []

-- the line of a refusal of words, or of want of memory, and its status
abbrev pub usage_line : Usage → List ℕ
usage_line usage.NoMemory = message_text message.NoMemory
usage_line u = message_text message.Usage ++ usage_text u

abbrev pub usage_status : Usage → Status
usage_status usage.NoMemory = status.NoMemory
usage_status u = status.Usage

-- too many threads are refused before anything is read
abbrev pub AnswersPlanned : Plan → Contents → Option ℕ → Answer → Type 0
AnswersPlanned p held None a = AnswersEntry p (get held (entry_name p)) a
AnswersPlanned p held (Some threads) a = a ≡ refusal status.Limit (limit_line limit.Threads threads)

abbrev pub AnswersPlan : Result Plan Usage → Contents → Answer → Type 0
AnswersPlan (Err u) held a = a ≡ refusal status.Usage (message_text message.Usage ++ usage_text u)
AnswersPlan (Ok p) held a = AnswersPlanned p held (too_many_threads p) a

-- these words answer this, where the shelf holds these entries
unfoldable pub Answers : List (List ℕ) → Contents → Answer → Type 0
Answers words held a = AnswersPlan (plan_by words) held a

abbrev pub AsksPlanned : Plan → Option ℕ → List ℕ → Type 0
AsksPlanned p None name = name ≡ entry_name p
AsksPlanned p (Some threads) name = ⊥

abbrev pub AsksOf : Result Plan Usage → List ℕ → Type 0
AsksOf (Err u) name = ⊥
AsksOf (Ok p) name = AsksPlanned p (too_many_threads p) name

-- these words ask for the entry of this name
abbrev pub Asks : List (List ℕ) → List ℕ → Type 0
Asks words name = AsksOf (plan_by words) name
