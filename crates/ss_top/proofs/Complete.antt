-- An answer is given, unless something failed in the call or memory was wanting.
use Rattle.std.proofs.Common.{◌≡◌, ℕ, List, ◌++◌, Option, Some, None, Ok, Err, Result, Bool, true, false, length, nat_lt, ap, sym, ◌∙◌, inl, inr, subst}
use Rattle.std.specs.FinMap.{get}
use Rattle.ss_edge.specs.Edge.{Contents}
use Rattle.ss_cmd.specs.declared.Plan.{Plan}
use Rattle.ss_cmd.specs.declared.Plan.TheVariants as plan
use Rattle.ss_cmd.specs.declared.Usage.{Usage}
use Rattle.ss_cmd.specs.Grammar.{plan_by}
use Rattle.ss_graph.specs.declared.graph.Graph.{Graph}
use Rattle.ss_graph.specs.Judge.{graph_of}
use Rattle.ss_model.specs.declared.Line.{Line}
use Rattle.ss_library.specs.declared.kinds.Any.{Any}
use Rattle.ss_library.specs.Kinds.{any_kind}
use Rattle.ss_library.specs.Meaning.{any_meaning}
use Rattle.ss_library.specs.Saved.{any_saving}
use Rattle.ss_run.specs.declared.Origin.{Origin}
use Rattle.ss_run.specs.declared.Origin.TheVariants as origin
use Rattle.ss_course.specs.Kept.{Kept}
use Rattle.ss_course.proofs.OneWay.{one_way}
use Rattle.ss_recall.specs.declared.fault.RecallFault.{RecallFault}
use Rattle.ss_recall.specs.Recall.{Reading, graph_in}
use Rattle.ss_recall.proofs.Laws.{one_thing}
use Rattle.ss_cmd.specs.declared.RunOptions.{RunOptions}
use Rattle.ss_part.specs.declared.PartFault.{PartFault}
use Rattle.ss_part.specs.Assigned.{refusal as undivided}
use Rattle.ss_top.specs.Judge.{Judged, not_text, at_fault, past_limit, misspelled, unsound, accepted, judge}
use Rattle.ss_top.specs.Asked.{course_of, run_of}
use Rattle.ss_top.specs.Answer.{Answer, Answers, AnswersPlan, AnswersPlanned, AnswersRun, AnswersDivided, AnswersAsked, AnswersSaved, AnswersRead, AnswersEntry, AnswersSized, AnswersText, AnswersJudged, AnswersAccepted, entry_name, limited, most_of, ran, refused_as, sheets, stats_text, unrecalled_by}
use Rattle.ss_top.specs.Headline.{Seen, Stands, Given, Gave, IsComplete, AllComplete, OneAnswer}
use Rattle.ss_top.specs.declared.Status.{Status}
use Rattle.ss_top.specs.declared.Status.TheVariants as status
use Rattle.ss_top.specs.Spreading.{parts_of, too_many_threads}
use Rattle.ss_top.proofs.Reporting.{reports-one}

-- the run of an accepted graph comes to one thing
run-one : (g : Graph) (from : Origin) (o : RunOptions) (parts : ℕ) (a b : Answer) → AnswersRun g from o parts a → AnswersRun g from o parts b → a ≡ b
run-one g from o parts a b (inl h) (inl k) =
    let same = (one_way any_kind any_saving any_meaning (course_of g from o)).whole h.ks k.ks h.rest k.rest h.time k.time h.left k.left h.runs k.runs in
    let reports : h.reports ≡ k.reports = reports-one (run_of g from o parts) o.sync_report h.reports k.reports h.reported k.reported in
    h.is
    ∙ ap (λ (ks : List Kept). ran o.checkpoint_prefix ks h.rest h.time (sheets o.stats (stats_text g h.left) ++ h.reports)) same.0
    ∙ ap (λ (ls : List Line). ran o.checkpoint_prefix k.ks ls h.time (sheets o.stats (stats_text g h.left) ++ h.reports)) same.1
    ∙ ap (λ t. ran o.checkpoint_prefix k.ks k.rest t (sheets o.stats (stats_text g h.left) ++ h.reports)) same.2
    ∙ ap (λ (left : List Any). ran o.checkpoint_prefix k.ks k.rest k.time (sheets o.stats (stats_text g left) ++ h.reports)) same.3
    ∙ ap (λ rs. ran o.checkpoint_prefix k.ks k.rest k.time (sheets o.stats (stats_text g k.left) ++ rs)) reports
    ∙ sym k.is
run-one g from o parts a b (inl h) (inr k) = absurd ((one_way any_kind any_saving any_meaning (course_of g from o)).either h.ks k.ks h.rest k.rest h.time h.left k.what k.number h.runs k.runs)
run-one g from o parts a b (inr h) (inl k) = absurd ((one_way any_kind any_saving any_meaning (course_of g from o)).either k.ks h.ks k.rest h.rest k.time k.left h.what h.number k.runs h.runs)
run-one g from o parts a b (inr h) (inr k) =
    let same = (one_way any_kind any_saving any_meaning (course_of g from o)).out h.ks k.ks h.rest k.rest h.what k.what h.number k.number h.runs k.runs in
    h.is
    ∙ ap (λ (ks : List Kept). limited o.checkpoint_prefix ks h.rest h.what h.number) same.0
    ∙ ap (λ (ls : List Line). limited o.checkpoint_prefix k.ks ls h.what h.number) same.1
    ∙ ap (λ w. limited o.checkpoint_prefix k.ks k.rest w h.number) same.2
    ∙ ap (λ n. limited o.checkpoint_prefix k.ks k.rest k.what n) same.3
    ∙ sym k.is

divided-one : (name : List ℕ) (g : Graph) (from : Origin) (o : RunOptions) (parts : ℕ) (f : Option PartFault) (a b : Answer) → AnswersDivided name g from o parts f a → AnswersDivided name g from o parts f b → a ≡ b
divided-one name g from o parts None a b h k = run-one g from o parts a b h k
divided-one name g from o parts (Some f) a b h k = h ∙ sym k

asked-one : (name : List ℕ) (g : Graph) (from : Origin) (o : RunOptions) (a b : Answer) → AnswersAsked name g from o a → AnswersAsked name g from o b → a ≡ b
asked-one name g from o a b h k = divided-one name g from o (parts_of o.spread g) (undivided g (parts_of o.spread g) o.spread.how) a b h k

accepted-one : (p : Plan) (g : Graph) (a b : Answer) → AnswersAccepted p g a → AnswersAccepted p g b → a ≡ b
accepted-one (plan.Run graph options) g a b h k = asked-one graph g origin.Start options a b h k
accepted-one (plan.Restart checkpoint options) g a b h k = absurd h
accepted-one (plan.Check graph) g a b h k = h ∙ sym k
accepted-one (plan.Partition graph parts how) g a b h k = h ∙ sym k

judged-one : (p : Plan) (g : Graph) (j : Judged) (a b : Answer) → AnswersJudged p g j a → AnswersJudged p g j b → a ≡ b
judged-one p g not_text a b h k = h ∙ sym k
judged-one p g (at_fault f place) a b h k = h ∙ sym k
judged-one p g (past_limit l n) a b h k = h ∙ sym k
judged-one p g (misspelled f) a b h k = h ∙ sym k
judged-one p g (unsound f) a b h k = h ∙ sym k
judged-one p g accepted a b h k = accepted-one p g a b h k

text-one : (p : Plan) (bytes : List ℕ) (a b : Answer) → AnswersText p bytes a → AnswersText p bytes b → a ≡ b
unfolding AnswersText
text-one p bytes a b h k = judged-one p (graph_of bytes) (judge bytes) a b h k

-- bytes stand for one checkpoint, or for none
saved-one : (name bytes : List ℕ) (o : RunOptions) (a b : Answer) → AnswersSaved name bytes o a → AnswersSaved name bytes o b → a ≡ b
saved-one name bytes o a b (inl h) (inl k) =
    let same : h.recalled ≡ k.recalled = (one_thing bytes).one h.recalled k.recalled h.recalls k.recalls in
    asked-one name (graph_in k.recalled) (origin.Saved bytes) o a b (subst (λ (x : Reading). AnswersAsked name (graph_in x) (origin.Saved bytes) o a) same h.asked) k.asked
saved-one name bytes o a b (inl h) (inr k) = absurd ((one_thing bytes).either h.recalled k.fault h.recalls k.refuses)
saved-one name bytes o a b (inr h) (inl k) = absurd ((one_thing bytes).either k.recalled h.fault k.recalls h.refuses)
saved-one name bytes o a b (inr h) (inr k) = h.is ∙ ap (λ (f : RecallFault). refused_as name (unrecalled_by f)) ((one_thing bytes).first h.fault k.fault h.refuses k.refuses) ∙ sym k.is

read-one : (p : Plan) (bytes : List ℕ) (a b : Answer) → AnswersRead p bytes a → AnswersRead p bytes b → a ≡ b
read-one (plan.Run graph options) bytes a b h k = text-one (plan.Run graph options) bytes a b h k
read-one (plan.Restart checkpoint options) bytes a b h k = saved-one checkpoint bytes options a b h k
read-one (plan.Check graph) bytes a b h k = text-one (plan.Check graph) bytes a b h k
read-one (plan.Partition graph parts how) bytes a b h k = text-one (plan.Partition graph parts how) bytes a b h k

sized-one : (p : Plan) (bytes : List ℕ) (t : Bool) (a b : Answer) → AnswersSized p bytes t a → AnswersSized p bytes t b → a ≡ b
sized-one p bytes true a b h k = h ∙ sym k
sized-one p bytes false a b h k = read-one p bytes a b h k

entry-one : (p : Plan) (o : Option (List ℕ)) (a b : Answer) → AnswersEntry p o a → AnswersEntry p o b → a ≡ b
entry-one p None a b h k = absurd h
entry-one p (Some bytes) a b h k = sized-one p bytes (nat_lt (most_of p) (length bytes)) a b h k

planned-one : (p : Plan) (held : Contents) (o : Option ℕ) (a b : Answer) → AnswersPlanned p held o a → AnswersPlanned p held o b → a ≡ b
planned-one p held None a b h k = entry-one p (get held (entry_name p)) a b h k
planned-one p held (Some n) a b h k = h ∙ sym k

plan-one : (r : Result Plan Usage) (held : Contents) (a b : Answer) → AnswersPlan r held a → AnswersPlan r held b → a ≡ b
plan-one (Err u) held a b h k = h ∙ sym k
plan-one (Ok p) held a b h k = planned-one p held (too_many_threads p) a b h k

pub one-answer : OneAnswer
unfolding Answers
one-answer w held a b h k = plan-one (plan_by w) held a b h k

given-complete : (w : List (List ℕ)) (old new : Seen) (s : Status) → Given (Answers w) old new s → IsComplete w old new s
given-complete w old new s f = λ held a told ans.
    let here : f.held ≡ held = subst (λ (o : Option Contents). Stands o f.held) told f.stands in
    let same : f.answer ≡ a = one-answer w held f.answer a (subst (λ (h : Contents). Answers w h f.answer) here f.answered) ans in
    inr (subst (λ (x : Answer). Gave x old new s) same (record { status = f.status; done = f.done; err = f.err }))

pub ends-complete : AllComplete
ends-complete w ws old new status.Whole f = given-complete w old new status.Whole f.given
ends-complete w ws old new status.Usage f = given-complete w old new status.Usage f
ends-complete w ws old new status.Text f = given-complete w old new status.Text f
ends-complete w ws old new status.Graph f = given-complete w old new status.Graph f
ends-complete w ws old new status.Limit f = given-complete w old new status.Limit f
ends-complete w ws old new status.Checkpoint f = given-complete w old new status.Checkpoint f
ends-complete w ws old new status.ReadFault f = λ held a told ans. inl tt
ends-complete w ws old new status.WriteFault f = λ held a told ans. inl tt
ends-complete w ws old new status.NoMemory f = λ held a told ans. inl tt
