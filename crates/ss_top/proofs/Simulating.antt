-- From what is done with the bytes that were read to what a call answers.
use Rattle.std.proofs.Common.{◌≡◌, ℕ, ◌<◌, ◌≤◌, ◌^◌, List, [], map, length, Bool, true, false, cond, Option, Some, None, refl, ap, sym, ◌∙◌, subst, ◌⊎◌, inl, inr, true≢false, option_map, arith}
use Rattle.std.specs.Prelude.{unwrap_or}
use Rattle.std.specs.List.{All}
use Rattle.std.proofs.lemmas.Bool.Decides.{nat_tests}
use Rattle.ss_wire.specs.Wire.{IsBytes}
use Rattle.ss_model.specs.declared.Line.{Line}
use Rattle.ss_graph.specs.declared.graph.Graph.{Graph}
use Rattle.ss_graph.specs.declared.fault.GraphFault.{GraphFault}
use Rattle.ss_graph.specs.declared.fault.GraphFault.TheVariants as reading
use Rattle.ss_graph.specs.Checks.{first_fault, Fails}
use Rattle.ss_graph.specs.Faults.{is_memory}
use Rattle.ss_graph.specs.Judge.{text_checks, graph_of}
use Rattle.ss_network.specs.declared.fault.MakeFault.{MakeFault}
use Rattle.ss_network.specs.declared.fault.MakeFault.TheVariants as making_fault
use Rattle.ss_network.specs.Faults as making
use Rattle.ss_library.specs.declared.kinds.Any.{Any}
use Rattle.ss_library.specs.Kinds.{any_kind}
use Rattle.ss_library.specs.Make.{Made, make_checks, model_of, wiring_of, members_of}
use Rattle.ss_library.specs.Meaning.{IsMade, any_accepts, any_meaning}
use Rattle.ss_library.proofs.Begun.{begun_count}
use Rattle.ss_run.specs.Run.{IsFitting}
use Rattle.ss_cmd.specs.Grammar.{AreInRange}
use Rattle.ss_library.specs.Order.{PacketsStayInOrder}
use Rattle.ss_library.specs.Saved.{any_saving}
use Rattle.ss_part.specs.declared.How.{How}
use Rattle.ss_part.specs.declared.PartFault.{PartFault}
use Rattle.ss_part.specs.declared.PartFault.TheVariants as part_fault
use Rattle.ss_part.specs.Assigned.{assigned, refusal as undivided, can_have, misplaced}
use Rattle.ss_run.specs.declared.Origin.{Origin}
use Rattle.ss_run.specs.declared.Origin.TheVariants as origin
use Rattle.ss_course.specs.Kept.{Kept, RunsWhole}
use Rattle.ss_printed.specs.Printed.{allowed, rest_in}
use Rattle.ss_recall.specs.declared.fault.RecallFault.{RecallFault}
use Rattle.ss_recall.specs.declared.fault.RecallFault.TheVariants as recall_fault
use Rattle.ss_recall.specs.declared.recalling.Recalled.{Recalled}
use Rattle.ss_recall.specs.Recall.{graph_in, IsRefusal as recall_refuses}
use Rattle.ss_recall.specs.Recalled.{IsRecalled, reading_of}
use Rattle.ss_recall.proofs.Laws.{one_thing}
use Rattle.ss_cmd.specs.declared.Plan.{Plan}
use Rattle.ss_cmd.specs.declared.Plan.TheVariants as plan
use Rattle.ss_cmd.specs.declared.RunOptions.{RunOptions}
use Rattle.ss_cmd.specs.declared.Spread.{Spread}
use Rattle.ss_top.specs.Asked.{course_of, run_of}
use Rattle.ss_top.specs.Judge.{Judged, not_text, at_fault, past_limit, misspelled, unsound, accepted, judge, judged_made, refused_by, unmade_by}
use Rattle.ss_part.specs.Division.{Division, AreBelow}
use Rattle.ss_top.specs.Accepted.{IsDivision, IsRunnable, IsRefused, IsRefusedText, IsWhy, Undivides}
use Rattle.ss_top.specs.Answer.{Answer, entry_name, limited, ran, whole, refused_as, AnswersAccepted, AnswersAsked, AnswersDivided, AnswersJudged, AnswersRun, AnswersSaved, AnswersText, division, divided_as, division_texts, undivided_by, unrecalled_by}
use Rattle.ss_top.specs.Left.{Working, LeavesAccepted, LeavesRun, LeavesSaved, LeavesStarted}
use Rattle.ss_top.specs.Rest.{RestartsPrintTheRest}
use Rattle.ss_top.specs.Simulate.{judged_by, IsSaid, IsRefusal, IsPrinted, IsVerdict, IsDivided, Closes, HasClosed, HasRun, cuts_by, kept_by, puts_by, UndividedBy, UnrecalledBy, is_part_memory, is_recall_memory, RefusedBy, UnmadeBy}
use Rattle.ss_top.specs.Spreading.{parts_of}
use Rattle.ss_top.specs.Tells.{StatisticsTellOrder}
use Rattle.ss_top.specs.declared.printed.End.{End}
use Rattle.ss_top.specs.declared.printed.End.TheVariants as end
use Rattle.ss_top.specs.declared.printed.Printed.{Printed}
use Rattle.ss_top.specs.declared.refusal.Refusal.{Refusal}
use Rattle.ss_top.specs.declared.simulate.Accepted.{Accepted}
use Rattle.ss_top.specs.declared.simulate.Verdict.{Verdict}
use Rattle.ss_top.specs.declared.simulate.Verdict.TheVariants as verdict
use Rattle.ss_top.proofs.Fitting.{runs_fit}
use Rattle.ss_top.proofs.Judging.{judge_refused, judge_made}

-- ---- faults

failed : {F : Type 0} (m : F → Bool) (f : F) (first : Option F) → Fails m f first → m f ≡ false → first ≡ Some f
failed m f first h e = h ∙ ap (λ b. cond b first (Some f)) e

-- what isn't accepted is answered by its refusal
answers_refused : (p : Plan) (g : Graph) (j : Judged) → (j ≡ accepted → ⊥) → AnswersJudged p g j (refused_as (entry_name p) j)
answers_refused p g not_text n = refl
answers_refused p g (at_fault f place) n = refl
answers_refused p g (past_limit k m) n = refl
answers_refused p g (misspelled f) n = refl
answers_refused p g (unsound f) n = refl
answers_refused p g accepted n = absurd (n refl)

never_read : (f : GraphFault) → refused_by f ≡ accepted → ⊥
never_read reading.Text e = cc
never_read (reading.Form p) e = cc
never_read reading.SharedParams e = cc
never_read (reading.Member p) e = cc
never_read (reading.Unit p) e = cc
never_read (reading.DuplicateName p) e = cc
never_read (reading.UnknownComponent p) e = cc
never_read (reading.PortTaken p) e = cc
never_read (reading.Latency p) e = cc
never_read (reading.Limit k n) e = cc
never_read reading.NoMemory e = cc

never_made : (f : MakeFault) → unmade_by f ≡ accepted → ⊥
never_made (making_fault.UnknownType p) e = cc
never_made (making_fault.UnknownPort p) e = cc
never_made (making_fault.Param p) e = cc
never_made (making_fault.Protocol p) e = cc
never_made (making_fault.PortUnlinked p) e = cc
never_made (making_fault.Miswired p) e = cc
never_made (making_fault.Limit k n) e = cc
never_made making_fault.NoMemory e = cc

refused_at : (p : Plan) (g : Graph) (i j : Judged) → (i ≡ accepted → ⊥) → j ≡ i → AnswersJudged p g j (refused_as (entry_name p) i)
refused_at p g i j n e = subst (λ (x : Judged). AnswersJudged p g x (refused_as (entry_name p) i)) (sym e) (answers_refused p g i n)

-- a division has from 1 to 32 parts
has_parts : (t : Bool) (o : Option PartFault) (f : PartFault) → cond t o (Some f) ≡ None → t ≡ true
has_parts true o f e = refl
has_parts false o f e = absurd cc

pub divided_some : (g : Graph) (parts : ℕ) (how : How) → undivided g parts how ≡ None → 1 ≤ parts
unfolding undivided can_have
divided_some g parts how e = let h = has_parts (can_have g parts) (option_map part_fault.BadThread (misplaced g parts how)) (part_fault.Parts parts) e in grind (arith, nat_tests)

pub divided_few : (g : Graph) (parts : ℕ) (how : How) → undivided g parts how ≡ None → parts ≤ 32
unfolding undivided can_have
divided_few g parts how e = let h = has_parts (can_have g parts) (option_map part_fault.BadThread (misplaced g parts how)) (part_fault.Parts parts) e in grind (arith, nat_tests)

-- ---- texts

refused_as_fault : (text : List ℕ) (f : GraphFault) (o : Option Judged) → Fails is_memory f (first_fault (text_checks text)) → IsSaid (is_memory f) o (refused_by f) → IsRefused text o
refused_as_fault text f None h r = tt
refused_as_fault text f (Some i) h r = (judge_refused text f (failed is_memory f _ h r.0) ∙ r.1, λ e. never_read f (r.1 ∙ e))

pub text_refused : (text : List ℕ) (f : GraphFault) (r : Refusal) → Fails is_memory f (first_fault (text_checks text)) → RefusedBy f r → IsRefusedText text r
text_refused text f r h k = refused_as_fault text f (judged_by r) h k

unmade_as_fault : (text : List ℕ) (g : Graph) (f : MakeFault) (o : Option Judged) → first_fault (text_checks text) ≡ None → g ≡ graph_of text → Fails making.is_memory f (first_fault (make_checks g)) → IsSaid (making.is_memory f) o (unmade_by f) → IsRefused text o
unmade_as_fault text g f None t e h r = tt
unmade_as_fault text g f (Some i) t e h r = (judge_made text g t e ∙ ap judged_made (failed making.is_memory f _ h r.0) ∙ r.1, λ x. never_made f (r.1 ∙ x))

pub graph_unmade : (text : List ℕ) (g : Graph) (f : MakeFault) (r : Refusal) → first_fault (text_checks text) ≡ None → g ≡ graph_of text → Fails making.is_memory f (first_fault (make_checks g)) → UnmadeBy f r → IsRefusedText text r
graph_unmade text g f r t e h k = unmade_as_fault text g f (judged_by r) t e h k

pub accepted_read : (text : List ℕ) → judge text ≡ accepted → first_fault (text_checks text) ≡ None
accepted_read text h = by (first_fault (text_checks text)) refl
  where
    by : (o : Option GraphFault) → first_fault (text_checks text) ≡ o → first_fault (text_checks text) ≡ None
    by None e = e
    by (Some f) e = absurd (never_read f (sym (judge_refused text f e) ∙ h))

pub text_accepted : (text : List ℕ) (g : Graph) → first_fault (text_checks text) ≡ None → g ≡ graph_of text → first_fault (make_checks g) ≡ None → judge text ≡ accepted
text_accepted text g t e m = judge_made text g t e ∙ ap judged_made m

-- ---- answers

module _ (p : Plan) (text : List ℕ) where
  refused_text_by : (o : Option Judged) → IsRefused text o → IsRefusal (AnswersText p text) (entry_name p) o
  unfolding AnswersText
  refused_text_by None h = tt
  refused_text_by (Some j) h = refused_at p (graph_of text) j (judge text) h.1 h.0

  pub refused_text : (r : Refusal) → IsRefusedText text r → IsRefusal (AnswersText p text) (entry_name p) (judged_by r)
  refused_text r h = refused_text_by (judged_by r) h

  -- an accepted text answers as its graph does
  pub as_accepted : judge text ≡ accepted → (a : Answer) → AnswersAccepted p (graph_of text) a → AnswersText p text a
  unfolding AnswersText
  as_accepted h a k = subst (λ (j : Judged). AnswersJudged p (graph_of text) j a) (sym h) k

-- ---- what an answer means for another

module _ (answers answers' : Answer → Type 0) (goes : (a : Answer) → answers a → answers' a) where
  pub refusal_goes : (name : List ℕ) (o : Option Judged) → IsRefusal answers name o → IsRefusal answers' name o
  refusal_goes name None h = tt
  refusal_goes name (Some j) h = goes (refused_as name j) h

  module _ (leaves leaves' : Type 0) (left : leaves → leaves') where
    closes_goes : (g : Graph) (p : Printed) (e : End) → Closes answers leaves g p e → Closes answers' leaves' g p e
    closes_goes g p end.Stopped h = h
    closes_goes g p (end.Complete time sheets) h = (goes _ h.0, λ b. left (h.1 b))

    pub printed_goes : (p : Printed) → IsPrinted answers leaves p → IsPrinted answers' leaves' p
    printed_goes p h = record {
      graph = h.graph;
      is = h.is;
      fit = h.fit;
      parts = h.parts;
      closes = λ e. closes_goes h.graph p p.end (h.closes e);
      limits = λ next what n e. goes _ (h.limits next what n e);
    }

-- ---- runs

module _ (name : List ℕ) (g : Graph) (from : Origin) (o : RunOptions) where
  abbrev parts_for : ℕ
  parts_for = parts_of o.spread g

  -- a run that can't be divided
  why : (x : Option Judged) → IsWhy g o.spread x → IsRefusal (AnswersAsked name g from o) name x
  why None h = tt
  why (Some j) h = subst (λ (f : Option PartFault). AnswersDivided name g from o parts_for f (refused_as name j)) (sym h.1) (ap (refused_as name) h.2)

  pub undivided_asked : (r : Refusal) → Undivides g o.spread r → IsRefusal (AnswersAsked name g from o) name (judged_by r)
  undivided_asked r h = why (judged_by r) h

  -- one that was made
  module _ (workers : List Working) (p : Printed) (can : undivided g parts_for o.spread.how ≡ None) (h : HasRun g from o parts_for workers p)
      (follow : (ks : List Kept) (rest : List Line) (time : ℕ) (left : List Any) → RunsWhole any_kind any_saving any_meaning (course_of g from o) ks rest time left → All IsBytes (map (λ k. k.bytes) ks) → RestartsPrintTheRest g from o) where
    divided : (a : Answer) → AnswersRun g from o parts_for a → AnswersAsked name g from o a
    divided a k = subst (λ (f : Option PartFault). AnswersDivided name g from o parts_for f a) (sym can) k

    closes : (e : End) → HasClosed g from o parts_for workers p e → Closes (AnswersAsked name g from o) (LeavesRun g from o workers) g p e
    closes end.Stopped k = k
    closes (end.Complete time sheets) k = (
      divided (ran p.prefix (kept_by g p) (rest_in [] (cuts_by p)) time (puts_by sheets.items))
          (inl (record {
            ks = kept_by g p;
            rest = rest_in [] (cuts_by p);
            time = time;
            left = k.left;
            reports = k.reports;
            runs = k.runs;
            reported = k.reported;
            is = ap (λ n. ran n (kept_by g p) (rest_in [] (cuts_by p)) time (puts_by sheets.items)) h.prefix ∙ ap (ran o.checkpoint_prefix (kept_by g p) (rest_in [] (cuts_by p)) time) k.puts;
          })),
      λ bytes. record { rest = follow (kept_by g p) (rest_in [] (cuts_by p)) time k.left k.runs bytes; parts = k.leaves },
    )

    pub run_printed : IsPrinted (AnswersAsked name g from o) (LeavesRun g from o workers) p
    run_printed = record {
      graph = g;
      is = h.graph;
      fit = h.fit;
      parts = h.whole;
      closes = λ e. closes p.end (h.closes e);
      limits = λ next what n e.
          divided (limited p.prefix (allowed 0 (kept_by g p)) next.lines what n)
          (inr (record {
            ks = allowed 0 (kept_by g p);
            rest = next.lines;
            what = what;
            number = n;
            runs = h.limits next what n e;
            is = ap (λ x. limited x (allowed 0 (kept_by g p)) next.lines what n) h.prefix;
          }));
    }

-- from the start
pub started_goes : (name text : List ℕ) (g : Graph) (o : RunOptions) → judge text ≡ accepted → g ≡ graph_of text → (a : Answer) → AnswersAsked name g origin.Start o a → AnswersText (plan.Run name o) text a
started_goes name text g o h e a k = as_accepted (plan.Run name o) text h a (subst (λ (x : Graph). AnswersAsked name x origin.Start o a) e k)

pub started_left : (name text : List ℕ) (g : Graph) (o : RunOptions) (workers : List Working) → g ≡ graph_of text → PacketsStayInOrder g (model_of g) → StatisticsTellOrder g o → LeavesRun g origin.Start o workers → LeavesAccepted (plan.Run name o) (graph_of text) workers
started_left name text g o workers e order tells left = subst (λ (x : Graph). LeavesStarted x o workers) e (record { order = order; told = tells; run = left })

-- from a checkpoint
module _ (name bytes : List ℕ) (r : Recalled) (o : RunOptions) (is : IsRecalled bytes r) where
  same_graph : graph_in (reading_of r) ≡ r.graph
  same_graph = sym is.graph

  pub recalled_goes : (a : Answer) → AnswersAsked name r.graph (origin.Saved bytes) o a → AnswersSaved name bytes o a
  recalled_goes a k = inl (record { recalled = reading_of r; recalls = is.recalls; asked = subst (λ (x : Graph). AnswersAsked name x (origin.Saved bytes) o a) (sym same_graph) k })

  pub recalled_left : (workers : List Working) → LeavesRun r.graph (origin.Saved bytes) o workers → LeavesSaved bytes o workers
  recalled_left workers left x k =
      let same : reading_of r ≡ x = (one_thing bytes).one (reading_of r) x is.recalls k in
      subst (λ (y : Graph). LeavesRun y (origin.Saved bytes) o workers) (is.graph ∙ ap graph_in same) left

unrecalled_as : (name bytes : List ℕ) (o : RunOptions) (f : RecallFault) (x : Option Judged) → recall_refuses bytes f → IsSaid (is_recall_memory f) x (unrecalled_by f) → IsRefusal (AnswersSaved name bytes o) name x
unrecalled_as name bytes o f None h s = tt
unrecalled_as name bytes o (recall_fault.Form f) (Some j) h s = inr (record { fault = recall_fault.Form f; refuses = h; is = ap (refused_as name) (sym s.1) })
unrecalled_as name bytes o (recall_fault.State f) (Some j) h s = inr (record { fault = recall_fault.State f; refuses = h; is = ap (refused_as name) (sym s.1) })
unrecalled_as name bytes o recall_fault.NoMemory (Some j) h s = absurd (true≢false s.0)

pub unrecalled_answers : (name bytes : List ℕ) (o : RunOptions) (f : RecallFault) (r : Refusal) → recall_refuses bytes f → UnrecalledBy f r → IsRefusal (AnswersSaved name bytes o) name (judged_by r)
unrecalled_answers name bytes o f r h k = unrecalled_as name bytes o f (judged_by r) h k

-- ---- divisions

why_said : (g : Graph) (s : Spread) (f : PartFault) (x : Option Judged) → (f ≡ part_fault.NoMemory) ⊎ (undivided g (parts_of s g) s.how ≡ Some f) → IsSaid (is_part_memory f) x (undivided_by f) → IsWhy g s x
why_said g s f None h k = tt
why_said g s f (Some j) (inl m) k = absurd (let e : is_part_memory f ≡ true = ap is_part_memory m in true≢false (sym e ∙ k.0))
why_said g s f (Some j) (inr e) k = (f, e, sym k.1)

pub undivides : (g : Graph) (s : Spread) (parts : ℕ) (f : PartFault) (r : Refusal) → parts ≡ parts_of s g → (f ≡ part_fault.NoMemory) ⊎ (undivided g parts s.how ≡ Some f) → UndividedBy f r → Undivides g s r
undivides g s parts f r is h k = why_said g s f (judged_by r) (subst (λ n. (f ≡ part_fault.NoMemory) ⊎ (undivided g n s.how ≡ Some f)) is h) k

pub is_division : (g : Graph) (s : Spread) (parts : ℕ) (d : Division) → parts ≡ parts_of s g → undivided g parts s.how ≡ None → d ≡ record { parts = parts; list = assigned g parts s.how } → length d.list ≡ length g.components → AreBelow d.list d.parts → IsDivision g s d
is_division g s parts d p can is whole below =
    let here : d.parts ≡ parts = ap (λ (x : Division). x.parts) is in
    let some = divided_some g parts s.how can in
    let few = divided_few g parts s.how can in
    record {
      can = ap (λ n. undivided g n s.how) (sym p) ∙ can;
      parts = here ∙ p;
      list = ap (λ (x : Division). x.list) is ∙ ap (λ n. assigned g n s.how) p;
      some = omega (arith, here, some);
      few = omega (arith, here, few);
      whole = whole;
      below = below;
    }

-- the list of a division, by its own number of parts
pub divided_list : (g : Graph) (s : Spread) (d : Division) → IsDivision g s d → d.list ≡ assigned g d.parts s.how
divided_list g s d h = h.list ∙ ap (λ n. assigned g n s.how) (sym h.parts)

-- what was made may run from its start, in the parts of a division
pub made_of : (a : Accepted) → IsRunnable a → IsMade a.graph
made_of a h = record { fit = h.fit; whole = sym (begun_count (wiring_of a.graph) (members_of a.graph) 0 a.graph.components); safe = h.safe }

pub few_of : (a : Accepted) → IsRunnable a → length a.model.elements.items < 2 ^ 32
few_of a h =
    let same : length a.model.elements.items ≡ length a.graph.components = ap (λ (m : Made). length m.elements) h.made ∙ sym (begun_count (wiring_of a.graph) (members_of a.graph) 0 a.graph.components) in
    let few = h.fit.few_components in
    omega (arith, same, few)

pub division_fits : (g : Graph) (from : Origin) (o : RunOptions) (d : Division) → any_accepts g from → AreInRange o → IsDivision g o.spread d → IsFitting any_kind any_meaning (run_of g from o d.parts)
division_fits g from o d accepts range h =
    let is = divided_list g o.spread d h in
    runs_fit g from o d.parts (assigned g d.parts o.spread.how) accepts range (sym (ap (λ (l : List ℕ). length l) is) ∙ h.whole) h.some (subst (λ (l : List ℕ). AreBelow l d.parts) is h.below)

module _ (name : List ℕ) (g : Graph) (parts : ℕ) (how : How) where
  pub listed_division : (list : List ℕ) (texts : List (List ℕ)) → undivided g parts how ≡ None → list ≡ assigned g parts how → texts ≡ division_texts g list → whole texts ≡ division name g parts how
  listed_division list texts n e t =
      ap whole (t ∙ ap (division_texts g) e) ∙ sym (ap (divided_as name (division_texts g (assigned g parts how))) n)

  undivided_said : (f : PartFault) (o : Option Judged) → (f ≡ part_fault.NoMemory) ⊎ (undivided g parts how ≡ Some f) → IsSaid (is_part_memory f) o (undivided_by f) → IsRefusal (λ a. a ≡ division name g parts how) name o
  undivided_said f None h s = tt
  undivided_said f (Some j) (inl m) s = absurd (let e : is_part_memory f ≡ true = ap is_part_memory m in true≢false (sym e ∙ s.0))
  undivided_said f (Some j) (inr r) s = ap (refused_as name) (sym s.1) ∙ sym (ap (divided_as name (division_texts g (assigned g parts how))) r)

  pub refused_division : (f : PartFault) (r : Refusal) → (f ≡ part_fault.NoMemory) ⊎ (undivided g parts how ≡ Some f) → UndividedBy f r → IsRefusal (λ a. a ≡ division name g parts how) name (judged_by r)
  refused_division f r h k = undivided_said f (judged_by r) h k

-- what a division comes to is what an accepted text answers
pub divided_goes : (name text : List ℕ) (g : Graph) (parts : Option ℕ) (how : How) (workers : List Working) (v : Verdict) → judge text ≡ accepted → g ≡ graph_of text → IsDivided name g (unwrap_or parts 1) how v → IsVerdict (AnswersText (plan.Partition name parts how) text) (LeavesAccepted (plan.Partition name parts how) (graph_of text) workers) name v
divided_goes name text g parts how workers v h e k = go v k
  where
    goes : (a : Answer) → a ≡ division name g (unwrap_or parts 1) how → AnswersText (plan.Partition name parts how) text a
    goes a is = as_accepted (plan.Partition name parts how) text h a (is ∙ ap (λ (x : Graph). division name x (unwrap_or parts 1) how) e)

    go : (v : Verdict) → IsDivided name g (unwrap_or parts 1) how v → IsVerdict (AnswersText (plan.Partition name parts how) text) (LeavesAccepted (plan.Partition name parts how) (graph_of text) workers) name v
    go (verdict.Ran p) k = printed_goes _ _ goes _ _ (λ u. tt) p k
    go (verdict.Listed texts) k = (goes _ k.0, tt)
    go (verdict.Refused r) k = refusal_goes _ _ goes name (judged_by r) k
