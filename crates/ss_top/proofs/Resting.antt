-- Whoever restarts from a run's checkpoint gets the rest of the run.
use Rattle.std.proofs.Common.{◌≡◌, ℕ, suc, ◌<◌, ◌≤◌, ◌⊎◌, inl, inr, List, [], ◌∷◌, ◌++◌, map, length, max, nat_lt, Bool, true, false, Option, Some, None, refl, sym, ap, ◌∙◌, subst, arith}
use Rattle.std.specs.List.{All}
use Rattle.ss_wire.specs.Wire.{IsBytes}
use Rattle.ss_model.specs.declared.Line.{Line}
use Rattle.ss_model.specs.Step.{State}
use Rattle.ss_element.specs.Kind.{behaviour}
use Rattle.ss_graph.specs.declared.graph.Graph.{Graph}
use Rattle.ss_graph.specs.Judge.{graph_of}
use Rattle.mr_flow.specs.declared.Load.{Load}
use Rattle.ss_part.specs.declared.PartFault.{PartFault}
use Rattle.ss_part.specs.Assigned.{refusal as undivided}
use Rattle.ss_library.specs.declared.kinds.Any.{Any}
use Rattle.ss_library.specs.Kinds.{any_kind, any_allowed, any_safe}
use Rattle.ss_library.specs.Laws.{any_laws, any_saves}
use Rattle.ss_library.specs.Make.{model_of}
use Rattle.ss_library.specs.Meaning.{IsMade, any_accepts, any_meaning}
use Rattle.ss_library.specs.Opens.{any_opens}
use Rattle.ss_library.specs.Saved.{any_saving}
use Rattle.ss_library.proofs.Judged.{can_be_judged, may_resume}
use Rattle.ss_run.specs.declared.Origin.{Origin}
use Rattle.ss_run.specs.declared.Origin.TheVariants as origin
use Rattle.ss_run.specs.Meaning.{Opening}
use Rattle.ss_course.specs.Course.{Course, beginning, limits}
use Rattle.ss_course.specs.Kept.{Kept, Mark, mark_after, start_mark, passed, most_bytes, AreKept, RunsWhole}
use Rattle.ss_course.specs.Laws as course
use Rattle.ss_course.specs.Laws.{CanBeSaved, CanGoOn, GoesOnFrom, PrintsTheRest, Reopens, RestFollows}
use Rattle.ss_ckpt.specs.Spells.{Spells}
use Rattle.ss_safe.specs.Sound.{Sound}
use Rattle.ss_course.proofs.OneWay.{one_way}
use Rattle.ss_course.proofs.Restarted.{restarts_print}
use Rattle.ss_recall.specs.Recall.{IsAccepted, Reading, graph_in}
use Rattle.ss_recall.specs.Laws.{GoOn, spelled_as}
use Rattle.ss_recall.proofs.Laws.{one_thing}
use Rattle.ss_recall.proofs.Spelled.{spelled_goes_on}
use Rattle.ss_cmd.specs.declared.RunOptions.{RunOptions}
use Rattle.ss_cmd.specs.declared.Plan.TheVariants as plan
use Rattle.ss_cmd.specs.Grammar.{AreInRange}
use Rattle.ss_top.specs.Asked.{course_of}
use Rattle.ss_top.specs.Judge.{stop_by}
use Rattle.ss_top.specs.Spreading.{parts_of}
use Rattle.ss_top.specs.Answer.{Answer, AnswersAsked, AnswersBytes, AnswersDivided, AnswersSaved, AnswersSized, ran, sheets, stats_text}
use Rattle.ss_top.specs.Rest.{AsksAlike, Remains, PrintsRest, IsUndivided, IsOverLimit, IsGoneOnFrom, RestartsPrintTheRest}
use Rattle.ss_top.proofs.Fitting.{alone, alone_fits, bound_within}

-- ---- checkpoints of a run

pub bytes_at : (front back : List (List ℕ)) (b : List ℕ) → All IsBytes (front ++ b ∷ back) → IsBytes b
bytes_at [] back b h = h 0 [] (omega arith)
bytes_at (x ∷ front) back b h = bytes_at front back b (λ k d l. h (suc k) d (omega (arith, l)))

map_split : (front back : List Kept) (k : Kept) → map (λ x. x.bytes) (front ++ k ∷ back) ≡ map (λ x. x.bytes) front ++ k.bytes ∷ map (λ x. x.bytes) back
map_split [] back k = refl
map_split (x ∷ front) back k = ap (λ l. x.bytes ∷ l) (map_split front back k)

small_by : (count size : ℕ) (b : Bool) → nat_lt most_bytes size ≡ b → passed count size ≡ None → nat_lt 1073741824 size ≡ false
small_by count size false e h = e
small_by count size true e h = absurd (let s = h in cc)

kept_small : (c : Course) (o : _) (at : Mark) (front : List Kept) (k : Kept) (back : List Kept) → AreKept any_kind any_saving any_meaning c o at (front ++ k ∷ back) → nat_lt 1073741824 (length k.bytes) ≡ false
kept_small c o at [] k back h = small_by at.count (length k.bytes) (nat_lt most_bytes (length k.bytes)) refl h.1
kept_small c o at (x ∷ front) k back h = kept_small c o (mark_after at x) front k back h.2

kept_before : (c : Course) (o : _) (at : Mark) (front : List Kept) (k : Kept) (back : List Kept) → AreKept any_kind any_saving any_meaning c o at (front ++ k ∷ back) → (at.time < k.time) × (k.time < o.bound)
kept_before c o at [] k back h = (h.0.later, h.0.due.below)
kept_before c o at (x ∷ front) k back h =
    let r = kept_before c o (mark_after at x) front k back h.2 in
    let l = h.0.later in
    (omega (arith, l, r.0), r.1)

-- where a run was before its stop time, a stop time before that counts no more
later_stop : (t u s : ℕ) → t < u → u < max t s → max u s ≡ max t s
later_stop t u s h k = grind (arith, h, k)

end_is : (a b : ℕ) → max (max a b) a ≡ max a b
end_is a b = grind arith

module _ (g : Graph) (from : Origin) (o : RunOptions) (accepts : any_accepts g from) (range : AreInRange o) (made : IsMade g) (text : IsAccepted g.text) (is : graph_of g.text ≡ g) (short : length g.text ≤ 67108864) where
  abbrev c : Course
  c = course_of g from o

  can_be_saved : CanBeSaved any_kind any_saving any_meaning any_safe g
  can_be_saved = record { text = short; numbered = (can_be_judged g made).numbered; safe = made.safe; saved = λ bytes a. a.1 }

  reopens : Reopens any_kind any_saving any_meaning g
  reopens bytes at s are sp = let m = may_resume g bytes at s made are sp in (m.opens, m.accepted)

  module _ (front : List Kept) (k : Kept) (more : Remains) (runs : RunsWhole any_kind any_saving any_meaning c (front ++ k ∷ more.back) more.rest more.time more.left) (are : IsBytes k.bytes) where
    follows : RestFollows any_kind any_saving any_meaning c front k more.back more.rest more.time more.left
    follows =
        restarts_print any_kind any_allowed any_saving any_laws any_saves any_meaning any_safe (λ w now s. (λ safe. safe, λ safe. safe)) any_opens
        c 1 (alone g) front k more.back more.rest more.time more.left (alone_fits g from o accepts range) can_be_saved reopens runs are

    abbrev state : State Any Load
    state = follows.can.state

    goes_on : GoOn g.text k.bytes k.time state
    goes_on =
        let sp = follows.can.spelled in
        let so = follows.can.sound in
        spelled_goes_on g.text k.bytes k.time state
        (subst (λ (x : Graph). Spells any_saving (model_of x).wires (model_of x).elements k.bytes g.text k.time state) (sym is) sp) text are (subst (λ (x : Graph). Sound any_kind (model_of x).wires k.time state) (sym is) so)

    abbrev reading : Reading
    reading = spelled_as g.text k.time state

    small : nat_lt 1073741824 (length k.bytes) ≡ false
    small = kept_small c runs.outcome (start_mark any_kind any_saving any_meaning c) front k more.back runs.kept

    module _ (later : RunOptions) (range' : AreInRange later) (same : later.stop_at ≡ o.stop_at) where
      abbrev again : Course
      again = course_of g (origin.Saved k.bytes) later

      stops : again.cuts.stop ≡ c.cuts.stop
      stops =
          let before = kept_before c runs.outcome (start_mark any_kind any_saving any_meaning c) front k more.back runs.kept in
          let within : runs.outcome.bound ≤ max (max (beginning any_kind any_meaning c).time (stop_by o.stop_at g.options.stop_at)) (beginning any_kind any_meaning c).time = bound_within (behaviour any_kind) (beginning any_kind any_meaning c).wires (limits any_kind any_meaning c) (beginning any_kind any_meaning c).state runs.outcome.agreed runs.outcome.bound runs.is.bound in
          let e = end_is (beginning any_kind any_meaning c).time (stop_by o.stop_at g.options.stop_at) in
          let b0 = before.0 in
          let b1 = before.1 in
          ap (λ (x : Opening Any Load). max x.time (stop_by later.stop_at g.options.stop_at)) follows.can.opens
          ∙ ap (λ (x : Option ℕ). max k.time (stop_by x g.options.stop_at)) same
          ∙ later_stop (beginning any_kind any_meaning c).time k.time (stop_by o.stop_at g.options.stop_at) b0 (omega (arith, b1, within, e))

      goes_from : GoesOnFrom c again k
      goes_from = record { graph = refl; from = refl; stop = stops; origin = ap (λ (x : Opening Any Load). x.time) follows.can.opens }

      prints : PrintsTheRest any_kind any_saving any_meaning c again more.back more.rest more.time more.left
      prints = follows.prints again 1 (alone g) goes_from (alone_fits g (origin.Saved k.bytes) later follows.can.accepted range')

      alike : AsksAlike o later → course.AsksAlike c again
      alike h = record { save_at = h.at; save_every = h.period }

      abbrev Ends : List ℕ → Answer → Type 0
      Ends name a = PrintsRest g o later more a ⊎ (IsUndivided g o later more name a ⊎ IsOverLimit g o later more a)

      divided : (name : List ℕ) (parts : ℕ) (f : Option PartFault) (a : Answer) → parts ≡ parts_of later.spread g → undivided g parts later.spread.how ≡ f → AnswersDivided name g (origin.Saved k.bytes) later parts f a → Ends name a
      divided name parts None a p e (inl w) =
          let t : w.time ≡ more.time = prints.time w.ks w.rest w.time w.left w.runs in
          let l : w.left ≡ more.left = prints.left w.ks w.rest w.time w.left w.runs in
          inl (record {
            ks = w.ks;
            last = w.rest;
            reports = w.reports;
            is = w.is ∙ ap (λ u. ran later.checkpoint_prefix w.ks w.rest u (sheets later.stats (stats_text g w.left) ++ w.reports)) t ∙ ap (λ (xs : List Any). ran later.checkpoint_prefix w.ks w.rest more.time (sheets later.stats (stats_text g xs) ++ w.reports)) l;
            lines = prints.lines w.ks w.rest w.time w.left w.runs;
            kept = λ h. prints.kept (alike h) w.ks w.rest w.time w.left w.runs;
          })
      divided name parts None a p e (inr w) =
          inr (inr (record { status = ap (λ (x : Answer). x.status) w.is; other = λ h. prints.unlimited (alike h) w.ks w.rest w.what w.number w.runs }))
      divided name parts (Some f) a p e h =
          inr (inl (record { fault = f; why = subst (λ n. undivided g n later.spread.how ≡ Some f) p e; is = h }))

      asked : (name : List ℕ) (x : Reading) (a : Answer) → x ≡ reading → AnswersAsked name (graph_in x) (origin.Saved k.bytes) later a → Ends name a
      asked name x a e h =
          divided name (parts_of later.spread g) (undivided g (parts_of later.spread g) later.spread.how) a refl refl
          (subst (λ (y : Graph). AnswersAsked name y (origin.Saved k.bytes) later a) (ap graph_in e ∙ is) h)

      saved : (name : List ℕ) (a : Answer) → AnswersSaved name k.bytes later a → Ends name a
      saved name a (inl h) = asked name h.recalled a ((one_thing k.bytes).one h.recalled reading h.recalls goes_on.recalls) h.asked
      saved name a (inr h) = absurd ((one_thing k.bytes).either reading h.fault goes_on.recalls h.refuses)

      pub restarted : (name : List ℕ) (a : Answer) → AnswersBytes (plan.Restart name later) k.bytes a → Ends name a
      restarted name a h = saved name a (subst (λ (b : Bool). AnswersSized (plan.Restart name later) k.bytes b a) small h)

    pub gone_on : IsGoneOnFrom g o k more
    gone_on = record {
      recalled = reading;
      recalls = goes_on.recalls;
      graph = is;
      answers = λ name later a range' same h. restarted later range' same name a h;
    }

  pub restarts_follow : (ks : List Kept) (rest : List Line) (time : ℕ) (left : List Any) → RunsWhole any_kind any_saving any_meaning c ks rest time left → All IsBytes (map (λ k. k.bytes) ks) → RestartsPrintTheRest g from o
  restarts_follow ks rest time left runs bytes = record {
    each = λ front k more h.
        let same : ks ≡ front ++ k ∷ more.back = ((one_way any_kind any_saving any_meaning c).whole ks (front ++ k ∷ more.back) rest more.rest time more.time left more.left runs h).0 in
        gone_on front k more h (bytes_at (map (λ x. x.bytes) front) (map (λ x. x.bytes) more.back) k.bytes (subst (λ (l : List (List ℕ)). All IsBytes l) (ap (map (λ (x : Kept). x.bytes)) same ∙ map_split front more.back k) bytes));
  }
