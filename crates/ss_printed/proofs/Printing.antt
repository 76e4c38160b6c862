-- What cuts hold is what the run prints and puts.
use Rattle.std.proofs.Common.{◌≡◌, ℕ, ◌⊎◌, inl, inr, List, [], ◌++◌, Option, Some, None, refl, sym, ap, ◌∙◌, subst, append-nil}
use Rattle.ss_model.specs.End.{Outcome}
use Rattle.ss_element.specs.Kind.{Kind}
use Rattle.ss_element.specs.Saving.{Saving}
use Rattle.ss_graph.specs.declared.fault.LimitKind.{LimitKind}
use Rattle.ss_cut.specs.Cut.{AreLines}
use Rattle.ss_run.specs.Meaning.{Meaning}
use Rattle.ss_run.specs.Run.{IsFitting}
use Rattle.ss_join.specs.declared.Ending.{Ending}
use Rattle.ss_join.specs.Cutting.{Given, refused_cuts}
use Rattle.ss_join.specs.Checkpoints.{AreCuts, AreEarlier, IsCheckpoint, StandsIn}
use Rattle.ss_join.specs.Joined.{Ends}
use Rattle.ss_course.specs.Course.{Course, beginning, in_parts, IsOutcome, state_after}
use Rattle.ss_course.specs.Kept.{Kept, start_mark, RunsWhole, RunsOut, AreKept}
use Rattle.ss_printed.specs.Printed.{allowed, kept_in, rest_in, stop}
use Rattle.ss_printed.specs.Laws.{AreOf, PrintsItsCuts, CutsArePrinted}
use Rattle.ss_printed.proofs.Following.{AllDone, all_cuts, all_above}
use Rattle.ss_printed.proofs.Allowing.{Covered, AreAllowed, all_allowed}
use Rattle.ss_printed.proofs.Covering.{stands_covered, earlier_covered}

module _ {S L : Type 0} (kind : Kind S L) (saving : Saving S L) (m : Meaning S L) (c : Course) (parts : ℕ) (list : List ℕ) (fit : IsFitting kind m (in_parts c parts list)) (wired : AreLines c.graph (beginning kind m c).wires) where
  -- the cuts of a run from its beginning
  module _ (o : Outcome) (cs : List Given) (cuts : AreCuts kind saving m (in_parts c parts list) o [] cs) where
    done : AllDone kind saving m c o parts list wired (start_mark kind saving m c) [] [] cs
    done = all_cuts kind saving m c o parts list wired (start_mark kind saving m c) [] [] cs refl cuts (all_above kind saving m c o parts list wired (beginning kind m c).time [] cs fit.origin cuts)

    allows : (Q : Type 0) → ((u : ℕ) → IsCheckpoint kind m (in_parts c parts list) o u → Covered Q 1025 (kept_in c.graph [] cs) u) →
        AreAllowed kind saving m c o Q (start_mark kind saving m c) (kept_in c.graph [] cs) (allowed 0 (kept_in c.graph [] cs)) (stop 0 (kept_in c.graph [] cs))
    allows Q covered = all_allowed kind saving m c o Q 1024 (start_mark kind saving m c) (kept_in c.graph [] cs) refl done.follow
        (λ u n lt due. covered u (record { asked = due.asked; below = due.below; steps = n; until = due.until; some = due.some }))

    runs_out : (next : Kept) (what : LimitKind) (n : ℕ) → IsOutcome kind m c o → ((u : ℕ) → IsCheckpoint kind m (in_parts c parts list) o u → StandsIn kind m (in_parts c parts list) cs u ⊎ AreEarlier cs u) →
        stop 0 (kept_in c.graph [] cs) ≡ Some (next, (what, n)) → RunsOut kind saving m c (allowed 0 (kept_in c.graph [] cs)) next.lines what n
    runs_out next what n ran complete some =
        let a = allows (Unit {0}) (λ u y. elim (complete u y) [
          | inl s ↦ stands_covered kind saving m (in_parts c parts list) o (Unit {0}) c.graph cs u cuts s
          | inr h ↦ earlier_covered (Unit {0}) c.graph cs u tt h
        ]) in
        let b = a.stops next what n some in
        record { outcome = o; is = ran; kept = a.kept; next = next; comes = b.0; passes = b.1; rest = refl }

  runs_whole : (cuts : List Given) (e : Ending) → Ends kind saving m (in_parts c parts list) cuts e → stop 0 (kept_in c.graph [] cuts) ≡ None →
      (left : List S) × RunsWhole kind saving m c (kept_in c.graph [] cuts) (rest_in [] cuts) e.time left
  runs_whole cuts e ends none =
      let o = ends.outcome in
      let ks = kept_in c.graph [] cuts in
      let a = allows o cuts ends.saves ⊥ (λ u y. stands_covered kind saving m (in_parts c parts list) o ⊥ c.graph cuts u ends.saves (ends.all_saves u y)) in
      let end = done o cuts ends.saves in (
        (state_after kind m c o.steps).components,
        record {
          outcome = o;
          is = ends.is;
          kept = subst (AreKept kind saving m c o (start_mark kind saving m c)) (a.whole none) a.kept;
          none = a.none none (λ h. h);
          lines = end.lines ∙ ends.lines;
          time = ends.time;
          left = refl;
        },
      )

  out_of : (cuts : List Given) (refused : Option Given) (next : Kept) (what : LimitKind) (n : ℕ) → AreOf kind saving m c parts list cuts refused →
      stop 0 (kept_in c.graph [] (cuts ++ refused_cuts refused)) ≡ Some (next, (what, n)) → RunsOut kind saving m c (allowed 0 (kept_in c.graph [] (cuts ++ refused_cuts refused))) next.lines what n
  out_of cuts refused next what n (inl (e, ends, none)) some =
      let same : cuts ≡ cuts ++ refused_cuts refused = sym (append-nil cuts) ∙ ap (λ x. cuts ++ refused_cuts x) (sym none) in
      runs_out ends.outcome (cuts ++ refused_cuts refused) (subst (AreCuts kind saving m (in_parts c parts list) ends.outcome []) same ends.saves) next what n ends.is
      (λ u y. inl (subst (λ cs. StandsIn kind m (in_parts c parts list) cs u) same (ends.all_saves u y))) some
  out_of cuts refused next what n (inr breaks) some = runs_out breaks.outcome (cuts ++ refused_cuts refused) breaks.saves next what n breaks.is breaks.first_saves some

  prints : PrintsItsCuts kind saving m c parts list
  prints = record { whole = runs_whole; out = out_of }

pub cuts_are_printed : {S L : Type 0} (kind : Kind S L) (saving : Saving S L) (m : Meaning S L) → CutsArePrinted kind saving m
cuts_are_printed kind saving m = λ c parts list fit wired. prints kind saving m c parts list fit wired
