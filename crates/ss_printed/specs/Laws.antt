-- What cuts hold is what the run prints and puts.
use Rattle.std.specs.Prelude.{◌≡◌, ℕ, ◌⊎◌, List, [], ◌++◌, Option, Some, None}
use Rattle.ss_graph.specs.declared.fault.LimitKind.{LimitKind}
use Rattle.ss_element.specs.Kind.{Kind}
use Rattle.ss_element.specs.Saving.{Saving}
use Rattle.ss_cut.specs.Cut.{AreLines}
use Rattle.ss_run.specs.Meaning.{Meaning}
use Rattle.ss_run.specs.Run.{IsFitting}
use Rattle.ss_join.specs.declared.Ending.{Ending}
use Rattle.ss_join.specs.Cutting.{Given, refused_cuts}
use Rattle.ss_join.specs.Joined.{Ends, Breaks}
use Rattle.ss_course.specs.Course.{Course, beginning, in_parts}
use Rattle.ss_course.specs.Kept.{Kept, RunsWhole, RunsOut}
use Rattle.ss_printed.specs.Printed.{allowed, kept_in, rest_in, stop}

module _ {S L : Type 0} (kind : Kind S L) (saving : Saving S L) (m : Meaning S L) where
  -- how the cuts of a course in so many parts came about: the run ended, or its lead refused a cut
  abbrev pub AreOf : Course → ℕ → List ℕ → List Given → Option Given → Type 0
  AreOf c parts list cuts refused = ((e : Ending) × Ends kind saving m (in_parts c parts list) cuts e × (refused ≡ None)) ⊎ Breaks kind saving m (in_parts c parts list) cuts refused

  pub record PrintsItsCuts (c : Course) (parts : ℕ) (list : List ℕ) : Type 0 where
    -- where no checkpoint passes a limit, all of them and the lines behind them are what the whole run prints and puts
    pub whole : (cuts : List Given) (e : Ending) → Ends kind saving m (in_parts c parts list) cuts e → stop 0 (kept_in c.graph [] cuts) ≡ None →
        (left : List S) × RunsWhole kind saving m c (kept_in c.graph [] cuts) (rest_in [] cuts) e.time left
    -- where one passes a limit, those in front of it are what the run puts that the limit ends
    pub out : (cuts : List Given) (refused : Option Given) (next : Kept) (what : LimitKind) (n : ℕ) → AreOf c parts list cuts refused →
        stop 0 (kept_in c.graph [] (cuts ++ refused_cuts refused)) ≡ Some (next, (what, n)) → RunsOut kind saving m c (allowed 0 (kept_in c.graph [] (cuts ++ refused_cuts refused))) next.lines what n

  -- over wires that are the graph's lines
  abbrev pub CutsArePrinted : Type 0
  CutsArePrinted = (c : Course) (parts : ℕ) (list : List ℕ) → IsFitting kind m (in_parts c parts list) → AreLines c.graph (beginning kind m c).wires → PrintsItsCuts c parts list
