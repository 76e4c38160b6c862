-- From a run of the plain engine to what it prints, puts and leaves.
use Rattle.std.proofs.Common.{◌≡◌, ℕ, inl, inr, List, [], ◌∷◌, Option, Some, None, refl, sym, ap, ◌∙◌, subst, arith, append-nil}
use Rattle.std.specs.declared.alloc.Global.{Global}
use Rattle.std.specs.declared.vec.Vec.{Vec}
use Rattle.ss_model.specs.declared.Line.{Line}
use Rattle.ss_graph.specs.declared.graph.Graph.{Graph}
use Rattle.ss_graph.specs.declared.fault.LimitKind.{LimitKind}
use Rattle.ss_graph.specs.Fit.{IsFit}
use Rattle.ss_window.specs.declared.Cuts.{Cuts}
use Rattle.ss_window.specs.Cuts.{IsNamed}
use Rattle.ss_window.specs.Least.{IsIn, OnPeriod}
use Rattle.ss_library.specs.declared.kinds.Any.{Any}
use Rattle.ss_library.specs.Kinds.{any_kind}
use Rattle.ss_library.specs.Make.{Made, model_of}
use Rattle.ss_library.specs.Meaning.{any_meaning}
use Rattle.ss_library.specs.Saved.{any_saving}
use Rattle.ss_cmd.specs.declared.RunOptions.{RunOptions}
use Rattle.ss_run.specs.declared.Origin.TheVariants as origin
use Rattle.ss_run.specs.declared.RunSpec.{RunSpec}
use Rattle.ss_join.specs.Cutting.{Given}
use Rattle.ss_course.specs.Course.{limits}
use Rattle.ss_course.specs.Kept.{Kept, RunsWhole}
use Rattle.ss_printed.specs.Printed.{kept_in, rest_in, stop}
use Rattle.ss_top.specs.declared.printed.End.{End}
use Rattle.ss_top.specs.declared.printed.End.TheVariants as end
use Rattle.ss_top.specs.declared.printed.Printed.{Printed}
use Rattle.ss_top.specs.declared.sheets.Sheet.{Sheet}
use Rattle.ss_top.specs.Answer.{sheets as sheets_of, stats_text}
use Rattle.ss_top.specs.Asked.{course_of, run_of}
use Rattle.ss_top.specs.Doing.{AreWhole}
use Rattle.ss_top.specs.Left.{Working}
use Rattle.ss_top.specs.Plain.{IsPlain, Runs}
use Rattle.ss_top.specs.Report.{Reports}
use Rattle.ss_top.specs.Simulate.{Completes, HasClosed, HasRun, cuts_by, puts_by}

-- a model was run as it is asked for
module _ (spec : RunSpec) (o : RunOptions) (ls : List Line) (told : ℕ) (finals : List Any) where
  pub as_asked : (m : Made) → spec ≡ run_of spec.graph origin.Start o spec.partition.parts → m ≡ model_of spec.graph → Runs m (record { origin = 0; stop = spec.cuts.stop; exit = spec.graph.options.exit_period }) ls told finals →
      Runs (model_of spec.graph) (limits any_kind any_meaning (course_of spec.graph origin.Start o)) ls told finals
  as_asked m asked made h =
      subst (λ n. Runs (model_of spec.graph) (record { origin = 0; stop = n; exit = spec.graph.options.exit_period }) ls told finals) (ap (λ (r : RunSpec). r.cuts.stop) asked)
      (subst (λ (x : Made). Runs x (record { origin = 0; stop = spec.cuts.stop; exit = spec.graph.options.exit_period }) ls told finals) made h)

-- where no checkpoint is asked for no time is named for one
unnamed : (c : Cuts) (t : ℕ) → c.save_at ≡ None → c.save_every ≡ None → IsNamed c t → ⊥
unnamed c t at period (inl h) = subst (λ (x : Option ℕ). IsIn x t) at h
unnamed c t at period (inr h) = subst (λ (x : Option ℕ). OnPeriod x t) period h

-- lines as one cut
abbrev pub alone_in : List Line → List Given
alone_in ls = record { lines = ls; saves = []; pieces = [] } ∷ []

module _ (g : Graph) (o : RunOptions) (parts : ℕ) (plain : IsPlain o parts) (ls : List Line) (told : ℕ) (finals : List Any) where
  whole : Runs (model_of g) (limits any_kind any_meaning (course_of g origin.Start o)) ls told finals → RunsWhole any_kind any_saving any_meaning (course_of g origin.Start o) (kept_in g [] (alone_in ls)) (rest_in [] (alone_in ls)) told finals
  whole h = record {
    outcome = h.outcome;
    is = h.is;
    kept = tt;
    none = λ u n later due. unnamed (course_of g origin.Start o).cuts u plain.at plain.period due.asked.0;
    lines = h.lines;
    time = h.time;
    left = h.left;
  }

  module _ (workers : List Working) (p : Printed) (are : cuts_by p ≡ alone_in ls) (h : Runs (model_of g) (limits any_kind any_meaning (course_of g origin.Start o)) ls told finals) where
    completes : (sheets : List Sheet) → puts_by sheets ≡ sheets_of o.stats (stats_text g finals) → Completes g origin.Start o parts workers p told sheets
    completes sheets put = record {
      left = finals;
      reports = [];
      runs = subst (λ (cs : List Given). RunsWhole any_kind any_saving any_meaning (course_of g origin.Start o) (kept_in g [] cs) (rest_in [] cs) told finals) (sym are) (whole h);
      reported = subst (λ (n : Option (List ℕ)). Reports (run_of g origin.Start o parts) n []) (sym plain.unreported) refl;
      puts = put ∙ sym (append-nil (sheets_of o.stats (stats_text g finals)));
      leaves = λ two. let one = plain.one in absurd (omega arith);
    }

    unstopped : (next : Kept) (what : LimitKind) (n : ℕ) → stop 0 (kept_in g [] (cuts_by p)) ≡ Some (next, (what, n)) → ⊥
    unstopped next what n e = let f = sym (ap (λ (cs : List Given). stop 0 (kept_in g [] cs)) are) ∙ e in cc

    pub has_run_plainly : (sheets : Vec Sheet Global) → p.end ≡ end.Complete told sheets → puts_by sheets.items ≡ sheets_of o.stats (stats_text g finals) → p.run.value.graph ≡ g → p.prefix ≡ o.checkpoint_prefix → IsFit g → HasRun g origin.Start o parts workers p
    has_run_plainly sheets is put graph prefix fit = record {
      graph = graph;
      prefix = prefix;
      fit = fit;
      whole = subst (λ (cs : List Given). AreWhole cs) (sym are) (λ t there. let none = there.1 in absurd (omega arith), tt);
      closes = λ none. subst (λ (e : End). HasClosed g origin.Start o parts workers p e) (sym is) (completes sheets.items put);
      limits = λ next what n e. absurd (unstopped next what n e);
    }
