-- From a run in parts to what the one list's run prints, puts and leaves.
use Rattle.std.proofs.Common.{◌≡◌, ℕ, suc, ◌+◌, ◌<◌, ◌≤◌, inl, inr, List, [], ◌∷◌, ◌++◌, length, max, nat_lt, Bool, true, false, cond, Option, Some, None, Ok, Err, refl, sym, ap, ◌∙◌, subst, arith, append-nil, length-append}
use Rattle.std.specs.List.{list_any}
use Rattle.std.proofs.lemmas.Bool.Decides.{nat_tests}
use Rattle.std.proofs.lemmas.List.Sums.{sum_by-cons}
use Rattle.ss_model.specs.declared.Line.{Line}
use Rattle.ss_model.specs.Wiring.{Wiring}
use Rattle.ss_model.specs.End.{Outcome, ended}
use Rattle.ss_model.proofs.Ends.{run_one}
use Rattle.ss_element.specs.Kind.{behaviour}
use Rattle.ss_graph.specs.declared.graph.Graph.{Graph}
use Rattle.ss_graph.specs.declared.fault.LimitKind.{LimitKind}
use Rattle.ss_graph.specs.Fit.{IsFit}
use Rattle.ss_parts.specs.Division.{IsCutBy}
use Rattle.ss_parts.proofs.Windows.{keeps_bounds}
use Rattle.mr_flow.specs.declared.Load.{Load}
use Rattle.ss_library.specs.declared.kinds.Any.{Any}
use Rattle.ss_library.specs.Kinds.{any_kind, any_safe}
use Rattle.ss_library.specs.Laws.{any_world}
use Rattle.ss_library.specs.Make.{model_of}
use Rattle.ss_library.specs.Meaning.{any_accepts, any_meaning, any_opening}
use Rattle.ss_library.specs.Opens.{any_opens}
use Rattle.ss_library.specs.Saved.{any_saving}
use Rattle.ss_library.proofs.Lines.{lines_count}
use Rattle.ss_origin.specs.Openings.{opened}
use Rattle.ss_cmd.specs.declared.RunOptions.{RunOptions}
use Rattle.ss_piece.specs.Pieces.{Slip}
use Rattle.ss_cut.specs.Cut.{AreLines}
use Rattle.ss_run.specs.declared.Origin.{Origin}
use Rattle.ss_run.specs.declared.Origin.TheVariants as origin
use Rattle.ss_run.specs.declared.RunSpec.{RunSpec}
use Rattle.ss_run.specs.Run.{IsFitting, division, wires_of, start_of, limits}
use Rattle.ss_join.specs.declared.Ending.{Ending}
use Rattle.ss_join.specs.Cutting.{Given, refused_cuts}
use Rattle.ss_join.specs.Checkpoints.{AreCuts}
use Rattle.ss_join.specs.Joined.{IsOutcome}
use Rattle.ss_course.specs.Kept.{Kept, passed, most_bytes, most_kept, RunsWhole, RunsOut}
use Rattle.ss_printed.specs.Printed.{allowed, kept_at, kept_in, left_over, rest_in, stop, stop_by}
use Rattle.ss_printed.specs.Laws.{AreOf, PrintsItsCuts}
use Rattle.ss_printed.proofs.Printing.{cuts_are_printed}
use Rattle.ss_top.specs.declared.printed.End.{End}
use Rattle.ss_top.specs.declared.printed.End.TheVariants as end
use Rattle.ss_top.specs.declared.printed.Printed.{Printed}
use Rattle.ss_top.specs.declared.sheets.Sheet.{Sheet}
use Rattle.ss_top.specs.Answer.{sheets as sheets_of, stats_text}
use Rattle.ss_top.specs.Asked.{course_of, run_of}
use Rattle.ss_top.specs.Dividing.{AreSheets, HasEnded, IsEndOf, saves_of}
use Rattle.ss_top.specs.Doing.{AreWhole}
use Rattle.ss_top.specs.Left.{Working, AreWorkers}
use Rattle.ss_top.specs.Report.{Has, IsReport, Reports}
use Rattle.ss_top.specs.Simulate.{HasClosed, HasRun, cuts_by, kept_by, stop_of, puts_by}
use Rattle.ss_top.proofs.Running.{may}

greater : (a b : ℕ) → b ≤ a → a ≡ max a b
greater a b h = grind arith

module _ (r : RunSpec) (f : IsFitting any_kind any_meaning r) where
  cut_by : IsCutBy (limits any_meaning r) r.cuts (list_any any_kind.primary (start_of any_meaning r).components)
  cut_by = record { origin = f.origin; stop = greater r.cuts.stop (limits any_meaning r).origin f.stop_from; exit = f.exit }

  -- the last window leaves the components of the list's run
  pub ends_are : (o : Outcome) → IsOutcome any_kind any_meaning r o → (windows : ℕ) (n : Has r windows) → n.last.whole.state ≡ (ended (behaviour any_kind) (wires_of any_meaning r) (start_of any_meaning r) o).components
  ends_are o is windows n =
      let kept = keeps_bounds any_kind any_safe any_world (wires_of any_meaning r) (division r) (start_of any_meaning r) (may r f) (limits any_meaning r) o.agreed o.bound cut_by is.bound in
      let c = kept.comes windows n in
      let p : Outcome = record { steps = c.0; bound = o.bound; agreed = o.agreed } in
      let run : IsOutcome any_kind any_meaning r p = record { bound = is.bound; until = c.1 } in
      let same : p ≡ o = run_one (behaviour any_kind) (wires_of any_meaning r) (limits any_meaning r) (start_of any_meaning r) p o run is in
      ap (λ w. w.state) c.2 ∙ ap (λ (q : Outcome). (ended (behaviour any_kind) (wires_of any_meaning r) (start_of any_meaning r) q).components) same

-- ---- what is put

module _ (r : RunSpec) (o : RunOptions) (windows : ℕ) (has : Has r windows) (before sheets : List Sheet) (put : puts_by before ≡ sheets_of o.stats (stats_text r.graph has.last.whole.state)) where
  pub sheets_unreported : o.sync_report ≡ None → sheets ≡ before → AreSheets r o sheets
  sheets_unreported e s = record {
    windows = windows;
    has = has;
    reports = [];
    reported = subst (λ (n : Option (List ℕ)). Reports r n []) (sym e) refl;
    puts = ap puts_by s ∙ put ∙ sym (append-nil (sheets_of o.stats (stats_text r.graph has.last.whole.state)));
  }

  pub sheets_reported : (name text : List ℕ) → o.sync_report ≡ Some name → IsReport r text → puts_by sheets ≡ puts_by before ++ (name, text) ∷ [] → AreSheets r o sheets
  sheets_reported name text e t s = record {
    windows = windows;
    has = has;
    reports = (name, text) ∷ [];
    reported = subst (λ (n : Option (List ℕ)). Reports r n ((name, text) ∷ [])) (sym e) (text, t, refl);
    puts = s ∙ ap (λ ps. ps ++ (name, text) ∷ []) put;
  }

-- ---- lines

opened_wires : (w : Wiring) (x : _) → (opened {S = Any} {L = Load} w x).wires ≡ w
opened_wires w (Ok x) = refl
opened_wires w (Err e) = refl

opening_wires : (g : Graph) (from : Origin) → (any_opening g from).wires ≡ (model_of g).wires
opening_wires g origin.Start = refl
opening_wires g (origin.Saved bytes) = opened_wires (model_of g).wires _

pub lines_are : (g : Graph) (from : Origin) → any_accepts g from → AreLines g (any_opening g from).wires
lines_are g from a = record {
  count = ap (λ (w : Wiring). length w.links) (opening_wires g from) ∙ lines_count g.components g.links;
  receivers = λ n l h. ((any_opens g from a).lines n l h).receiver;
}

-- ---- limits

-- a checkpoint that passes no limit has less than the most before it
under_both : (a b : Bool) (x y : LimitKind × ℕ) → cond a (Some x) (cond b None (Some y)) ≡ None → b ≡ true
under_both true b x y e = cc
under_both false true x y e = refl
under_both false false x y e = cc

counted : (count size : ℕ) → passed count size ≡ None → suc count ≤ most_kept
counted count size e = let t = under_both (nat_lt most_bytes size) (nat_lt count most_kept) _ _ e in grind (arith, nat_tests)

goes_on : (o : Option (LimitKind × ℕ)) (k : Kept) (rest : Option (Kept × (LimitKind × ℕ))) → stop_by o k rest ≡ None → (o ≡ None) × (rest ≡ None)
goes_on None k rest e = (refl, e)
goes_on (Some l) k rest e = cc

within : (count : ℕ) (ks : List Kept) → count ≤ most_kept → stop count ks ≡ None → count + length ks ≤ most_kept
within count [] h e = omega (arith, h)
within count (k ∷ ks) h e =
    let a = goes_on (passed count (length k.bytes)) k (stop (suc count) ks) e in
    let r = within (suc count) ks (counted count (length k.bytes) a.0) a.1 in
    omega (arith, r)

kept_length : (g : Graph) (ps : List Slip) (carried : List Line) (ts : List ℕ) → length (kept_at g ps carried ts) ≡ length ts
kept_length g ps carried [] = refl
kept_length g ps carried (t ∷ ts) = ap suc (kept_length g ps [] ts)

kept_count : (g : Graph) (carried : List Line) (cuts : List Given) → length (kept_in g carried cuts) ≡ saves_of cuts
kept_count g carried [] = refl
kept_count g carried (c ∷ cs) =
    length-append (kept_at g c.pieces (carried ++ c.lines) c.saves) (kept_in g (left_over (carried ++ c.lines) c.saves) cs)
    ∙ ap (λ n. n + length (kept_in g (left_over (carried ++ c.lines) c.saves) cs)) (kept_length g c.pieces (carried ++ c.lines) c.saves)
    ∙ ap (λ n. length c.saves + n) (kept_count g (left_over (carried ++ c.lines) c.saves) cs)
    ∙ sym (sum_by-cons (λ (x : Given). length x.saves) c cs)

pub too_many : (g : Graph) (cuts : List Given) → most_kept < saves_of cuts → stop 0 (kept_in g [] cuts) ≡ None → ⊥
too_many g cuts many e =
    let few = within 0 (kept_in g [] cuts) (omega arith) e in
    let count = kept_count g [] cuts in
    omega (arith, few, count, many)

-- ---- pieces

cuts_whole : (r : RunSpec) (o : Outcome) (before : List Line) (cs : List Given) → AreLines r.graph (wires_of any_meaning r) → AreCuts any_kind any_saving any_meaning r o before cs → AreWhole cs
cuts_whole r o before [] lines h = tt
cuts_whole r o before (c ∷ cs) lines h = (
  λ t there. let k = h.0.asked t there in (h.0.pieces t k.steps there k.until lines).apart,
  cuts_whole r o (before ++ c.lines) cs lines h.2,
)

pub ended_whole : (r : RunSpec) (cuts : List Given) (workers : List Working) (o : Option Ending) → AreLines r.graph (wires_of any_meaning r) → HasEnded r cuts workers o → AreWhole cuts
ended_whole r cuts workers (Some e) lines h = cuts_whole r h.0.outcome [] cuts lines h.0.saves
ended_whole r cuts workers None lines h = subst (λ (cs : List Given). AreWhole cs) (sym h.are) (cuts_whole r h.breaks.outcome [] (h.front ++ refused_cuts h.refused) lines h.breaks.saves)

-- ---- what a run in parts prints

module _ (g : Graph) (from : Origin) (o : RunOptions) (parts : ℕ) (accepts : any_accepts g from) (f : IsFitting any_kind any_meaning (run_of g from o parts)) (cuts : List Given) (workers : List Working) where
  abbrev r : RunSpec
  r = run_of g from o parts

  law : PrintsItsCuts any_kind any_saving any_meaning (course_of g from o) parts r.partition.list
  law = cuts_are_printed any_kind any_saving any_meaning (course_of g from o) parts r.partition.list f (lines_are g from accepts)

  abbrev Completed : ℕ → List Sheet → Type 0
  Completed time sheets =
      (left : List Any) × (reports : List (List ℕ × List ℕ))
      × RunsWhole any_kind any_saving any_meaning (course_of g from o) (kept_in g [] cuts) (rest_in [] cuts) time left
      × Reports r o.sync_report reports
      × (puts_by sheets ≡ sheets_of o.stats (stats_text g left) ++ reports)
      × (2 ≤ parts → AreWorkers r workers)

  completes : (e : Ending) (sheets : List Sheet) → HasEnded r cuts workers (Some e) → AreSheets r o sheets → stop 0 (kept_in g [] cuts) ≡ None → Completed e.time sheets
  completes e sheets h s none =
      let w = law.whole cuts e h.0 none in
      let same : s.has.last.whole.state ≡ w.0 = ends_are r f w.1.outcome w.1.is s.windows s.has ∙ sym w.1.left in
      (w.0, s.reports, w.1, s.reported, s.puts ∙ ap (λ (left : List Any). sheets_of o.stats (stats_text g left) ++ s.reports) same, λ two. record { windows = e.windows; has = h.0.windows; stand = h.1 })

  are_of : (x : Option Ending) → HasEnded r cuts workers x → (all : List Given) × (refused : Option Given) × AreOf any_kind any_saving any_meaning (course_of g from o) parts r.partition.list all refused × (cuts ≡ all ++ refused_cuts refused)
  are_of (Some e) h = (cuts, None, inl (e, h.0, refl), sym (append-nil cuts))
  are_of None h = (h.front, h.refused, inr h.breaks, h.are)

  cut_short : (x : Option Ending) → HasEnded r cuts workers x → (next : Kept) (what : LimitKind) (n : ℕ) → stop 0 (kept_in g [] cuts) ≡ Some (next, (what, n)) → RunsOut any_kind any_saving any_meaning (course_of g from o) (allowed 0 (kept_in g [] cuts)) next.lines what n
  cut_short x h next what n e =
      let a = are_of x h in
      subst (λ (cs : List Given). RunsOut any_kind any_saving any_meaning (course_of g from o) (allowed 0 (kept_in g [] cs)) next.lines what n) (sym a.3)
      (law.out a.0 a.1 next what n a.2 (ap (λ (cs : List Given). stop 0 (kept_in g [] cs)) (sym a.3) ∙ e))

  module _ (p : Printed) (are : cuts_by p ≡ cuts) where
    kept_same : kept_by g p ≡ kept_in g [] cuts
    kept_same = ap (kept_in g []) are

    closes : (x : Option Ending) (e : End) → HasEnded r cuts workers x → IsEndOf r o x e → stop_of g p ≡ None → HasClosed g from o parts workers p e
    closes None end.Stopped h k none = too_many g cuts h.many (sym (ap (stop 0) kept_same) ∙ none)
    closes None (end.Complete time sheets) h k none = absurd k
    closes (Some e) end.Stopped h k none = absurd k
    closes (Some e) (end.Complete time sheets) h k none =
        let w = completes e sheets.items h k.1 (sym (ap (stop 0) kept_same) ∙ none) in
        record {
          left = w.0;
          reports = w.1;
          runs = subst (λ t. RunsWhole any_kind any_saving any_meaning (course_of g from o) (kept_by g p) (rest_in [] (cuts_by p)) t w.0) (sym k.0)
              (subst (λ (cs : List Given). RunsWhole any_kind any_saving any_meaning (course_of g from o) (kept_in g [] cs) (rest_in [] cs) e.time w.0) (sym are) w.2);
          reported = w.3;
          puts = w.4;
          leaves = w.5;
        }

    pub has_run : (x : Option Ending) → HasEnded r cuts workers x → IsEndOf r o x p.end → p.run.value.graph ≡ g → p.prefix ≡ o.checkpoint_prefix → IsFit g → HasRun g from o parts workers p
    has_run x h k graph prefix fit = record {
      graph = graph;
      prefix = prefix;
      fit = fit;
      whole = subst (λ (cs : List Given). AreWhole cs) (sym are) (ended_whole r cuts workers x (lines_are g from accepts) h);
      closes = λ none. closes x p.end h k none;
      limits = λ next what n e.
          subst (λ (cs : List Given). RunsOut any_kind any_saving any_meaning (course_of g from o) (allowed 0 (kept_in g [] cs)) next.lines what n) (sym are)
          (cut_short x h next what n (sym (ap (stop 0) kept_same) ∙ e));
    }
