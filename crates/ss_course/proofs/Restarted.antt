-- A run that goes on from a checkpoint of a whole run has the rest of it.
use Rattle.std.proofs.Common.{◌≡◌, ℕ, ◌<◌, inl, inr, List, [], ◌∷◌, ◌++◌, map, refl, sym, ap, ◌∙◌, subst, arith, append_assoc, append-nil}
use Rattle.std.specs.Prelude.{flat_map}
use Rattle.std.proofs.lemmas.List.{append_cancel_left}
use Rattle.std.proofs.lemmas.List.Concat.{flat_map-cons}
use Rattle.ss_model.specs.declared.Line.{Line}
use Rattle.ss_model.specs.Wiring.{Wiring}
use Rattle.ss_model.specs.Step.{State, after, lines}
use Rattle.ss_model.specs.End.{Outcome, IsRun, told_time}
use Rattle.ss_element.specs.Kind.{Kind, behaviour}
use Rattle.ss_element.specs.Saving.{Saving}
use Rattle.ss_window.specs.declared.Cuts.{Cuts}
use Rattle.ss_window.specs.Cuts.{IsNamed}
use Rattle.ss_window.specs.Least.{OnPeriod, IsIn}
use Rattle.ss_graph.specs.declared.fault.LimitKind.{LimitKind}
use Rattle.ss_run.specs.declared.Origin.TheVariants as origin
use Rattle.ss_run.specs.Meaning.{Meaning, MeaningLaws, Opening}
use Rattle.ss_safe.specs.Laws.{Allowed, KindLaws, KindSaves}
use Rattle.ss_safe.specs.Safe.{Safe}
use Rattle.ss_rest.specs.Rest.{going_on, IsRest, GoesOn}
use Rattle.ss_rest.proofs.Resting.{goes_on}
use Rattle.ss_course.specs.Course.{Course, beginning, limits, lines_before, state_after, IsOutcome, IsDueAt}
use Rattle.ss_course.specs.Kept.{Kept, Mark, mark_after, mark_of, start_mark, IsNext, AreKept, NoneLeft, RunsWhole, RunsOut}
use Rattle.ss_course.specs.Laws.{all_lines, entry_of, GoesOnFrom, AsksAlike, PrintsTheRest, RestartsPrintTheRest}
use Rattle.ss_course.proofs.Moving.{MoveAlike, moves_on}
use Rattle.ss_course.proofs.Alike.{AreAlike, AtOnce, all_same, no_limit}
use Rattle.ss_course.proofs.GoingOn.{AreTied, can_go_on, reopened, above}

-- ---- marks

mark_append : (a : Mark) (ks js : List Kept) → mark_of a (ks ++ js) ≡ mark_of (mark_of a ks) js
mark_append a [] js = refl
mark_append a (k ∷ ks) js = mark_append (mark_after a k) ks js

mark_lines : (a : Mark) (ks : List Kept) (rest : List Line) → (mark_of a ks).lines ++ rest ≡ a.lines ++ all_lines ks rest
mark_lines a [] rest = refl
mark_lines a (k ∷ ks) rest =
    let others = flat_map (λ (i : Kept). i.lines) ks in
    let first : (k.lines ++ others) ++ rest ≡ k.lines ++ (others ++ rest) = append_assoc k.lines others rest in
    mark_lines (mark_after a k) ks rest
    ∙ append_assoc a.lines k.lines (others ++ rest)
    ∙ ap (λ l. a.lines ++ l) (sym first ∙ ap (λ l. l ++ rest) (sym (flat_map-cons (λ (i : Kept). i.lines) k ks)))

-- the same times are asked for
named_same : (c d : Cuts) → d.save_at ≡ c.save_at → d.save_every ≡ c.save_every → (u : ℕ) → IsNamed c u → IsNamed d u
named_same c d e f u h = elim h [ inl a ↦ inl (subst (λ o. IsIn o u) (sym e) a) | inr a ↦ inr (subst (λ o. OnPeriod o u) (sym f) a) ]

module _ {S L : Type 0} (kind : Kind S L) (saving : Saving S L) (m : Meaning S L) where
  kept_behind : (c : Course) (o : Outcome) (a : Mark) (ks js : List Kept) → AreKept kind saving m c o a (ks ++ js) → AreKept kind saving m c o (mark_of a ks) js
  kept_behind c o a [] js x = x
  kept_behind c o a (k ∷ ks) js x = kept_behind c o (mark_after a k) ks js x.2

  -- ---- a run that goes on n steps after the beginning of a first

  module _ (c later : Course) (o : Outcome) (k : Kept) (n : ℕ) (is : IsOutcome kind m c o) (due : IsDueAt kind m c o k.time n) (late : (beginning kind m c).time < k.time) where
    abbrev w : Wiring
    w = (beginning kind m c).wires

    abbrev s : State S L
    s = (beginning kind m c).state

    abbrev said_before : List Line
    said_before = lines kind.handled w n s

    abbrev now : Opening S L
    now = record { wires = w; time = k.time; state = after kind.handled w n s }

    module _ (again : m.opening c.graph (origin.Saved k.bytes) ≡ now) (on : GoesOnFrom c later k) where
      begins : beginning kind m later ≡ now
      begins = ap (λ g. m.opening g later.from) on.graph ∙ ap (m.opening c.graph) on.from ∙ again

      limits_are : limits kind m later ≡ going_on k.time (limits kind m c)
      limits_are =
          ap (λ (p : Opening S L). record { origin = p.time; stop = later.cuts.stop; exit = later.graph.options.exit_period }) begins
          ∙ ap (λ t. record { origin = k.time; stop = t; exit = later.graph.options.exit_period }) on.stop
          ∙ ap (λ g. record { origin = k.time; stop = c.cuts.stop; exit = g.options.exit_period }) on.graph

      goes : GoesOn (behaviour kind) w (limits kind m c) s o k.time n
      goes = goes_on (behaviour kind) w (limits kind m c) s o k.time n is (record { above = late; below = due.below; until = due.until })

      module _ (r : Outcome) (runs : IsOutcome kind m later r) where
        is_rest : IsRest (behaviour kind) w (limits kind m c) s o k.time n r
        is_rest =
            goes.each r
            (subst (λ l. IsRun (behaviour kind) w l (after kind.handled w n s) r) limits_are
            (subst (λ (p : Opening S L). IsRun (behaviour kind) p.wires (limits kind m later) p.state r) begins runs))

        rest_lines : said_before ++ lines_before kind m later r.steps ≡ lines_before kind m c o.steps
        rest_lines = ap (λ (p : Opening S L). said_before ++ lines kind.handled p.wires r.steps p.state) begins ∙ sym is_rest.said

        rest_told : told_time r (state_after kind m later r.steps) ≡ told_time o (state_after kind m c o.steps)
        rest_told = ap (λ (p : Opening S L). told_time r (after kind.handled p.wires r.steps p.state)) begins ∙ is_rest.told

        rest_ends : state_after kind m later r.steps ≡ state_after kind m c o.steps
        rest_ends = ap (λ (p : Opening S L). after kind.handled p.wires r.steps p.state) begins ∙ is_rest.ends

        alike : AsksAlike c later → AreAlike kind saving m c later o r k.time said_before
        alike same = record {
          graph = on.graph;
          moves = subst (λ q. MoveAlike kind.handled (beginning kind m c) q said_before k.time) (sym begins) (moves_on kind.handled (beginning kind m c) k.time n due.until);
          asks = λ u h x. (let e = on.origin in (named_same c.cuts later.cuts same.save_at same.save_every u x.0, omega (arith, e, h)));
          asked = λ u h x. (let e : c.cuts.origin < k.time = due.asked.1 in (named_same later.cuts c.cuts (sym same.save_at) (sym same.save_every) u x.0, omega (arith, e, h)));
          bound = is_rest.bound;
        }

        at_once : (a : Mark) → a.time ≡ k.time → a.lines ≡ said_before → AtOnce kind saving m c later o r k.time said_before a (start_mark kind saving m later)
        at_once a t l = record {
          time = ap (λ (p : Opening S L). p.time) begins ∙ sym t;
          lines = l ∙ sym (append-nil said_before);
          past = omega (arith, t);
        }

  -- ---- a whole run, with what is in front of a checkpoint and what is behind it

  module _ (c : Course) (front : List Kept) (k : Kept) (back : List Kept) (rest : List Line) (told : ℕ) (finals : List S) (x : RunsWhole kind saving m c (front ++ k ∷ back) rest told finals) where
    abbrev start : Mark
    start = start_mark kind saving m c

    kept_there : AreKept kind saving m c x.outcome (mark_of start front) (k ∷ back)
    kept_there = kept_behind c x.outcome start front (k ∷ back) x.kept

    abbrev here : Mark
    here = mark_after (mark_of start front) k

    split : mark_of start (front ++ k ∷ back) ≡ mark_of here back
    split = mark_append start front (k ∷ back)

    none_behind : NoneLeft kind saving m c x.outcome (mark_of here back)
    none_behind = subst (NoneLeft kind saving m c x.outcome) split x.none

    lines_behind : here.lines ++ all_lines back rest ≡ lines_before kind m c x.outcome.steps
    lines_behind = sym (mark_lines here back rest) ∙ ap (λ (a : Mark). a.lines ++ rest) (sym split) ∙ x.lines

    module _ (next : IsNext kind saving m c x.outcome (mark_of start front) k) (kept : AreKept kind saving m c x.outcome here back) (late : (beginning kind m c).time < k.time) where
      abbrev before : List Line
      before = lines kind.handled (beginning kind m c).wires next.steps (beginning kind m c).state

      module _ (again : m.opening c.graph (origin.Saved k.bytes) ≡ record { wires = (beginning kind m c).wires; time = k.time; state = state_after kind m c next.steps }) (later : Course) (on : GoesOnFrom c later k) where
        all_rest : (js : List Kept) (last : List Line) (u : ℕ) (other : List S) → RunsWhole kind saving m later js last u other → all_lines js last ≡ all_lines back rest
        all_rest js last u other y =
            append_cancel_left here.lines (all_lines js last) (all_lines back rest)
            (ap (λ l. l ++ all_lines js last) next.lines
            ∙ ap (λ l. before ++ l) (sym (mark_lines (start_mark kind saving m later) js last) ∙ y.lines)
            ∙ rest_lines c later x.outcome k next.steps x.is next.due late again on y.outcome y.is
            ∙ sym lines_behind)

        same_kept : AsksAlike c later → (js : List Kept) (last : List Line) (u : ℕ) (other : List S) → RunsWhole kind saving m later js last u other → back ≡ js
        same_kept same js last u other y =
            all_same kind saving m c later x.outcome y.outcome k.time before
            (alike c later x.outcome k next.steps x.is next.due late again on y.outcome y.is same)
            here (start_mark kind saving m later) back js
            (at_once c later x.outcome k next.steps x.is next.due late again on y.outcome y.is here refl next.lines)
            kept y.kept none_behind y.none

        none_passed : AsksAlike c later → (js : List Kept) (last : List Line) (what : LimitKind) (n : ℕ) → RunsOut kind saving m later js last what n → ⊥
        none_passed same js last what n y =
            no_limit kind saving m c later x.outcome y.outcome k.time before
            (alike c later x.outcome k next.steps x.is next.due late again on y.outcome y.is same)
            here (start_mark kind saving m later) back js y.next (what, n)
            (at_once c later x.outcome k next.steps x.is next.due late again on y.outcome y.is here refl next.lines)
            (omega arith) kept none_behind y.kept y.comes y.passes

        pub prints_rest : PrintsTheRest kind saving m c later back rest told finals
        prints_rest = record {
          lines = λ js last u other y. all_rest js last u other y;
          time = λ js last u other y. y.time ∙ rest_told c later x.outcome k next.steps x.is next.due late again on y.outcome y.is ∙ sym x.time;
          left = λ js last u other y. y.left ∙ ap (λ (z : State S L). z.components) (rest_ends c later x.outcome k next.steps x.is next.due late again on y.outcome y.is) ∙ sym x.left;
          kept = λ same js last u other y. ap (map entry_of) (sym (same_kept same js last u other y));
          unlimited = λ same js last what n y. none_passed same js last what n y;
        }

module _ {S L : Type 0} (kind : Kind S L) (allowed : Allowed S L) (saving : Saving S L) (laws : KindLaws kind allowed) (saves : KindSaves kind allowed saving) (m : Meaning S L) (Known : Wiring → ℕ → State S L → Type 0) (tied : AreTied Known (Safe kind allowed)) (opens : MeaningLaws Known m) where
  pub restarts_print : RestartsPrintTheRest kind saving m Known
  restarts_print c parts list front k back rest time left fit can reopens x are =
      let kept = kept_there kind saving m c front k back rest time left x in
      let late = above kind allowed saving laws saves m Known tied opens c parts list x.outcome fit x.is (mark_of (start_mark kind saving m c) front) k kept.0 can reopens kept.1 are in
      let again = reopened kind allowed saving laws saves m Known tied opens c parts list x.outcome fit x.is (mark_of (start_mark kind saving m c) front) k kept.0 can reopens kept.1 are in
      record {
        can = can_go_on kind allowed saving laws saves m Known tied opens c parts list x.outcome fit x.is (mark_of (start_mark kind saving m c) front) k kept.0 can reopens kept.1 are;
        prints = λ later p l on fits. prints_rest kind saving m c front k back rest time left x kept.0 kept.2 late again later on;
      }
