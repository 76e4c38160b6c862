-- A course ends in one way.
use Rattle.std.proofs.Common.{◌≡◌, ℕ, List, [], ◌++◌, refl, sym, ap, ◌∙◌, arith}
use Rattle.std.proofs.lemmas.List.{append_cancel_left}
use Rattle.ss_model.specs.declared.Line.{Line}
use Rattle.ss_model.specs.End.{Outcome, told_time}
use Rattle.ss_model.proofs.Ends.{run_one}
use Rattle.ss_element.specs.Kind.{Kind, behaviour}
use Rattle.ss_element.specs.Saving.{Saving}
use Rattle.ss_graph.specs.declared.fault.LimitKind.{LimitKind}
use Rattle.ss_run.specs.Meaning.{Meaning}
use Rattle.ss_course.specs.Course.{Course, beginning, limits, lines_before, state_after, IsOutcome}
use Rattle.ss_course.specs.Kept.{Kept, Mark, mark_of, start_mark, RunsWhole, RunsOut}
use Rattle.ss_course.specs.Laws.{EndsInOneWay}
use Rattle.ss_course.proofs.Moving.{moves_alone}
use Rattle.ss_course.proofs.Alike.{AreAlike, AtOnce, SameLimit, all_same, no_limit, one_limit}

module _ {S L : Type 0} (kind : Kind S L) (saving : Saving S L) (m : Meaning S L) (c : Course) where
  abbrev start : Mark
  start = start_mark kind saving m c

  one_outcome : (o p : Outcome) → IsOutcome kind m c o → IsOutcome kind m c p → o ≡ p
  one_outcome o p x y = run_one (behaviour kind) (beginning kind m c).wires (limits kind m c) (beginning kind m c).state o p x y

  itself : (o p : Outcome) → o ≡ p → AreAlike kind saving m c c o p start.time []
  itself o p e = record { graph = refl; moves = moves_alone kind.handled (beginning kind m c) start.time; asks = λ u h x. x; asked = λ u h x. x; bound = ap (λ (q : Outcome). q.bound) (sym e) }

  at_start : (o p : Outcome) → AtOnce kind saving m c c o p start.time [] start start
  at_start o p = record { time = refl; lines = refl; past = omega arith }

  module _ (ks js : List Kept) (rest last : List Line) where
    whole_one : (t u : ℕ) (left other : List S) → RunsWhole kind saving m c ks rest t left → RunsWhole kind saving m c js last u other → (ks ≡ js) × (rest ≡ last) × (t ≡ u) × (left ≡ other)
    whole_one t u left other x y =
        let e = one_outcome x.outcome y.outcome x.is y.is in
        let same : ks ≡ js = all_same kind saving m c c x.outcome y.outcome start.time [] (itself x.outcome y.outcome e) start start ks js (at_start x.outcome y.outcome) x.kept y.kept x.none y.none in (
          same,
          append_cancel_left (mark_of start ks).lines rest last (x.lines ∙ ap (λ (o : Outcome). lines_before kind m c o.steps) e ∙ sym y.lines ∙ ap (λ is. (mark_of start is).lines ++ last) (sym same)),
          x.time ∙ ap (λ (o : Outcome). told_time o (state_after kind m c o.steps)) e ∙ sym y.time,
          x.left ∙ ap (λ (o : Outcome). (state_after kind m c o.steps).components) e ∙ sym y.left,
        )

    out_one : (what why : LimitKind) (n q : ℕ) → RunsOut kind saving m c ks rest what n → RunsOut kind saving m c js last why q → (ks ≡ js) × (rest ≡ last) × (what ≡ why) × (n ≡ q)
    out_one what why n q x y =
        let e = one_outcome x.outcome y.outcome x.is y.is in
        let same : SameLimit kind saving m c c x.outcome y.outcome start.time [] (itself x.outcome y.outcome e) ks js x.next y.next (what, n) (why, q) = one_limit kind saving m c c x.outcome y.outcome start.time [] (itself x.outcome y.outcome e) start start ks js x.next y.next (what, n) (why, q) (at_start x.outcome y.outcome) refl x.kept y.kept x.comes y.comes x.passes y.passes in (
          same.kept,
          x.rest ∙ ap (λ (k : Kept). k.lines) same.next ∙ sym y.rest,
          ap (λ (l : LimitKind × ℕ). l.0) same.limit,
          ap (λ (l : LimitKind × ℕ). l.1) same.limit,
        )

    not_both : (t : ℕ) (left : List S) (what : LimitKind) (n : ℕ) → RunsWhole kind saving m c ks rest t left → RunsOut kind saving m c js last what n → ⊥
    not_both t left what n x y =
        let e = one_outcome x.outcome y.outcome x.is y.is in
        no_limit kind saving m c c x.outcome y.outcome start.time [] (itself x.outcome y.outcome e) start start ks js y.next (what, n) (at_start x.outcome y.outcome) (omega arith) x.kept x.none y.kept y.comes y.passes

  pub one_way : EndsInOneWay kind saving m c
  one_way = record {
    whole = λ ks js rest last t u left other x y. whole_one ks js rest last t u left other x y;
    out = λ ks js rest last what why n q x y. out_one ks js rest last what why n q x y;
    either = λ ks js rest last t left what n x y. not_both ks js rest last t left what n x y;
  }
