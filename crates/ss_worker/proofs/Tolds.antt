-- What the worker of a run that is over tells of its end.
use Rattle.std.proofs.Common.{◌≡◌, ℕ, ◌<◌, ◌≤◌, List, [], ◌∷◌, Bool, true, false, ◌||◌, cond, Option, Some, None, refl, sym, ap, ◌∙◌, subst, arith, min}
use Rattle.std.specs.Prelude.{is_some}
use Rattle.std.specs.List.{list_any}
use Rattle.std.proofs.lemmas.Bool.Decides.{nat_tests}
use Rattle.ss_model.specs.declared.Event.{Event}
use Rattle.ss_model.specs.Order.{next_key}
use Rattle.ss_model.specs.Wiring.{Wiring}
use Rattle.ss_model.specs.Step.{State, after}
use Rattle.ss_model.specs.End.{Outcome, IsRun, IsBound, ended}
use Rattle.ss_model.proofs.Runs.{until_one}
use Rattle.ss_element.specs.Kind.{Kind, behaviour}
use Rattle.ss_element.specs.World as element
use Rattle.ss_window.specs.declared.Cuts.{Cuts}
use Rattle.ss_window.specs.Cuts.{SpanFits}
use Rattle.ss_window.specs.Least.{IsFirst, OnPeriod, Above}
use Rattle.ss_theory.specs.World.{Global}
use Rattle.ss_theory.specs.Rounds.{first_time, Moment}
use Rattle.ss_parts.specs.Parts.{glob}
use Rattle.ss_parts.specs.Division.{IsCutBy}
use Rattle.ss_parts.specs.Cutting.{known_of, lesser_of, multiple_above}
use Rattle.ss_parts.proofs.Cuts.{multiple_first}
use Rattle.ss_parts.proofs.Windows as windows
use Rattle.ss_run.specs.declared.RunSpec.{RunSpec}
use Rattle.ss_run.specs.Meaning.{Meaning, MeaningLaws}
use Rattle.ss_run.specs.Run.{division, wires_of, start_of, limits, view, IsFitting, HasWindows}
use Rattle.ss_worker.specs.declared.known.Known.{Known}
use Rattle.ss_worker.specs.Knowing.{since_of, bound_of, agrees_by, is_within}
use Rattle.ss_worker.specs.Told.{IsTold}
use Rattle.ss_worker.proofs.Knows.{KnowsAt}
use Rattle.ss_worker.proofs.Course as course

-- the bound, and whether it is one at which it is asked
module _ (c : Cuts) (fit : SpanFits c.exit) where
  least_then : (o : Option ℕ) (t q : ℕ) → multiple_above c.exit t ≡ o → OnPeriod c.exit q → t < q → q ≤ c.stop → is_within o c.stop ≡ true
  least_then None t q e on lt le = let f = subst (λ x. IsFirst (Above (OnPeriod c.exit) t) x) e (multiple_first c.exit t fit) in absurd (f q (on, lt))
  least_then (Some n) t q e on lt le = let f = subst (λ x. IsFirst (Above (OnPeriod c.exit) t) x) e (multiple_first c.exit t fit) in let a : n ≤ q = f.least q (on, lt) in grind (arith, nat_tests, a, le)

  asked_then : (o : Option ℕ) (t : ℕ) → multiple_above c.exit t ≡ o → is_within o c.stop ≡ true → OnPeriod c.exit (lesser_of c.stop o) × (t < lesser_of c.stop o)
  asked_then None t e h = absurd cc
  asked_then (Some n) t e h =
      let f = subst (λ x. IsFirst (Above (OnPeriod c.exit) t) x) e (multiple_first c.exit t fit) in
      let le : n ≤ c.stop = grind (arith, nat_tests, h) in
      let same : n ≡ min c.stop n = omega (arith, le) in
      (subst (λ x. OnPeriod c.exit x) same f.member.0, subst (λ x. t < x) same f.member.1)

module _ {S L : Type 0} (kind : Kind S L) (Safe : Wiring → ℕ → State S L → Type 0) (rests : element.World kind Safe) (m : Meaning S L) (laws : MeaningLaws Safe m) (r : RunSpec) (f : IsFitting kind m r) where
  pub cut_by : IsCutBy (limits m r) r.cuts (list_any kind.primary (start_of m r).components)
  cut_by = record { origin = f.origin; stop = omega (arith, f.stop_from); exit = f.exit }

  stop_is : (o : Outcome) → IsRun (behaviour kind) (wires_of m r) (limits m r) (start_of m r) o → o.bound ≤ r.cuts.stop
  stop_is o is = go o.agreed is.bound where
    go : (b : Bool) → IsBound (behaviour kind) (wires_of m r) (limits m r) (start_of m r) b o.bound → o.bound ≤ r.cuts.stop
    go true x = omega (arith, x.asked.within, f.stop_from)
    go false x = omega (arith, x.0, f.stop_from)

  -- where the windows end the whole is what the run leaves
  pub over_is : (k : ℕ) (n : HasWindows kind m r k) (o : Outcome) → IsRun (behaviour kind) (wires_of m r) (limits m r) (start_of m r) o → n.last.whole ≡ glob (ended (behaviour kind) (wires_of m r) (start_of m r) o)
  over_is k n o is =
      let may = course.may kind Safe rests m laws r f in
      let keeps = windows.keeps_bounds kind Safe rests (wires_of m r) (division r) (start_of m r) may (limits m r) o.agreed o.bound cut_by is.bound in
      let c = keeps.comes k n in
      c.2 ∙ ap (λ j. glob (after kind.handled (wires_of m r) j (start_of m r))) (until_one kind.handled (wires_of m r) o.bound c.0 o.steps (start_of m r) c.1 is.until)

  known_is : (k : ℕ) (n : HasWindows kind m r k) (o : Outcome) → IsRun (behaviour kind) (wires_of m r) (limits m r) (start_of m r) o → known_of r.cuts n.last.since ≡ o.bound
  known_is k n o is =
      let may = course.may kind Safe rests m laws r f in
      (windows.keeps_bounds kind Safe rests (wires_of m r) (division r) (start_of m r) may (limits m r) o.agreed o.bound cut_by is.bound).known k n

  some_first : (xs : List (Event L)) → is_some (first_time (view kind m r) xs) ≡ is_some (next_key xs)
  some_first [] = refl
  some_first (e ∷ xs) = refl

  agreed_is : (k : ℕ) (n : HasWindows kind m r k) (o : Outcome) → IsRun (behaviour kind) (wires_of m r) (limits m r) (start_of m r) o → agrees_by n.last.since r.cuts ≡ o.agreed
  agreed_is k n o is = go o.agreed refl
    where
      ag : windows.Agreed kind Safe rests (wires_of m r) (division r) (start_of m r) (course.may kind Safe rests m laws r f) r.cuts n.last.since o.agreed o.bound
      ag = windows.agreed_at kind Safe rests (wires_of m r) (division r) (start_of m r) (course.may kind Safe rests m laws r f) (limits m r) o.agreed o.bound cut_by is.bound k n

      exits : SpanFits r.cuts.exit
      exits = (course.may kind Safe rests m laws r f).cuts.exit

      not : (s : Option ℕ) → n.last.since ≡ s → o.agreed ≡ false → (b : Bool) → agrees_by s r.cuts ≡ b → b ≡ false
      not None e x b h = sym h
      not (Some t) e x false h = refl
      not (Some t) e x true h =
          let a = asked_then r.cuts exits (multiple_above r.cuts.exit t) t refl h in
          let same : known_of r.cuts (Some t) ≡ o.bound = ap (known_of r.cuts) (sym e) ∙ known_is k n o is in
          absurd (ag.no x t e (subst (λ q. OnPeriod r.cuts.exit q) same a.0) (subst (λ q. t < q) same a.1))

      go : (b : Bool) → o.agreed ≡ b → agrees_by n.last.since r.cuts ≡ b
      go true e = let y = ag.yes e in ap (λ s. agrees_by s r.cuts) y.1 ∙ least_then r.cuts exits (multiple_above r.cuts.exit y.0) y.0 o.bound refl y.3 y.2 (stop_is o is)
      go false e = not n.last.since refl e (agrees_by n.last.since r.cuts) refl

  told_by : (a b : Bool) (x y : ℕ) (res : Option ℕ) (i j : Bool) → a ≡ i → b ≡ j → x ≡ y → res ≡ cond (b || a) (Some x) None → res ≡ cond (i || j) (Some y) None
  told_by a b x y res i j ea eb ex e = e ∙ ap (λ z. cond (b || a) (Some z) None) ex ∙ ap (λ z. cond z (Some y) None) (ap (λ z. z || a) eb ∙ ap (λ z. j || z) ea ∙ swap j i) where
    swap : (u v : Bool) → (u || v) ≡ (v || u)
    swap true true = refl
    swap true false = refl
    swap false true = refl
    swap false false = refl

  pub told : (k : ℕ) (n : Known) → KnowsAt kind Safe rests m laws r f k n → HasWindows kind m r k → (res : Option ℕ) → res ≡ cond (is_some n.next || agrees_by (since_of n) r.cuts) (Some (bound_of r.cuts n)) None → IsTold kind m r res
  told k n x has res e o is =
      let same : x.moment ≡ has.last = course.one_moment kind Safe rests m laws r f k x.moment has.last x.opened has.opened in
      let since : since_of n ≡ has.last.since = x.since ∙ ap (λ (g : Moment (List S) (Event L)). g.since) same in
      told_by (agrees_by (since_of n) r.cuts) (is_some n.next) (bound_of r.cuts n) o.bound res o.agreed (is_some (next_key (ended (behaviour kind) (wires_of m r) (start_of m r) o).pending))
      (ap (λ s. agrees_by s r.cuts) since ∙ agreed_is k has o is)
      (ap is_some (x.next ∙ ap (λ (g : Moment (List S) (Event L)). first_time (view kind m r) g.whole.pending) same ∙ ap (λ (g : Global (List S) (Event L)). first_time (view kind m r) g.pending) (over_is k has o is)) ∙ some_first (ended (behaviour kind) (wires_of m r) (start_of m r) o).pending)
      (ap (known_of r.cuts) since ∙ known_is k has o is)
      e
