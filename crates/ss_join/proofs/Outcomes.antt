-- Each run that fits has an outcome.
use Rattle.std.proofs.Common.{◌≡◌, ℕ, zero, suc, ◌*◌, ◌<◌, ◌≤◌, ◌^◌, true, false, refl, sym, ap, ◌∙◌, subst, arith, ◌⊎◌, inl, inr}
use Rattle.std.proofs.lemmas.Bool.{cases_Bool}
use Rattle.std.proofs.Math.Nat.{le-mul_of_pos_right, mul-le-mul_right}
use Rattle.ss_model.specs.Wiring.{Wiring}
use Rattle.ss_model.specs.Step.{State, IsUntil}
use Rattle.ss_model.specs.Step as run
use Rattle.ss_model.specs.End.{Behaviour, Limits, Outcome, IsRun, IsAsked, AgreesAt, IsAgreed, agree, end_of}
use Rattle.ss_model.proofs.Runs.{until_one}
use Rattle.ss_element.specs.Kind.{Kind, behaviour}
use Rattle.ss_element.specs.World as element
use Rattle.ss_theory.proofs.Theorems as theorems
use Rattle.ss_parts.specs.Parts.{glob}
use Rattle.ss_parts.proofs.Bridge.{until_same}
use Rattle.ss_parts.proofs.Windows as windows
use Rattle.ss_run.specs.declared.RunSpec.{RunSpec}
use Rattle.ss_run.specs.Meaning.{Meaning, MeaningLaws}
use Rattle.ss_run.specs.Run.{division, wires_of, start_of, limits, view, IsFitting}
use Rattle.ss_worker.proofs.Course as course
use Rattle.ss_join.specs.Joined.{IsOutcome}

-- ---- the first time at which the primaries agree, if there is one

module _ {S L : Type 0} (b : Behaviour S L) (w : Wiring) (l : Limits) (s : State S L) (some : 1 ≤ l.exit) (reach : (t : ℕ) → t ≤ end_of l → (n : ℕ) × IsUntil b.handled w t n s) where
  abbrev NoneBefore : ℕ → Type 0
  NoneBefore n = (r : ℕ) (a : IsAsked l r) → a.times < n → AgreesAt b w s r → ⊥

  abbrev Searched : ℕ → Type 0
  Searched n = ((q : ℕ) × IsAgreed b w l s q) ⊎ NoneBefore n

  times_below : (r n : ℕ) (a : IsAsked l r) → r < n * l.exit → a.times < n
  times_below r n a h = go (cases n a.times) where
    cases : (x y : ℕ) → (x ≤ y) ⊎ (y < x)
    cases x y = grind arith

    go : (n ≤ a.times) ⊎ (a.times < n) → a.times < n
    go (inl o) = let m = mul-le-mul_right l.exit o in absurd (omega (arith, a.multiple, m))
    go (inr o) = o

  more : (n : ℕ) → NoneBefore n → (q : ℕ) → q ≡ n * l.exit → (AgreesAt b w s q → ⊥) → NoneBefore (suc n)
  more n none q e isnt r a h g = go (cases a.times) where
    cases : (x : ℕ) → (x < n) ⊎ (n ≤ x)
    cases x = grind arith

    go : (a.times < n) ⊎ (n ≤ a.times) → ⊥
    go (inl o) = none r a o g
    go (inr o) = let t : a.times ≡ n = omega (arith, h, o) in let same : r ≡ q = a.multiple ∙ ap (λ k. k * l.exit) t ∙ sym e in isnt (subst (λ x. AgreesAt b w s x) same g)

  unasked : (n : ℕ) → NoneBefore n → (IsAsked l (n * l.exit) → ⊥) → NoneBefore (suc n)
  unasked n none isnt r a h g = go (cases a.times) where
    cases : (x : ℕ) → (x < n) ⊎ (n ≤ x)
    cases x = grind arith

    go : (a.times < n) ⊎ (n ≤ a.times) → ⊥
    go (inl o) = none r a o g
    go (inr o) = let t : a.times ≡ n = omega (arith, h, o) in let same : r ≡ n * l.exit = a.multiple ∙ ap (λ k. k * l.exit) t in isnt (subst (λ x. IsAsked l x) same a)

  search_at : (n q : ℕ) → q ≡ n * l.exit → NoneBefore n → l.origin < q → q ≤ end_of l → Searched (suc n)
  search_at n q e none above within =
      let u = reach q within in
      elim (cases_Bool (agree b (run.after b.handled w u.0 s).components)) [
        | inl y ↦ inl (
          q,
          record {
            asked = record { times = n; multiple = e; above = above; within = within };
            agrees = record { steps = u.0; until = u.1; agree = y };
            first = λ r a h g. none r a (times_below r n a (omega (arith, h, e))) g;
          },
        )
        | inr x ↦ inr (more n none q e (λ g. let same = until_one b.handled w q u.0 g.steps s u.1 g.until in let k : false ≡ true = sym x ∙ ap (λ v. agree b (run.after b.handled w v s).components) same ∙ g.agree in absurd cc))
      ]

  above_or : (n : ℕ) → ((l.origin < n * l.exit) × (n * l.exit ≤ end_of l)) ⊎ ((l.origin < n * l.exit) × (n * l.exit ≤ end_of l) → ⊥)
  above_or n = go (cases (l.origin) (n * l.exit)) (cases2 (n * l.exit) (end_of l)) where
    cases : (x y : ℕ) → (x < y) ⊎ (y ≤ x)
    cases x y = grind arith

    cases2 : (x y : ℕ) → (x ≤ y) ⊎ (y < x)
    cases2 x y = grind arith

    go : (l.origin < n * l.exit) ⊎ (n * l.exit ≤ l.origin) → (n * l.exit ≤ end_of l) ⊎ (end_of l < n * l.exit) → ((l.origin < n * l.exit) × (n * l.exit ≤ end_of l)) ⊎ ((l.origin < n * l.exit) × (n * l.exit ≤ end_of l) → ⊥)
    go (inl a) (inl c) = inl (a, c)
    go (inr a) c = inr (λ h. let k = h.0 in omega (arith, k, a))
    go (inl a) (inr c) = inr (λ h. let k = h.1 in omega (arith, k, c))

  search_more : (n : ℕ) → Searched n → Searched (suc n)
  search_more n (inl found) = inl found
  search_more n (inr none) =
      elim (above_or n) [
        | inl h ↦ search_at n (n * l.exit) refl none h.0 h.1
        | inr h ↦ inr (unasked n none (λ a. h (a.above, a.within)))
      ]

  searched : (n : ℕ) → Searched n
  searched zero = inr (λ r a h g. omega (arith, h))
  searched (suc n) = search_more n (searched n)

  all_times : (r : ℕ) (a : IsAsked l r) → a.times < suc (end_of l)
  all_times r a = let m = le-mul_of_pos_right {m = l.exit} a.times (omega (arith, some)) in omega (arith, m, a.multiple, a.within)

  by_search : Searched (suc (end_of l)) → (o : Outcome) × IsRun b w l s o
  by_search (inl (q, g)) = (record { steps = g.agrees.steps; bound = q; agreed = true }, record { bound = g; until = g.agrees.until })
  by_search (inr none) =
      let u = reach (end_of l) (omega arith) in
      (record { steps = u.0; bound = end_of l; agreed = false }, record { bound = (refl, λ r a g. none r a (all_times r a) g); until = u.1 })

  pub outcome : (o : Outcome) × IsRun b w l s o
  outcome = by_search (searched (suc (end_of l)))

-- ---- of a run that fits

module _ {S L : Type 0} (kind : Kind S L) (Safe : Wiring → ℕ → State S L → Type 0) (rests : element.World kind Safe) (m : Meaning S L) (laws : MeaningLaws Safe m) (r : RunSpec) (f : IsFitting kind m r) where
  end_is : end_of (limits m r) ≤ 2 ^ 62
  end_is = omega (arith, f.stop_from, f.stop_by)

  pub reach : (t : ℕ) → t ≤ 2 ^ 62 → (n : ℕ) × IsUntil kind.handled (wires_of m r) t n (start_of m r)
  reach t h =
      let may = course.may kind Safe rests m laws r f in
      let u = theorems.until_exists (view kind m r) (windows.SafeIn kind Safe rests (wires_of m r) (division r) (start_of m r) may) (division r).look (2 ^ 62) (windows.the_laws kind Safe rests (wires_of m r) (division r) (start_of m r) may) 0 t (glob (start_of m r)) h
      (windows.ready kind Safe rests (wires_of m r) (division r) (start_of m r) may) in
      (u.0, until_same kind.handled (wires_of m r) (division r).part_of t u.0 (start_of m r) u.1)

  pub has_outcome : (o : Outcome) × IsOutcome kind m r o
  has_outcome =
      let fit = laws r.graph r.origin f.accepted in
      outcome (behaviour kind) (wires_of m r) (limits m r) (start_of m r) fit.fit.exit_period.least (λ t h. reach t (let e = end_is in omega (arith, h, e)))
