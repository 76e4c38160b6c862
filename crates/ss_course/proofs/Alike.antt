-- Courses that are alike from a time on keep the same checkpoints after it.
use Rattle.std.proofs.Common.{◌≡◌, ℕ, suc, ◌<◌, ◌≤◌, ◌⊎◌, inl, inr, List, [], ◌∷◌, ◌++◌, length, Some, None, refl, sym, ap, ◌∙◌, subst, arith, append_assoc}
use Rattle.std.proofs.lemmas.Bool.{cases_lt}
use Rattle.std.proofs.lemmas.List.{append_cancel_left}
use Rattle.ss_model.specs.declared.Line.{Line}
use Rattle.ss_model.specs.Step.{State, IsUntil}
use Rattle.ss_model.specs.End.{Outcome}
use Rattle.ss_model.proofs.Runs.{until_one}
use Rattle.ss_element.specs.Kind.{Kind}
use Rattle.ss_element.specs.Saving.{Saving}
use Rattle.ss_window.specs.Cuts.{IsSave}
use Rattle.ss_graph.specs.declared.fault.LimitKind.{LimitKind}
use Rattle.ss_run.specs.Meaning.{Meaning}
use Rattle.ss_course.specs.Course.{Course, beginning, checkpoint_text, state_after, IsDueAt}
use Rattle.ss_course.specs.Kept.{Kept, passed, Mark, mark_after, mark_of, IsNext, AreKept, NoneLeft}
use Rattle.ss_course.proofs.Moving.{Meets, MoveAlike}
use Rattle.ss_course.proofs.Limited.{none_sooner}

kept_is : (k j : Kept) → k.time ≡ j.time → k.lines ≡ j.lines → k.bytes ≡ j.bytes → k ≡ j
kept_is k j t l b =
    let put : ℕ → List Line → List ℕ → Kept = λ t l b. record { time = t; lines = l; bytes = b } in
    ap (λ t. put t k.lines k.bytes) t ∙ ap (λ l. put j.time l k.bytes) l ∙ ap (λ b. put j.time j.lines b) b

module _ {S L : Type 0} (kind : Kind S L) (saving : Saving S L) (m : Meaning S L) (c d : Course) (o p : Outcome) (from : ℕ) (front : List Line) where
  abbrev Met : ℕ → ℕ → Type 0
  Met n i = Meets kind.handled (beginning kind m c) (beginning kind m d) front n i

  pub record AreAlike : Type 0 where
    pub graph : d.graph ≡ c.graph
    pub moves : MoveAlike kind.handled (beginning kind m c) (beginning kind m d) front from
    pub asks : (u : ℕ) → from < u → IsSave c.cuts u → IsSave d.cuts u
    pub asked : (u : ℕ) → from < u → IsSave d.cuts u → IsSave c.cuts u
    pub bound : p.bound ≡ o.bound

  -- marks at the same time, with the same lines
  pub record AtOnce (a b : Mark) : Type 0 where
    pub time : b.time ≡ a.time
    pub lines : a.lines ≡ front ++ b.lines
    pub past : from ≤ a.time

  module _ (alike : AreAlike) where
    record DueThere (u n : ℕ) : Type 0 where
      steps : ℕ
      due : IsDueAt kind m d p u steps
      meets : Met n steps

    record DueHere (u i : ℕ) : Type 0 where
      steps : ℕ
      due : IsDueAt kind m c o u steps

    due_there : (u n : ℕ) → from < u → IsDueAt kind m c o u n → DueThere u n
    due_there u n h due =
        let x = alike.moves.onward u n h due.until in
        let same = alike.bound in
        let below = due.below in
        record {
          steps = x.steps;
          due = record { asked = alike.asks u h due.asked; below = omega (arith, same, below); until = x.until; some = λ none. due.some (ap (λ (s : State S L). s.pending) x.meets.state ∙ none) };
          meets = x.meets;
        }

    due_here : (u i : ℕ) → from < u → IsDueAt kind m d p u i → DueHere u i
    due_here u i h due =
        let x = alike.moves.back u i h due.until in
        let same = alike.bound in
        let below = due.below in
        record {
          steps = x.steps;
          due = record { asked = alike.asked u h due.asked; below = omega (arith, same, below); until = x.until; some = λ none. due.some (sym (ap (λ (s : State S L). s.pending) x.meets.state) ∙ none) };
        }

    -- ---- the next checkpoint is the same

    module _ (a b : Mark) (at : AtOnce a b) (k j : Kept) (x : IsNext kind saving m c o a k) (y : IsNext kind saving m d p b j) where
      k_past : from < k.time
      k_past = let past = at.past in let later = x.later in omega (arith, past, later)

      j_past : from < j.time
      j_past = let past = at.past in let same = at.time in let later = y.later in omega (arith, past, same, later)

      same_time : k.time ≡ j.time
      same_time = by_order (cases_lt k.time j.time) (cases_lt j.time k.time)
        where
          by_order : (k.time < j.time) ⊎ (j.time ≤ k.time) → (j.time < k.time) ⊎ (k.time ≤ j.time) → k.time ≡ j.time
          by_order (inl h) r =
              let due = due_there k.time x.steps k_past x.due in
              let same = at.time in
              let later = x.later in
              absurd (y.first k.time due.steps (omega (arith, same, later)) h due.due)
          by_order (inr h) (inl r) =
              let due = due_here j.time y.steps j_past y.due in
              let same = at.time in
              let later = y.later in
              absurd (x.first j.time due.steps (omega (arith, same, later)) r due.due)
          by_order (inr h) (inr r) = omega arith

      same_steps : Met x.steps y.steps
      same_steps =
          let due = due_there k.time x.steps k_past x.due in
          let w = (beginning kind m d).wires in
          let s = (beginning kind m d).state in
          let until = subst (λ t. IsUntil kind.handled w t due.steps s) same_time due.due.until in
          subst (Met x.steps) (until_one kind.handled w j.time due.steps y.steps s until y.due.until) due.meets

      same_lines : k.lines ≡ j.lines
      same_lines =
          append_cancel_left a.lines k.lines j.lines
          (x.lines
          ∙ same_steps.lines
          ∙ ap (λ l. front ++ l) (sym y.lines)
          ∙ sym (append_assoc front b.lines j.lines)
          ∙ ap (λ l. l ++ j.lines) (sym at.lines))

      same_bytes : k.bytes ≡ j.bytes
      same_bytes =
          x.bytes
          ∙ ap (λ t. checkpoint_text saving c.graph t (state_after kind m c x.steps)) same_time
          ∙ ap (checkpoint_text saving c.graph j.time) same_steps.state
          ∙ ap (λ g. checkpoint_text saving g j.time (state_after kind m d y.steps)) (sym alike.graph)
          ∙ sym y.bytes

      pub same_next : k ≡ j
      same_next = kept_is k j same_time same_lines same_bytes

      pub at_next : AtOnce (mark_after a k) (mark_after b j)
      at_next = record {
        time = sym same_time;
        lines = ap (λ l. l ++ k.lines) at.lines ∙ append_assoc front b.lines k.lines ∙ ap (λ l. front ++ (b.lines ++ l)) same_lines;
        past = let past = k_past in omega (arith, past);
      }

    -- ---- all of them are the same

    -- none is left in the one where none is in the other
    none_there : (a b : Mark) → AtOnce a b → NoneLeft kind saving m c o a → (j : Kept) → IsNext kind saving m d p b j → ⊥
    none_there a b at none j y =
        let past = at.past in
        let same = at.time in
        let later = y.later in
        let due = due_here j.time y.steps (omega (arith, past, same, later)) y.due in
        none j.time due.steps (omega (arith, same, later)) due.due

    none_here : (a b : Mark) → AtOnce a b → NoneLeft kind saving m d p b → (k : Kept) → IsNext kind saving m c o a k → ⊥
    none_here a b at none k x =
        let past = at.past in
        let same = at.time in
        let later = x.later in
        let due = due_there k.time x.steps (omega (arith, past, later)) x.due in
        none k.time due.steps (omega (arith, same, later)) due.due

    pub all_same : (a b : Mark) (ks js : List Kept) → AtOnce a b → AreKept kind saving m c o a ks → AreKept kind saving m d p b js → NoneLeft kind saving m c o (mark_of a ks) → NoneLeft kind saving m d p (mark_of b js) → ks ≡ js
    all_same a b [] [] at x y none other = refl
    all_same a b [] (j ∷ js) at x y none other = absurd (none_there a b at none j y.0)
    all_same a b (k ∷ ks) [] at x y none other = absurd (none_here a b at other k x.0)
    all_same a b (k ∷ ks) (j ∷ js) at x y none other =
        let same : k ≡ j = same_next a b at k j x.0 y.0 in
        let rest : ks ≡ js = all_same (mark_after a k) (mark_after b j) ks js (at_next a b at k j x.0 y.0) x.2 y.2 none other in
        ap (λ i. i ∷ ks) same ∙ ap (λ is. j ∷ is) rest

    -- ---- a limit that is passed

    -- a checkpoint that passes none behind so many others passes none behind as many or fewer
    not_passed : (a b : Mark) (k j : Kept) (v : LimitKind × ℕ) → b.count ≤ a.count → k ≡ j → passed a.count (length k.bytes) ≡ None → passed b.count (length j.bytes) ≡ Some v → ⊥
    not_passed a b k j v few same none some =
        let here : passed a.count (length j.bytes) ≡ None = ap (λ (i : Kept). passed a.count (length i.bytes)) (sym same) ∙ none in
        let there : passed b.count (length j.bytes) ≡ None = none_sooner a.count b.count (length j.bytes) few here in
        cc

    -- where the first passes no limit, the other, which counts fewer, passes none
    pub no_limit : (a b : Mark) (ks js : List Kept) (j : Kept) (v : LimitKind × ℕ) → AtOnce a b → b.count ≤ a.count → AreKept kind saving m c o a ks → NoneLeft kind saving m c o (mark_of a ks) → AreKept kind saving m d p b js → IsNext kind saving m d p (mark_of b js) j → passed (mark_of b js).count (length j.bytes) ≡ Some v → ⊥
    no_limit a b [] [] j v at few x none y next some = none_there a b at none j next
    no_limit a b [] (i ∷ js) j v at few x none y next some = none_there a b at none i y.0
    no_limit a b (k ∷ ks) [] j v at few x none y next some = not_passed a b k j v few (same_next a b at k j x.0 next) x.1 some
    no_limit a b (k ∷ ks) (i ∷ js) j v at few x none y next some =
        no_limit (mark_after a k) (mark_after b i) ks js j v (at_next a b at k i x.0 y.0) (omega (arith, few)) x.2 none y.2 next some

    pub record SameLimit (ks js : List Kept) (k j : Kept) (u v : LimitKind × ℕ) : Type 0 where
      pub kept : ks ≡ js
      pub next : k ≡ j
      pub limit : u ≡ v

    -- and where both count the same, both pass the same
    pub one_limit : (a b : Mark) (ks js : List Kept) (k j : Kept) (u v : LimitKind × ℕ) → AtOnce a b → a.count ≡ b.count → AreKept kind saving m c o a ks → AreKept kind saving m d p b js →
        IsNext kind saving m c o (mark_of a ks) k → IsNext kind saving m d p (mark_of b js) j → passed (mark_of a ks).count (length k.bytes) ≡ Some u → passed (mark_of b js).count (length j.bytes) ≡ Some v → SameLimit ks js k j u v
    one_limit a b [] [] k j u v at count x y next other some also =
        let same : k ≡ j = same_next a b at k j next other in
        let both : Some u ≡ Some v = sym some ∙ ap (λ n. passed n (length k.bytes)) count ∙ ap (λ (i : Kept). passed b.count (length i.bytes)) same ∙ also in
        record { kept = refl; next = same; limit = cc }
    one_limit a b [] (i ∷ js) k j u v at count x y next other some also =
        let same : k ≡ i = same_next a b at k i next y.0 in
        let none : Some u ≡ None = sym some ∙ ap (λ n. passed n (length k.bytes)) count ∙ ap (λ (i : Kept). passed b.count (length i.bytes)) same ∙ y.1 in
        absurd cc
    one_limit a b (h ∷ ks) [] k j u v at count x y next other some also = absurd (not_passed a b h j v (omega (arith, count)) (same_next a b at h j x.0 other) x.1 also)
    one_limit a b (h ∷ ks) (i ∷ js) k j u v at count x y next other some also =
        let same : h ≡ i = same_next a b at h i x.0 y.0 in
        let rest = one_limit (mark_after a h) (mark_after b i) ks js k j u v (at_next a b at h i x.0 y.0) (ap suc count) x.2 y.2 next other some also in
        record { kept = ap (λ g. g ∷ ks) same ∙ ap (λ gs. i ∷ gs) rest.kept; next = rest.next; limit = rest.limit }
