-- Where the times stand that cuts leave out.
use Rattle.std.proofs.Common.{◌≡◌, ℕ, zero, suc, ◌<◌, inl, inr, List, [], ◌∷◌, ◌++◌, length, sym, ap, ◌∙◌, subst, arith}
use Rattle.std.specs.Prelude.{slice_index_or}
use Rattle.std.specs.List.{All, Contains}
use Rattle.std.proofs.lemmas.List.Elements.{All-contains, All-head, All-tail, Contains-get_or}
use Rattle.ss_model.specs.declared.Line.{Line}
use Rattle.ss_model.specs.End.{Outcome}
use Rattle.ss_element.specs.Kind.{Kind}
use Rattle.ss_element.specs.Saving.{Saving}
use Rattle.ss_graph.specs.declared.graph.Graph.{Graph}
use Rattle.ss_piece.specs.Pieces.{Slip}
use Rattle.ss_compose.specs.Compose.{composed}
use Rattle.ss_run.specs.declared.RunSpec.{RunSpec}
use Rattle.ss_run.specs.Meaning.{Meaning}
use Rattle.ss_join.specs.Cutting.{Given}
use Rattle.ss_join.specs.Checkpoints.{AreCuts, AreEarlier, AreLater, StandsIn}
use Rattle.ss_course.specs.Kept.{Kept}
use Rattle.ss_printed.specs.Printed.{kept_at, kept_in, left_over}
use Rattle.ss_printed.proofs.Following.{contains_cases}
use Rattle.ss_printed.proofs.Allowing.{Has, Behind, AreBefore, Covered}

-- ---- among checkpoints

has_left : (ks js : List Kept) (u : ℕ) → Has ks u → Has (ks ++ js) u
has_left [] js u h = absurd h
has_left (k ∷ ks) js u (inl e) = inl e
has_left (k ∷ ks) js u (inr h) = inr (has_left ks js u h)

has_right : (ks js : List Kept) (u : ℕ) → Has js u → Has (ks ++ js) u
has_right [] js u h = h
has_right (k ∷ ks) js u h = inr (has_right ks js u h)

has_at : (g : Graph) (ps : List Slip) (carried : List Line) (ts : List ℕ) (u : ℕ) → Contains ts u → Has (kept_at g ps carried ts) u
has_at g ps carried [] u h = let lt = h.1 in absurd (omega (arith, lt))
has_at g ps carried (t ∷ ts) u h = elim (contains_cases t ts u h) [ inl e ↦ inl e | inr y ↦ inr (has_at g ps [] ts u y) ]

behind_fewer : (n : ℕ) (ks : List Kept) (u : ℕ) → Behind (suc n) ks u → Behind n ks u
behind_fewer zero ks u h = tt
behind_fewer (suc n) [] u h = h
behind_fewer (suc n) (k ∷ ks) u h = (h.0, behind_fewer n ks u h.1)

behind_one : (n : ℕ) (k : Kept) (ks : List Kept) (u : ℕ) → k.time < u → Behind n ks u → Behind n (k ∷ ks) u
behind_one zero k ks u lt h = tt
behind_one (suc n) k ks u lt h = (lt, behind_fewer n ks u h)

behind_left : (g : Graph) (ps : List Slip) (carried : List Line) (ts : List ℕ) (js : List Kept) (u : ℕ) → All (λ t. t < u) ts → Behind (length ts) (kept_at g ps carried ts ++ js) u
behind_left g ps carried [] js u all = tt
behind_left g ps carried (t ∷ ts) js u all = (All-head (λ x. x < u) t ts all, behind_left g ps [] ts js u (All-tail (λ x. x < u) t ts all))

behind_right : (g : Graph) (ps : List Slip) (n : ℕ) (carried : List Line) (ts : List ℕ) (js : List Kept) (u : ℕ) → All (λ t. t < u) ts → Behind n js u → Behind n (kept_at g ps carried ts ++ js) u
behind_right g ps n carried [] js u all h = h
behind_right g ps n carried (t ∷ ts) js u all h =
    behind_one n (record { time = t; lines = carried; bytes = composed g t ps }) (kept_at g ps [] ts ++ js) u (All-head (λ x. x < u) t ts all) (behind_right g ps n [] ts js u (All-tail (λ x. x < u) t ts all) h)

before_right : (g : Graph) (ps : List Slip) (carried : List Line) (ts : List ℕ) (js : List Kept) (u : ℕ) → All (λ t. t < u) ts → AreBefore js u → AreBefore (kept_at g ps carried ts ++ js) u
before_right g ps carried [] js u all h = h
before_right g ps carried (t ∷ ts) js u all h = (All-head (λ x. x < u) t ts all, before_right g ps [] ts js u (All-tail (λ x. x < u) t ts all) h)

-- ---- among those of cuts

has_in : (g : Graph) (carried : List Line) (cs : List Given) (d : Given) (u : ℕ) → Contains cs d → Contains d.saves u → Has (kept_in g carried cs) u
has_in g carried [] d u among here = let lt = among.1 in absurd (omega (arith, lt))
has_in g carried (c ∷ cs) d u among here = elim (contains_cases c cs d among) [
  | inl e ↦ has_left (kept_at g c.pieces (carried ++ c.lines) c.saves) (kept_in g (left_over (carried ++ c.lines) c.saves) cs) u
      (has_at g c.pieces (carried ++ c.lines) c.saves u (subst (λ (x : Given). Contains x.saves u) (sym e) here))
  | inr y ↦ has_right (kept_at g c.pieces (carried ++ c.lines) c.saves) (kept_in g (left_over (carried ++ c.lines) c.saves) cs) u (has_in g (left_over (carried ++ c.lines) c.saves) cs d u y here)
]

before_in : (g : Graph) (carried : List Line) (cs : List Given) (u : ℕ) → AreEarlier cs u → AreBefore (kept_in g carried cs) u
before_in g carried [] u h = tt
before_in g carried (c ∷ cs) u h = before_right g c.pieces (carried ++ c.lines) c.saves (kept_in g (left_over (carried ++ c.lines) c.saves) cs) u h.0 (before_in g (left_over (carried ++ c.lines) c.saves) cs u h.1)

-- the times of one cut lie behind those of the cuts before it
later_than : (ts : List ℕ) (cs : List Given) (d : Given) (t u : ℕ) → AreLater ts cs → Contains cs d → Contains ts t → Contains d.saves u → t < u
later_than ts [] d t u h among there here = let lt = among.1 in absurd (omega (arith, lt))
later_than ts (c ∷ cs) d t u h among there here = elim (contains_cases c cs d among) [
  | inl e ↦ h.0 t u there (subst (λ (x : Given). Contains x.saves u) (sym e) here)
  | inr y ↦ later_than ts cs d t u h.1 y there here
]

all_by_contains : (P : ℕ → Type 0) (ts : List ℕ) → ((t : ℕ) → Contains ts t → P t) → All P ts
all_by_contains P ts f = λ k d lt. f (slice_index_or ts k d) (Contains-get_or ts k d lt)

module _ {S L : Type 0} (kind : Kind S L) (saving : Saving S L) (m : Meaning S L) (r : RunSpec) (o : Outcome) where
  behind_in : (g : Graph) (carried before : List Line) (cs : List Given) (d : Given) (u : ℕ) → AreCuts kind saving m r o before cs → Contains cs d → length d.saves ≡ 1025 → All (λ t. t < u) d.saves → Behind 1025 (kept_in g carried cs) u
  behind_in g carried before [] d u are among long all = let lt = among.1 in absurd (omega (arith, lt))
  behind_in g carried before (c ∷ cs) d u are among long all = elim (contains_cases c cs d among) [
    | inl e ↦ subst (λ n. Behind n (kept_at g c.pieces (carried ++ c.lines) c.saves ++ kept_in g (left_over (carried ++ c.lines) c.saves) cs) u) (ap (λ (x : Given). length x.saves) e ∙ long)
        (behind_left g c.pieces (carried ++ c.lines) c.saves (kept_in g (left_over (carried ++ c.lines) c.saves) cs) u (subst (λ (x : Given). All (λ t. t < u) x.saves) (sym e) all))
    | inr y ↦
        let v = slice_index_or d.saves 0 0 in
        let there : Contains d.saves v = Contains-get_or d.saves 0 0 (omega (arith, long)) in
        let before_u : v < u = All-contains (λ t. t < u) d.saves v all there in
        behind_right g c.pieces 1025 (carried ++ c.lines) c.saves (kept_in g (left_over (carried ++ c.lines) c.saves) cs) u
        (all_by_contains (λ t. t < u) c.saves (λ t h. let a = later_than c.saves cs d t v are.1 y h there in omega (arith, a, before_u)))
        (behind_in g (left_over (carried ++ c.lines) c.saves) (before ++ c.lines) cs d u are.2 y long all)
  ]

  -- a checkpoint time that stands in a cut, or behind 1,025 of one, or behind them all
  pub stands_covered : (Q : Type 0) (g : Graph) (cs : List Given) (u : ℕ) → AreCuts kind saving m r o [] cs → StandsIn kind m r cs u → Covered Q 1025 (kept_in g [] cs) u
  stands_covered Q g cs u are s = elim s.there [
    | inl here ↦ inl (has_in g [] cs s.cut u s.among here)
    | inr most ↦ inr (inl (behind_in g [] [] cs s.cut u are s.among most.0 most.1))
  ]

pub earlier_covered : (Q : Type 0) (g : Graph) (cs : List Given) (u : ℕ) → Q → AreEarlier cs u → Covered Q 1025 (kept_in g [] cs) u
earlier_covered Q g cs u q h = inr (inr (before_in g [] cs u h, q))
