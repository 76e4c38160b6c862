-- Lines that lead from one part to another, and the least of their latencies.
use Rattle.std.proofs.Common.{◌≡◌, ◌≢◌, ℕ, zero, suc, ◌+◌, ◌*◌, ◌/◌, ◌%◌, ◌^◌, ◌<◌, ◌≤◌, ◌⊎◌, inl, inr, Bool, true, false, not, cond, List, length, map, get_or, refl, sym, ◌∙◌, ap, subst, arith, min, add-one, Option, Some, None}
use Rattle.std.specs.Prelude.{◌==◌, filter, slice_get}
use Rattle.std.specs.List.{range_with_len}
use Rattle.std.proofs.lemmas.Bool.Decides.{nat_tests}
use Rattle.std.proofs.lemmas.Option.{slice_get_cases}
use Rattle.ss_graph.specs.declared.graph.Graph.{Graph}
use Rattle.ss_graph.specs.declared.graph.Join.{Join}
use Rattle.ss_graph.specs.Fit.{IsFit, IsSoundLink, lat, line_ends, line_ends_by}
use Rattle.ss_part.specs.Cut.{least, crosses, cut}
use Rattle.ss_part.specs.Nearness.{weight}
use Rattle.ss_part.proofs.Leasts.{least_more}

module _ (f : ℕ → ℕ) (p : ℕ → Bool) where
  abbrev least_below : ℕ → ℕ
  least_below k = least (map f (filter p (range_with_len 0 k)))

  one_on : (k : ℕ) → least_below (suc k) ≡ cond (p k) (min (least_below k) (f k)) (least_below k)
  one_on k = ap least_below (sym (add-one k)) ∙ least_more f p k (least_below k) refl

  -- the least is 2^62, or it is there
  abbrev Attained : ℕ → Type 0
  Attained k = (least_below k ≡ 2 ^ 62) ⊎ ((j : ℕ) × (j < k) × (p j ≡ true) × (f j ≡ least_below k))

  further : (k n : ℕ) → least_below k ≡ n → Attained k → (n ≡ 2 ^ 62) ⊎ ((j : ℕ) × (j < suc k) × (p j ≡ true) × (f j ≡ n))
  further k n e (inl h) = inl (sym e ∙ h)
  further k n e (inr (j, h, t, v)) = inr (j, omega arith, t, v ∙ e)

  min_or : (a b : ℕ) → (min a b ≡ a) ⊎ (min a b ≡ b)
  min_or a b = grind arith

  by_test : (b : Bool) (k : ℕ) → p k ≡ b → least_below (suc k) ≡ cond b (min (least_below k) (f k)) (least_below k) → Attained k → Attained (suc k)
  by_test false k t e a = further k (least_below (suc k)) (sym e) a
  by_test true k t e a = go (min_or (least_below k) (f k)) where
    go : (min (least_below k) (f k) ≡ least_below k) ⊎ (min (least_below k) (f k) ≡ f k) → Attained (suc k)
    go (inl same) = further k (least_below (suc k)) (sym (e ∙ same)) a
    go (inr here) = inr (k, omega arith, t, sym (e ∙ here))

  pub attained : (k : ℕ) → Attained k
  unfolding least
  attained zero = inl refl
  attained (suc k) = by_test (p k) k refl (one_on k) (attained k)

  falls : (b : Bool) (k : ℕ) → least_below (suc k) ≡ cond b (min (least_below k) (f k)) (least_below k) → least_below (suc k) ≤ least_below k
  falls true k e = omega (arith, e)
  falls false k e = omega (arith, e)

  falls_to : (b : Bool) (k : ℕ) → b ≡ true → least_below (suc k) ≡ cond b (min (least_below k) (f k)) (least_below k) → least_below (suc k) ≤ f k
  falls_to true k t e = omega (arith, e)
  falls_to false k t e = absurd cc

  -- it is at most 2^62, and at most what any that passes has
  pub at_most_top : (k : ℕ) → least_below k ≤ 2 ^ 62
  unfolding least
  at_most_top zero = omega arith
  at_most_top (suc k) = omega (arith, falls (p k) k (one_on k), at_most_top k)

  eq_or : (j k : ℕ) → j < suc k → (j ≡ k) ⊎ (j < k)
  eq_or j k h = grind arith

  at_most_by : (j k : ℕ) → (j < k → least_below k ≤ f j) → p j ≡ true → (j ≡ k) ⊎ (j < k) → least_below (suc k) ≤ f j
  at_most_by j k rest t (inl e) = subst (λ m. least_below (suc k) ≤ f m) (sym e) (falls_to (p k) k (ap p (sym e) ∙ t) (one_on k))
  at_most_by j k rest t (inr h) = let r = rest h in omega (arith, falls (p k) k (one_on k), r)

  pub at_most : (j k : ℕ) → j < k → p j ≡ true → least_below k ≤ f j
  at_most j zero h t = absurd (omega arith)
  at_most j (suc k) h t = at_most_by j k (λ w. at_most j k w t) t (eq_or j k h)

-- ---- lines of a graph

module _ (g : Graph) (list : List ℕ) where
  pub cut_attained : (cut g list ≡ 2 ^ 62) ⊎ ((line : ℕ) × (line < 2 * length g.links) × (crosses g list line ≡ true) × (lat g line ≡ cut g list))
  unfolding cut
  cut_attained = attained (lat g) (crosses g list) (2 * length g.links)

  pub cut_most : cut g list ≤ 2 ^ 62
  unfolding cut
  cut_most = at_most_top (lat g) (crosses g list) (2 * length g.links)

  pub cut_at : (line : ℕ) → line < 2 * length g.links → crosses g list line ≡ true → cut g list ≤ lat g line
  unfolding cut
  cut_at line h t = at_most (lat g) (crosses g list) line (2 * length g.links) h t

-- the ends of a link's first line
abbrev pub left_of : Graph → ℕ → ℕ
left_of g link = (line_ends g (2 * link)).0

abbrev pub right_of : Graph → ℕ → ℕ
right_of g link = (line_ends g (2 * link)).1

module _ (g : Graph) where
  half : (link : ℕ) → 2 * link / 2 ≡ link
  half link = omega arith

  even : (link : ℕ) → 2 * link % 2 ≡ 0
  even link = omega arith

  half_odd : (link : ℕ) → (2 * link + 1) / 2 ≡ link
  half_odd link = omega arith

  odd : (link : ℕ) → (2 * link + 1) % 2 ≡ 1
  odd link = omega arith

  onward : (link : ℕ) → line_ends g (2 * link) ≡ line_ends_by (slice_get g.links link) 0
  onward link = ap (λ m. line_ends_by (slice_get g.links m) (2 * link % 2)) (half link) ∙ ap (λ m. line_ends_by (slice_get g.links link) m) (even link)

  back : (link : ℕ) → line_ends g (2 * link + 1) ≡ line_ends_by (slice_get g.links link) 1
  back link = ap (λ m. line_ends_by (slice_get g.links m) ((2 * link + 1) % 2)) (half_odd link) ∙ ap (λ m. line_ends_by (slice_get g.links link) m) (odd link)

  turned : (o : Option Join) → line_ends_by o 1 ≡ ((line_ends_by o 0).1, (line_ends_by o 0).0)
  turned None = refl
  turned (Some j) = refl

  pub turned_back : (link : ℕ) → line_ends g (2 * link + 1) ≡ (right_of g link, left_of g link)
  turned_back link = back link ∙ turned (slice_get g.links link) ∙ ap (λ (e : ℕ × ℕ). (e.1, e.0)) (sym (onward link))

  -- a link's ends are components
  ends_by : 0 < length g.components → IsFit g → (o : Option Join) → ((j : Join) → o ≡ Some j → IsSoundLink g.components j) → ((line_ends_by o 0).0 < length g.components) × ((line_ends_by o 0).1 < length g.components)
  ends_by some fit None s = (some, some)
  ends_by some fit (Some j) s = ((s j refl).left, (s j refl).right)

  sound_at : IsFit g → (link : ℕ) (j : Join) → slice_get g.links link ≡ Some j → IsSoundLink g.components j
  sound_at fit link j e = go (slice_get_cases g.links link).1 where
    go : ((x : Join) × (link < length g.links) × (slice_get g.links link ≡ Some x) × (get_or g.links link x ≡ x)) ⊎ ((length g.links ≤ link) × (slice_get g.links link ≡ None)) → IsSoundLink g.components j
    go (inl (x, h, f, v)) = let same : x ≡ j = cc in subst (λ k. IsSoundLink g.components k) (v ∙ same) (fit.links link x h)
    go (inr (h, f)) = absurd cc

  pub ends_within : 0 < length g.components → IsFit g → (link : ℕ) → (left_of g link < length g.components) × (right_of g link < length g.components)
  ends_within some fit link =
      let e = ends_by some fit (slice_get g.links link) (sound_at fit link) in
      subst (λ (p : ℕ × ℕ). (p.0 < length g.components) × (p.1 < length g.components)) (sym (onward link)) e

-- ---- links that cross

module _ (g : Graph) (list : List ℕ) where
  apart_test : (a b : ℕ) → a ≢ b → not (a == b) ≡ true
  apart_test a b h = grind (arith, nat_tests)

  test_apart : (a b : ℕ) → not (a == b) ≡ true → a ≢ b
  test_apart a b h = λ e. grind (arith, nat_tests)

  -- both lines of a link whose ends are in different parts
  pub both_cross : (link : ℕ) → get_or list (left_of g link) 0 ≢ get_or list (right_of g link) 0 → (crosses g list (2 * link) ≡ true) × (crosses g list (2 * link + 1) ≡ true)
  unfolding crosses
  both_cross link h = (
    apart_test (get_or list (left_of g link) 0) (get_or list (right_of g link) 0) h,
    ap (λ (e : ℕ × ℕ). not (get_or list e.0 0 == get_or list e.1 0)) (turned_back g link) ∙ apart_test (get_or list (right_of g link) 0) (get_or list (left_of g link) 0) (λ e. h (sym e)),
  )

  pub cut_by_weight : (link : ℕ) → link < length g.links → get_or list (left_of g link) 0 ≢ get_or list (right_of g link) 0 → cut g list ≤ weight g link
  unfolding weight
  cut_by_weight link h apart =
      let t = both_cross link apart in
      let first = cut_at g list (2 * link) (omega arith) t.0 in
      let second = cut_at g list (2 * link + 1) (omega arith) t.1 in
      omega (arith, first, second)

  crossing_even : (link : ℕ) → crosses g list (2 * link) ≡ true → get_or list (left_of g link) 0 ≢ get_or list (right_of g link) 0
  unfolding crosses
  crossing_even link t = test_apart (get_or list (left_of g link) 0) (get_or list (right_of g link) 0) t

  crossing_odd : (link : ℕ) → crosses g list (2 * link + 1) ≡ true → get_or list (left_of g link) 0 ≢ get_or list (right_of g link) 0
  unfolding crosses
  crossing_odd link t =
      let u = ap (λ (e : ℕ × ℕ). not (get_or list e.0 0 == get_or list e.1 0)) (sym (turned_back g link)) ∙ t in
      λ e. test_apart (get_or list (right_of g link) 0) (get_or list (left_of g link) 0) u (sym e)

  -- a line that crosses is one of a link whose ends are apart, and has at least the link's weight
  pub record Crosses (line link : ℕ) : Type 0 where
    pub real : link < length g.links
    pub apart : get_or list (left_of g link) 0 ≢ get_or list (right_of g link) 0
    pub heavy : weight g link ≤ lat g line

  even_or : (line : ℕ) → (line ≡ 2 * (line / 2)) ⊎ (line ≡ 2 * (line / 2) + 1)
  even_or line = grind arith

  pub link_of : (line : ℕ) → line < 2 * length g.links → crosses g list line ≡ true → Crosses line (line / 2)
  unfolding weight
  link_of line h t = go (even_or line) where
    go : (line ≡ 2 * (line / 2)) ⊎ (line ≡ 2 * (line / 2) + 1) → Crosses line (line / 2)
    go (inl e) = record { real = omega arith; apart = crossing_even (line / 2) (ap (crosses g list) (sym e) ∙ t); heavy = omega (arith, ap (lat g) e) }
    go (inr e) = record { real = omega arith; apart = crossing_odd (line / 2) (ap (crosses g list) (sym e) ∙ t); heavy = omega (arith, ap (lat g) e) }
