-- Names of groups when two groups are joined.
use Rattle.std.proofs.Common.{◌≡◌, ◌≢◌, ℕ, zero, suc, ◌+◌, ◌<◌, ◌≤◌, ◌⊎◌, inl, inr, Bool, true, false, cond, List, [], ◌∷◌, length, map, get_or, refl, sym, ◌∙◌, ap, subst, arith}
use Rattle.std.specs.Prelude.{◌==◌}
use Rattle.std.proofs.lemmas.Bool.Decides.{nat_tests}
use Rattle.std.proofs.lemmas.List.{get_or-map, length-map}
use Rattle.ss_part.specs.Forest.{IsNaming}
use Rattle.ss_part.specs.Groups.{groups_below, groups}

-- high becomes low
abbrev pub moved : ℕ → ℕ → ℕ → ℕ
moved low high k = cond (k == high) low k

pub moved_here : (low high k : ℕ) → k ≡ high → moved low high k ≡ low
moved_here low high k e = grind (arith, nat_tests)

pub moved_else : (low high k : ℕ) → k ≢ high → moved low high k ≡ k
moved_else low high k n = grind (arith, nat_tests)

pub same_or_not : (a b : ℕ) → (a ≡ b) ⊎ (a ≢ b)
same_or_not a b = go (a == b) refl where
  go : (t : Bool) → (a == b) ≡ t → (a ≡ b) ⊎ (a ≢ b)
  go true e = inl (grind (arith, nat_tests))
  go false e = inr (λ h. grind (arith, nat_tests))

abbrev pub shifted : ℕ → ℕ → List ℕ → List ℕ
shifted low high names = map (moved low high) names

pub at_shifted : (low high : ℕ) (names : List ℕ) (c : ℕ) → c < length names → get_or (shifted low high names) c 0 ≡ moved low high (get_or names c 0)
at_shifted low high names c within = get_or-map (moved low high) names c 0 0 within

pub length_shifted : (low high : ℕ) (names : List ℕ) → length (shifted low high names) ≡ length names
length_shifted low high names = length-map names (moved low high)

-- two names of groups
pub record AreNames (low high : ℕ) (names : List ℕ) : Type 0 where
  pub order : low ≤ high
  pub within : high < length names
  pub is_low : get_or names low 0 ≡ low
  pub is_high : get_or names high 0 ≡ high

module _ (low high : ℕ) (names : List ℕ) (n : IsNaming names) (t : AreNames low high names) where
  at : (c : ℕ) → c < length names → get_or (shifted low high names) c 0 ≡ moved low high (get_or names c 0)
  at = at_shifted low high names

  -- low keeps its name
  low_stays : get_or (shifted low high names) low 0 ≡ low
  low_stays = at low (omega (arith, t.order, t.within)) ∙ ap (moved low high) t.is_low ∙ grind (arith, nat_tests)

  own_by : (c : ℕ) → c < length names → (get_or names c 0 ≡ high) ⊎ (get_or names c 0 ≢ high) → get_or (shifted low high names) (get_or (shifted low high names) c 0) 0 ≡ get_or (shifted low high names) c 0
  own_by c within (inl e) =
      let here = at c within ∙ moved_here low high (get_or names c 0) e in
      ap (λ k. get_or (shifted low high names) k 0) here ∙ low_stays ∙ sym here
  own_by c within (inr e) =
      let here = at c within ∙ moved_else low high (get_or names c 0) e in
      let inside : get_or names c 0 < length names = omega (arith, n.lowest c within) in
      ap (λ k. get_or (shifted low high names) k 0) here ∙ at (get_or names c 0) inside ∙ ap (moved low high) (n.own c within) ∙ moved_else low high (get_or names c 0) e ∙ sym here

  low_by : (c k : ℕ) → k ≤ c → (k ≡ high) ⊎ (k ≢ high) → moved low high k ≤ c
  low_by c k h (inl e) = subst (λ m. m ≤ c) (sym (moved_here low high k e)) (omega (arith, t.order))
  low_by c k h (inr e) = subst (λ m. m ≤ c) (sym (moved_else low high k e)) h

  pub shifted_naming : IsNaming (shifted low high names)
  shifted_naming = record {
    own = λ c h. let within : c < length names = rw (length_shifted low high names) at h in own_by c within (same_or_not (get_or names c 0) high);
    lowest = λ c h. let within : c < length names = rw (length_shifted low high names) at h in subst (λ m. m ≤ c) (sym (at c within)) (low_by c (get_or names c 0) (n.lowest c within) (same_or_not (get_or names c 0) high));
  }

  -- which components still name a group, where two different ones were joined
  still_by : low ≢ high → (c : ℕ) → c < length names → c ≢ high → (get_or names c 0 ≡ high) ⊎ (get_or names c 0 ≢ high) → (get_or (shifted low high names) c 0 == c) ≡ (get_or names c 0 == c)
  still_by apart c within other (inl e) =
      let here : get_or (shifted low high names) c 0 ≡ low = at c within ∙ moved_here low high (get_or names c 0) e in
      let gone : low ≢ c = λ k. apart (sym t.is_low ∙ ap (λ m. get_or names m 0) k ∙ e) in
      grind (arith, nat_tests)
  still_by apart c within other (inr e) = ap (λ m. m == c) (at c within ∙ moved_else low high (get_or names c 0) e)

  gone : low ≢ high → (get_or (shifted low high names) high 0 == high) ≡ false
  gone apart =
      let here : get_or (shifted low high names) high 0 ≡ low = at high t.within ∙ moved_here low high (get_or names high 0) t.is_high in
      grind (arith, nat_tests)

  -- one group fewer, above the higher name
  pub below_high : low ≢ high → (k : ℕ) → k ≤ high → groups_below (shifted low high names) k ≡ groups_below names k
  unfolding groups_below
  below_high apart zero h = refl
  below_high apart (suc k) h =
      let e = still_by apart k (omega (arith, t.within)) (λ q. absurd (omega arith)) (same_or_not (get_or names k 0) high) in
      let r = below_high apart k (omega arith) in
      rw (e, r) refl

  step_there : low ≢ high → groups_below (shifted low high names) (suc high) + 1 ≡ groups_below names (suc high)
  unfolding groups_below
  step_there apart =
      let named : (get_or names high 0 == high) ≡ true = let e = t.is_high in grind (arith, nat_tests) in
      rw (gone apart, named, below_high apart high (omega arith)) refl

  step_past : low ≢ high → (k : ℕ) → k ≢ high → k < length names → groups_below (shifted low high names) k + 1 ≡ groups_below names k → groups_below (shifted low high names) (suc k) + 1 ≡ groups_below names (suc k)
  unfolding groups_below
  step_past apart k other within h =
      let e = still_by apart k within other (same_or_not (get_or names k 0) high) in
      rw e (last (get_or names k 0 == k)) where
        last : (b : Bool) → cond b (groups_below (shifted low high names) k + 1) (groups_below (shifted low high names) k) + 1 ≡ cond b (groups_below names k + 1) (groups_below names k)
        last true = ap (λ m. m + 1) h
        last false = h

  pub above_high : low ≢ high → (k : ℕ) → high < k → k ≤ length names → groups_below (shifted low high names) k + 1 ≡ groups_below names k
  above_high apart zero h w = absurd (omega arith)
  above_high apart (suc k) h w = go (λ past. above_high apart k past (omega arith)) (same_or_not k high) where
    go : (high < k → groups_below (shifted low high names) k + 1 ≡ groups_below names k) → (k ≡ high) ⊎ (k ≢ high) → groups_below (shifted low high names) (suc k) + 1 ≡ groups_below names (suc k)
    go below (inl e) = subst (λ m. groups_below (shifted low high names) (suc m) + 1 ≡ groups_below names (suc m)) (sym e) (step_there apart)
    go below (inr e) = step_past apart k e (omega arith) (below (omega arith))

  pub one_fewer : low ≢ high → groups (shifted low high names) + 1 ≡ groups names
  unfolding groups
  one_fewer apart = ap (λ m. groups_below (shifted low high names) m + 1) (length_shifted low high names) ∙ above_high apart (length names) t.within (omega arith)

-- joining a group with itself changes nothing
same_by : (low k : ℕ) → moved low low k ≡ k
same_by low k = grind (arith, nat_tests)

pub shifted_same : (low : ℕ) (names : List ℕ) → shifted low low names ≡ names
shifted_same low [] = refl
shifted_same low (k ∷ ks) = ap (λ m. m ∷ shifted low low ks) (same_by low k) ∙ ap (λ ms. k ∷ ms) (shifted_same low ks)
