-- The numbers of the parts, after the groups of highest names are joined.
use Rattle.std.proofs.Common.{◌≡◌, ◌≢◌, ℕ, zero, suc, ◌+◌, ◌-◌, ◌<◌, ◌≤◌, ◌⊎◌, inl, inr, true, false, List, length, map, get_or, refl, sym, ◌∙◌, ap, subst, arith, min, max}
use Rattle.std.specs.Prelude.{◌==◌}
use Rattle.std.specs.List.{range_with_len}
use Rattle.std.proofs.lemmas.Bool.Decides.{nat_tests}
use Rattle.std.proofs.lemmas.List.{get_or-map, length-map}
use Rattle.std.proofs.lemmas.List.FromFn.{fill_by_all}
use Rattle.ss_part.specs.Forest.{IsNaming}
use Rattle.ss_part.specs.Groups.{groups_below, groups, joined, highest, lowered, lowered_by, numbered}
use Rattle.ss_part.specs.Nearness.{gathered}
use Rattle.ss_part.proofs.Naming.{moved_here, moved_else, shifted, at_shifted, length_shifted, AreNames, shifted_naming, below_high, one_fewer, same_or_not}

module _ (names : List ℕ) where
  pub below_named : (k : ℕ) → get_or names k 0 ≡ k → groups_below names (suc k) ≡ groups_below names k + 1
  unfolding groups_below
  below_named k e = let t : (get_or names k 0 == k) ≡ true = grind (arith, nat_tests) in rw t refl

  pub below_other : (k : ℕ) → get_or names k 0 ≢ k → groups_below names (suc k) ≡ groups_below names k
  unfolding groups_below
  below_other k e = let t : (get_or names k 0 == k) ≡ false = grind (arith, nat_tests) in rw t refl

  more_by : (k : ℕ) → (get_or names k 0 ≡ k) ⊎ (get_or names k 0 ≢ k) → groups_below names k ≤ groups_below names (suc k)
  more_by k (inl e) = omega (arith, below_named k e)
  more_by k (inr e) = omega (arith, below_other k e)

  -- a higher bound has no fewer groups below it
  rises : (d k : ℕ) → groups_below names k ≤ groups_below names (d + k)
  rises zero k = let e : k ≡ zero + k = omega arith in omega (arith, ap (groups_below names) e)
  rises (suc d) k =
      let one = more_by (d + k) (same_or_not (get_or names (d + k) 0) (d + k)) in
      let rest = rises d k in
      let e : suc (d + k) ≡ suc d + k = omega arith in
      omega (arith, one, rest, ap (groups_below names) e)

  pub below_rises : (j k : ℕ) → j ≤ k → groups_below names j ≤ groups_below names k
  below_rises j k h = let e : k - j + j ≡ k = omega arith in let r = rises (k - j) j in omega (arith, r, ap (groups_below names) e)

  -- a name has fewer groups below it than there are below a higher bound
  pub name_below : (r k : ℕ) → get_or names r 0 ≡ r → r < k → groups_below names r < groups_below names k
  name_below r k e h = omega (arith, below_named r e, below_rises (suc r) k (omega arith))

  -- the highest name below a bound
  pub record IsHighest (k h : ℕ) : Type 0 where
    pub within : h < k
    pub named : get_or names h 0 ≡ h
    pub count : groups_below names h + 1 ≡ groups_below names k
    pub bound : (r : ℕ) → r < k → get_or names r 0 ≡ r → r ≤ h

  at_top : (k : ℕ) → get_or names k 0 ≡ k → highest names (suc k) ≡ k
  unfolding highest
  at_top k e = let t : (get_or names k 0 == k) ≡ true = grind (arith, nat_tests) in rw t refl

  under_top : (k : ℕ) → get_or names k 0 ≢ k → highest names (suc k) ≡ highest names k
  unfolding highest
  under_top k e = let t : (get_or names k 0 == k) ≡ false = grind (arith, nat_tests) in rw t refl

  bound_by : (k h : ℕ) → get_or names k 0 ≢ k → ((r : ℕ) → r < k → get_or names r 0 ≡ r → r ≤ h) → (r : ℕ) → r < suc k → get_or names r 0 ≡ r → (r ≡ k) ⊎ (r ≢ k) → r ≤ h
  bound_by k h other b r w e (inl same) = absurd (other (subst (λ m. get_or names m 0 ≡ m) same e))
  bound_by k h other b r w e (inr differ) = b r (omega arith) e

  highest_by : (k : ℕ) → (0 < groups_below names k → IsHighest k (highest names k)) → 0 < groups_below names (suc k) → (get_or names k 0 ≡ k) ⊎ (get_or names k 0 ≢ k) → IsHighest (suc k) (highest names (suc k))
  highest_by k rest some (inl e) = subst (λ h. IsHighest (suc k) h) (sym (at_top k e)) (record { within = omega arith; named = e; count = sym (below_named k e); bound = λ r w f. omega arith })
  highest_by k rest some (inr e) =
      let r = rest (omega (arith, below_other k e)) in
      subst (λ h. IsHighest (suc k) h) (sym (under_top k e)) (record { within = omega (arith, r.within); named = r.named; count = r.count ∙ sym (below_other k e); bound = λ q w f. bound_by k (highest names k) e r.bound q w f (same_or_not q k) })

  pub highest_is : (k : ℕ) → 0 < groups_below names k → IsHighest k (highest names k)
  unfolding groups_below
  highest_is zero some = absurd (omega arith)
  highest_is (suc k) some = highest_by k (highest_is k) some (same_or_not (get_or names k 0) k)

-- the number of a component's group
abbrev pub rank : List ℕ → ℕ → ℕ
rank names c = groups_below names (get_or names c 0)

pub rank_within : (names : List ℕ) (c : ℕ) → IsNaming names → c < length names → rank names c < groups names
unfolding groups
rank_within names c n h = name_below names (get_or names c 0) (length names) (n.own c h) (omega (arith, n.lowest c h))

-- what joining the two groups of highest names does
module _ (names : List ℕ) (n : IsNaming names) (two : 2 ≤ groups names) where
  top_is : IsHighest names (length names) (highest names (length names))
  unfolding groups
  top_is = highest_is names (length names) (omega arith)

  second_is : IsHighest names (highest names (length names)) (highest names (highest names (length names)))
  unfolding groups
  second_is = highest_is names (highest names (length names)) (omega (arith, top_is.count))

  pair : AreNames (highest names (highest names (length names))) (highest names (length names)) names
  pair = record { order = omega (arith, second_is.within); within = top_is.within; is_low = second_is.named; is_high = top_is.named }

  apart : highest names (highest names (length names)) ≢ highest names (length names)
  apart e = absurd (omega (arith, second_is.within))

  abbrev low : ℕ
  low = highest names (highest names (length names))

  abbrev high : ℕ
  high = highest names (length names)

  pub lowered_is : lowered names ≡ shifted low high names
  unfolding lowered joined
  lowered_is =
      let least : min low high ≡ low = omega (arith, second_is.within) in
      let most : max low high ≡ high = omega (arith, second_is.within) in
      ap (λ m. shifted m (max low high) names) least ∙ ap (λ m. shifted low m names) most

  pub lowered_naming : IsNaming (lowered names)
  lowered_naming = subst (λ s. IsNaming s) (sym lowered_is) (shifted_naming low high names n pair)

  pub lowered_fewer : groups (lowered names) + 1 ≡ groups names
  lowered_fewer = ap (λ s. groups s + 1) lowered_is ∙ one_fewer low high names n pair apart

  pub lowered_length : length (lowered names) ≡ length names
  lowered_length = ap length lowered_is ∙ length_shifted low high names

  rank_by : (c : ℕ) → c < length names → (get_or names c 0 ≡ high) ⊎ (get_or names c 0 ≢ high) → rank (shifted low high names) c ≡ min (rank names c) (groups names - 2)
  unfolding groups
  rank_by c h (inl e) =
      let to : get_or (shifted low high names) c 0 ≡ low = at_shifted low high names c h ∙ moved_here low high (get_or names c 0) e in
      let kept : groups_below (shifted low high names) low ≡ groups_below names low = below_high low high names n pair apart low (omega (arith, pair.order)) in
      let was : rank names c ≡ groups_below names high = ap (groups_below names) e in
      ap (groups_below (shifted low high names)) to ∙ kept ∙ omega (arith, was, top_is.count, second_is.count)
  rank_by c h (inr e) =
      let stays : get_or (shifted low high names) c 0 ≡ get_or names c 0 = at_shifted low high names c h ∙ moved_else low high (get_or names c 0) e in
      let under : get_or names c 0 ≤ high = top_is.bound (get_or names c 0) (omega (arith, n.lowest c h)) (n.own c h) in
      let kept : groups_below (shifted low high names) (get_or names c 0) ≡ rank names c = below_high low high names n pair apart (get_or names c 0) under in
      let less : rank names c < groups_below names high = name_below names (get_or names c 0) high (n.own c h) (omega arith) in
      ap (groups_below (shifted low high names)) stays ∙ kept ∙ omega (arith, less, top_is.count)

  pub lowered_rank : (c : ℕ) → c < length names → rank (lowered names) c ≡ min (rank names c) (groups names - 2)
  lowered_rank c h = ap (λ s. rank s c) lowered_is ∙ rank_by c h (same_or_not (get_or names c 0) high)

-- that done until so many groups are left
pub record IsGathered (parts : ℕ) (names after : List ℕ) : Type 0 where
  pub whole : length after ≡ length names
  pub ranks : (c : ℕ) → c < length names → rank after c ≡ min (rank names c) (parts - 1)

pub gathered_by : (k parts : ℕ) (names : List ℕ) → IsNaming names → 1 ≤ parts → groups names ≡ parts + k → IsGathered parts names (lowered_by k names)
unfolding lowered_by
gathered_by zero parts names n some e = record { whole = refl; ranks = λ c h. let w = rank_within names c n h in omega (arith, w, e) }
gathered_by (suc k) parts names n some e =
    let two : 2 ≤ groups names = omega arith in
    let rest = gathered_by k parts (lowered names) (lowered_naming names n two) some (omega (arith, lowered_fewer names n two, e)) in
    record {
      whole = rest.whole ∙ lowered_length names n two;
      ranks = λ c h.
          let within : c < length (lowered names) = omega (arith, lowered_length names n two) in
          let one = lowered_rank names n two c h in
          let then = rest.ranks c within in
          omega (arith, one, then, e);
    }

-- the number of a component's part
abbrev pub part_number : ℕ → List ℕ → ℕ → ℕ
part_number parts names c = min (rank names c) (parts - 1)

is_gathered_by : (parts : ℕ) (names : List ℕ) → IsNaming names → 1 ≤ parts → (groups names ≤ parts) ⊎ (parts < groups names) → IsGathered parts names (gathered parts names)
unfolding gathered lowered_by
is_gathered_by parts names n some (inl h) =
    let none : groups names - parts ≡ 0 = omega arith in
    subst (λ k. IsGathered parts names (lowered_by k names)) (sym none) (record { whole = refl; ranks = λ c w. let r = rank_within names c n w in omega (arith, r) })
is_gathered_by parts names n some (inr h) = gathered_by (groups names - parts) parts names n some (omega arith)

pub is_gathered : (parts : ℕ) (names : List ℕ) → IsNaming names → 1 ≤ parts → IsGathered parts names (gathered parts names)
is_gathered parts names n some = is_gathered_by parts names n some (le_or (groups names) parts) where
  le_or : (a b : ℕ) → (a ≤ b) ⊎ (b < a)
  le_or a b = grind arith

-- the parts that groups make up
pub numbers_are : (parts : ℕ) (names : List ℕ) → IsNaming names → 1 ≤ parts → numbered (gathered parts names) ≡ map (part_number parts names) (range_with_len 0 (length names))
unfolding numbered
numbers_are parts names n some =
    let g = is_gathered parts names n some in
    let after = gathered parts names in
    fill_by_all (part_number parts names) (map (groups_below after) after) (length names) 0
    (length-map after (groups_below after) ∙ g.whole)
    (λ c h. get_or-map (groups_below after) after c 0 0 (omega (arith, g.whole)) ∙ g.ranks c h)
