-- Groups while links are taken one by one.
use Rattle.std.proofs.Common.{◌≡◌, ◌≢◌, ℕ, zero, suc, ◌+◌, ◌-◌, ◌*◌, ◌<◌, ◌≤◌, true, false, not, List, [], ◌∷◌, length, get_or, take, refl, sym, ◌∙◌, ap, subst, arith, min, max}
use Rattle.std.specs.Prelude.{◌==◌, fold, nat_lt}
use Rattle.std.specs.List.{range_with_len}
use Rattle.std.proofs.lemmas.Bool.Decides.{nat_tests}
use Rattle.std.proofs.lemmas.List.{take_more}
use Rattle.std.proofs.lemmas.List.Sums.{fold-append}
use Rattle.std.proofs.lemmas.List.FromFn.{get_or-range_with_len, length-range_with_len}
use Rattle.ss_graph.specs.declared.graph.Graph.{Graph}
use Rattle.ss_graph.specs.Fit.{line_ends}
use Rattle.ss_part.specs.Forest.{IsNaming, GoesDown, Stands, StandsFor}
use Rattle.ss_part.specs.Groups.{groups_below, groups, joined}
use Rattle.ss_part.specs.Nearness.{linked, grouped}
use Rattle.ss_part.proofs.Naming.{shifted, shifted_naming, length_shifted, one_fewer, shifted_same}
use Rattle.ss_part.proofs.Entries.{two_names}

module _ (names : List ℕ) where
  pub length_joined : (x y : ℕ) → length (joined names x y) ≡ length names
  unfolding joined
  length_joined x y = length_shifted (min x y) (max x y) names

  pub joined_same : (x y : ℕ) → x ≡ y → joined names x y ≡ names
  unfolding joined
  joined_same x y e =
      let low : min x y ≡ x = omega arith in
      let high : max x y ≡ x = omega arith in
      ap (λ m. shifted m (max x y) names) low ∙ ap (λ m. shifted x m names) high ∙ shifted_same x names

  module _ (a b : ℕ) (n : IsNaming names) (h : a < length names) (k : b < length names) where
    pub joined_naming : IsNaming (joined names (get_or names a 0) (get_or names b 0))
    unfolding joined
    joined_naming = shifted_naming (min (get_or names a 0) (get_or names b 0)) (max (get_or names a 0) (get_or names b 0)) names n (two_names names a b n h k)

    pub joined_fewer : get_or names a 0 ≢ get_or names b 0 → groups (joined names (get_or names a 0) (get_or names b 0)) + 1 ≡ groups names
    unfolding joined
    joined_fewer apart = one_fewer (min (get_or names a 0) (get_or names b 0)) (max (get_or names a 0) (get_or names b 0)) names n (two_names names a b n h k) (λ e. apart (omega arith))

-- each component a group of its own
module _ (n : ℕ) where
  pub each_own : (c : ℕ) → c < length (range_with_len 0 n) → get_or (range_with_len 0 n) c 0 ≡ c
  each_own c h = let k : c < n = rw (length-range_with_len 0 n) at h in get_or-range_with_len 0 n c 0 k ∙ omega arith

  pub own_naming : IsNaming (range_with_len 0 n)
  own_naming = record {
    own = λ c h. ap (λ m. get_or (range_with_len 0 n) m 0) (each_own c h);
    lowest = λ c h. omega (arith, each_own c h);
  }

  pub own_stands : Stands (range_with_len 0 n) (range_with_len 0 n)
  own_stands = record { whole = refl; naming = own_naming; same = λ c h. ap (λ m. get_or (range_with_len 0 n) m 0) (each_own c h); ends = λ c h e. e }

  pub own_down : GoesDown (range_with_len 0 n)
  own_down = record { down = λ c h. omega (arith, each_own c h) }

  below_own : (k : ℕ) → k ≤ n → groups_below (range_with_len 0 n) k ≡ k
  unfolding groups_below
  below_own zero h = refl
  below_own (suc k) h =
      let w : k < length (range_with_len 0 n) = omega (arith, length-range_with_len 0 n) in
      let e : (get_or (range_with_len 0 n) k 0 == k) ≡ true = let f = each_own k w in grind (arith, nat_tests) in
      rw (e, below_own k (omega arith)) (omega arith)

  pub groups_own : groups (range_with_len 0 n) ≡ n
  unfolding groups
  groups_own = ap (groups_below (range_with_len 0 n)) (length-range_with_len 0 n) ∙ below_own n (omega arith)

not_apart : (x y : ℕ) → not (x == y) ≡ false → x ≡ y
not_apart x y h = grind (arith, nat_tests)

apart_by : (x y : ℕ) → not (x == y) ≡ true → x ≢ y
apart_by x y h = λ e. grind (arith, nat_tests)

-- one link more
module _ (g : Graph) (parts : ℕ) where
  pub grouped_more : (links : List (ℕ × ℕ)) (i : ℕ) (d : ℕ × ℕ) → i < length links → grouped g parts (take (i + 1) links) ≡ linked g parts (grouped g parts (take i links)) (get_or links i d).1
  unfolding grouped
  grouped_more links i d h =
      ap (λ ls. fold (λ names (e : ℕ × ℕ). linked g parts names e.1) (range_with_len 0 (length g.components)) ls) (take_more links i d h)
      ∙ fold-append (λ names (e : ℕ × ℕ). linked g parts names e.1) (range_with_len 0 (length g.components)) (take i links) (get_or links i d ∷ [])

  pub grouped_none : grouped g parts [] ≡ range_with_len 0 (length g.components)
  unfolding grouped
  grouped_none = refl

  pub linked_enough : (names : List ℕ) (link : ℕ) → groups names ≤ parts → linked g parts names link ≡ names
  unfolding linked
  linked_enough names link e = let t : nat_lt parts (groups names) ≡ false = grind (arith, nat_tests) in rw t refl

  pub linked_on : (names : List ℕ) (link : ℕ) → parts < groups names → linked g parts names link ≡ joined names (get_or names (line_ends g (2 * link)).0 0) (get_or names (line_ends g (2 * link)).1 0)
  unfolding linked
  linked_on names link e = let t : nat_lt parts (groups names) ≡ true = grind (arith, nat_tests) in rw t refl

module _ (g : Graph) (parts link left : ℕ) (old new names : List ℕ) (s : StandsFor old left names) where
  pub enough : left ≤ parts → StandsFor old left (linked g parts names link)
  enough h = subst (λ m. StandsFor old left m) (sym (linked_enough g parts names link (omega (arith, s.count)))) s

  module _ (a b : ℕ) (more : parts < left) (ends : (a, b) ≡ line_ends g (2 * link)) (new_stands : Stands new (joined names (get_or names a 0) (get_or names b 0))) where
    is_joined : linked g parts names link ≡ joined names (get_or names a 0) (get_or names b 0)
    is_joined = linked_on g parts names link (omega (arith, s.count)) ∙ ap (λ (p : ℕ × ℕ). joined names (get_or names p.0 0) (get_or names p.1 0)) (sym ends)

    pub were_one : not (get_or names a 0 == get_or names b 0) ≡ false → StandsFor new left (linked g parts names link)
    were_one one =
        let e : get_or names a 0 ≡ get_or names b 0 = not_apart (get_or names a 0) (get_or names b 0) one in
        subst (λ m. StandsFor new left m) (sym is_joined) (record { stands = new_stands; count = s.count ∙ ap groups (sym (joined_same names (get_or names a 0) (get_or names b 0) e)) })

    pub were_two : a < length old → b < length old → not (get_or names a 0 == get_or names b 0) ≡ true → StandsFor new (left - 1) (linked g parts names link)
    were_two h k two =
        let e : get_or names a 0 ≢ get_or names b 0 = apart_by (get_or names a 0) (get_or names b 0) two in
        let fewer = joined_fewer names a b s.stands.naming (omega (arith, s.stands.whole)) (omega (arith, s.stands.whole)) e in
        subst (λ m. StandsFor new (left - 1) m) (sym is_joined) (record { stands = new_stands; count = omega (arith, s.count, fewer) })
