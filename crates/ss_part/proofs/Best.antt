-- No division has a greater least latency between two parts than the one along the links of least latency.
use Rattle.std.proofs.Common.{◌≡◌, ◌≢◌, ℕ, ◌-◌, ◌*◌, ◌/◌, ◌^◌, ◌<◌, ◌≤◌, ◌⊎◌, inl, inr, true, List, [], ◌∷◌, length, get_or, refl, sym, ◌∙◌, ap, subst, arith, min, max}
use Rattle.std.specs.Prelude.{fold}
use Rattle.std.specs.List.{range_with_len}
use Rattle.std.proofs.lemmas.Bool.Decides.{nat_tests}
use Rattle.std.proofs.lemmas.List.FromFn.{length-range_with_len}
use Rattle.ss_graph.specs.declared.graph.Graph.{Graph}
use Rattle.ss_graph.specs.Fit.{IsFit, lat}
use Rattle.ss_part.specs.Forest.{IsNaming}
use Rattle.ss_part.specs.Groups.{groups_below, groups, joined, numbered}
use Rattle.ss_part.specs.Cut.{cut, crosses, Divides, IsBest}
use Rattle.ss_part.specs.Nearness.{weight, weighed, ordered, linked, grouped, gathered, by_latency}
use Rattle.ss_part.proofs.Naming.{moved, moved_here, moved_else, at_shifted, shifted, same_or_not}
use Rattle.ss_part.proofs.Linking.{length_joined, joined_same, joined_naming, joined_fewer, own_naming, each_own, groups_own, linked_enough, linked_on}
use Rattle.ss_part.proofs.Gathering.{part_number}
use Rattle.ss_part.proofs.Numbering.{numbers_whole, number_at, numbers_below}
use Rattle.ss_part.proofs.Sorting.{Link, Among, Rising, ordered_rises, weights_rise, among_ordered, ordered_among, map_among, among_map}
use Rattle.ss_part.proofs.Crossing.{left_of, right_of, ends_within, cut_attained, cut_most, cut_by_weight, link_of}
use Rattle.ss_part.proofs.Counting.{no_fewer, ranked}

le_or : (a b : ℕ) → (a ≤ b) ⊎ (b < a)
le_or a b = grind arith

-- ---- values that are the same throughout each group

pub record Agrees (names values : List ℕ) : Type 0 where
  pub along : (c : ℕ) → c < length names → get_or values c 0 ≡ get_or values (get_or names c 0) 0

module _ (names values : List ℕ) (low high : ℕ) (a : Agrees names values) (same : get_or values low 0 ≡ get_or values high 0) where
  along_by : (c : ℕ) → c < length names → (get_or names c 0 ≡ high) ⊎ (get_or names c 0 ≢ high) → get_or values c 0 ≡ get_or values (get_or (shifted low high names) c 0) 0
  along_by c h (inl e) =
      let to : get_or (shifted low high names) c 0 ≡ low = at_shifted low high names c h ∙ moved_here low high (get_or names c 0) e in
      a.along c h ∙ ap (λ m. get_or values m 0) e ∙ sym same ∙ ap (λ m. get_or values m 0) (sym to)
  along_by c h (inr e) =
      let to : get_or (shifted low high names) c 0 ≡ get_or names c 0 = at_shifted low high names c h ∙ moved_else low high (get_or names c 0) e in
      a.along c h ∙ ap (λ m. get_or values m 0) (sym to)

min_max_or : (x y : ℕ) → ((min x y ≡ x) × (max x y ≡ y)) ⊎ ((min x y ≡ y) × (max x y ≡ x))
min_max_or x y = grind arith

pub agrees_joined : (names values : List ℕ) (a b : ℕ) → a < length names → b < length names → Agrees names values → get_or values a 0 ≡ get_or values b 0 → Agrees (joined names (get_or names a 0) (get_or names b 0)) values
unfolding joined
agrees_joined names values a b h k g same =
    let x : ℕ = get_or names a 0 in
    let y : ℕ = get_or names b 0 in
    let whole = length_joined names x y in
    let ends : get_or values x 0 ≡ get_or values y 0 = sym (g.along a h) ∙ same ∙ g.along b k in
    let lows : get_or values (min x y) 0 ≡ get_or values (max x y) 0 = go x y ends (min_max_or x y) in
    record { along = λ c w. along_by names values (min x y) (max x y) g lows c (omega (arith, whole)) (same_or_not (get_or names c 0) (max x y)) }
  where
    go : (x y : ℕ) → get_or values x 0 ≡ get_or values y 0 → ((min x y ≡ x) × (max x y ≡ y)) ⊎ ((min x y ≡ y) × (max x y ≡ x)) → get_or values (min x y) 0 ≡ get_or values (max x y) 0
    go x y e (inl w) = ap (λ m. get_or values m 0) w.0 ∙ e ∙ ap (λ m. get_or values m 0) (sym w.1)
    go x y e (inr w) = ap (λ m. get_or values m 0) w.0 ∙ sym e ∙ ap (λ m. get_or values m 0) (sym w.1)

-- two components of one group stay in one
pub stays_one : (names : List ℕ) (x y a b : ℕ) → a < length names → b < length names → get_or names a 0 ≡ get_or names b 0 → get_or (joined names x y) a 0 ≡ get_or (joined names x y) b 0
unfolding joined
stays_one names x y a b h k e = at_shifted (min x y) (max x y) names a h ∙ ap (moved (min x y) (max x y)) e ∙ sym (at_shifted (min x y) (max x y) names b k)

-- the two that are joined are in one
pub joined_one : (names : List ℕ) (a b : ℕ) → a < length names → b < length names → get_or (joined names (get_or names a 0) (get_or names b 0)) a 0 ≡ get_or (joined names (get_or names a 0) (get_or names b 0)) b 0
unfolding joined
joined_one names a b h k =
    let x : ℕ = get_or names a 0 in
    let y : ℕ = get_or names b 0 in
    at_shifted (min x y) (max x y) names a h ∙ go x y ∙ sym (at_shifted (min x y) (max x y) names b k)
  where
    go : (x y : ℕ) → moved (min x y) (max x y) x ≡ moved (min x y) (max x y) y
    go x y = grind (arith, nat_tests)

-- ---- links taken in their order

module _ (g : Graph) (parts : ℕ) (fit : IsFit g) (some : 0 < length g.components) where
  abbrev n : ℕ
  n = length g.components

  abbrev run : List ℕ → List Link → List ℕ
  run names links = fold (λ names (e : Link). linked g parts names e.1) names links

  -- groups of the graph's components, no fewer than there are parts
  record State (names : List ℕ) : Type 0 where
    naming : IsNaming names
    whole : length names ≡ n
    enough : parts ≤ groups names

  module _ (names : List ℕ) (s : State names) (link : ℕ) where
    left_within : left_of g link < length names
    left_within = omega (arith, (ends_within g some fit link).0, s.whole)

    right_within : right_of g link < length names
    right_within = omega (arith, (ends_within g some fit link).1, s.whole)

    abbrev next : List ℕ
    next = joined names (get_or names (left_of g link) 0) (get_or names (right_of g link) 0)

    next_enough_by : parts < groups names → (get_or names (left_of g link) 0 ≡ get_or names (right_of g link) 0) ⊎ (get_or names (left_of g link) 0 ≢ get_or names (right_of g link) 0) → parts ≤ groups next
    next_enough_by more (inl e) = omega (arith, more, ap groups (joined_same names (get_or names (left_of g link) 0) (get_or names (right_of g link) 0) e))
    next_enough_by more (inr e) = omega (arith, more, joined_fewer names (left_of g link) (right_of g link) s.naming left_within right_within e)

    next_state : parts < groups names → State next
    next_state more = record {
      naming = joined_naming names (left_of g link) (right_of g link) s.naming left_within right_within;
      whole = length_joined names (get_or names (left_of g link) 0) (get_or names (right_of g link) 0) ∙ s.whole;
      enough = next_enough_by more (same_or_not (get_or names (left_of g link) 0) (get_or names (right_of g link) 0));
    }

    state_by : (groups names ≤ parts) ⊎ (parts < groups names) → State (linked g parts names link)
    state_by (inl h) = subst (λ m. State m) (sym (linked_enough g parts names link h)) s
    state_by (inr h) = subst (λ m. State m) (sym (linked_on g parts names link h)) (next_state h)

    linked_state : State (linked g parts names link)
    linked_state = state_by (le_or (groups names) parts)

    one_by : (a b : ℕ) → a < n → b < n → get_or names a 0 ≡ get_or names b 0 → (groups names ≤ parts) ⊎ (parts < groups names) → get_or (linked g parts names link) a 0 ≡ get_or (linked g parts names link) b 0
    one_by a b h k e (inl t) = subst (λ m. get_or m a 0 ≡ get_or m b 0) (sym (linked_enough g parts names link t)) e
    one_by a b h k e (inr t) = subst (λ m. get_or m a 0 ≡ get_or m b 0) (sym (linked_on g parts names link t)) (stays_one names (get_or names (left_of g link) 0) (get_or names (right_of g link) 0) a b (omega (arith, s.whole)) (omega (arith, s.whole)) e)

  run_state : (names : List ℕ) (links : List Link) → State names → State (run names links)
  run_state names [] s = s
  run_state names (e ∷ es) s = run_state (linked g parts names e.1) es (linked_state names s e.1)

  -- groups that are one stay one
  run_one : (names : List ℕ) (links : List Link) → State names → (a b : ℕ) → a < n → b < n → get_or names a 0 ≡ get_or names b 0 → get_or (run names links) a 0 ≡ get_or (run names links) b 0
  run_one names [] s a b h k e = e
  run_one names (l ∷ ls) s a b h k e = run_one (linked g parts names l.1) ls (linked_state names s l.1) a b h k (one_by names s l.1 a b h k e (le_or (groups names) parts))

  -- enough are left as they are
  run_enough : (names : List ℕ) (links : List Link) → groups names ≤ parts → run names links ≡ names
  run_enough names [] h = refl
  run_enough names (l ∷ ls) h = ap (λ m. run m ls) (linked_enough g parts names l.1 h) ∙ run_enough names ls h

  -- a link that is still between two groups, and values that no link of at most its weight tells apart
  record Stopped (names values : List ℕ) : Type 0 where
    count : groups names ≡ parts
    agrees : Agrees names values

  module _ (values : List ℕ) (link : Link) where
    abbrev Together : Link → Type 0
    Together e = get_or values (left_of g e.1) 0 ≡ get_or values (right_of g e.1) 0

    abbrev Apart : List ℕ → Type 0
    Apart names = get_or names (left_of g link.1) 0 ≢ get_or names (right_of g link.1) 0

    stopped_by : (names : List ℕ) (l : Link) (ls : List Link) → State names → Agrees names values → Rising (l ∷ ls) → Among link (l ∷ ls) → ((e : Link) → Among e (l ∷ ls) → e.0 ≤ link.0 → Together e) → Apart (run names (l ∷ ls)) → (State (linked g parts names l.1) → Agrees (linked g parts names l.1) values → Rising ls → Among link ls → ((e : Link) → Among e ls → e.0 ≤ link.0 → Together e) → Apart (run (linked g parts names l.1) ls) → Stopped (run (linked g parts names l.1) ls) values) → (groups names ≤ parts) ⊎ (parts < groups names) → Stopped (run names (l ∷ ls)) values
    stopped_by names l ls s a r i t apart rest (inl few) =
        let same = run_enough names (l ∷ ls) few in
        subst (λ m. Stopped m values) (sym same) (record { count = omega (arith, few, s.enough); agrees = a })
    stopped_by names l ls s a r (inl here) t apart rest (inr more) =
        let lw = left_within names s l.1 in
        let rw' = right_within names s l.1 in
        let one = joined_one names (left_of g l.1) (right_of g l.1) lw rw' in
        let now : get_or (linked g parts names l.1) (left_of g l.1) 0 ≡ get_or (linked g parts names l.1) (right_of g l.1) 0 = subst (λ m. get_or m (left_of g l.1) 0 ≡ get_or m (right_of g l.1) 0) (sym (linked_on g parts names l.1 more)) one in
        let ends = ends_within g some fit l.1 in
        let after = run_one (linked g parts names l.1) ls (linked_state names s l.1) (left_of g l.1) (right_of g l.1) ends.0 ends.1 now in
        absurd (apart (subst (λ (m : Link). get_or (run (linked g parts names l.1) ls) (left_of g m.1) 0 ≡ get_or (run (linked g parts names l.1) ls) (right_of g m.1) 0) (sym here) after))
    stopped_by names l ls s a r (inr later) t apart rest (inr more) =
        let light : l.0 ≤ link.0 = weights_rise l link (r.0 link later) in
        let together = t l (inl refl) light in
        let agrees = agrees_joined names values (left_of g l.1) (right_of g l.1) (left_within names s l.1) (right_within names s l.1) a together in
        rest (linked_state names s l.1) (subst (λ m. Agrees m values) (sym (linked_on g parts names l.1 more)) agrees) r.1 later (λ e i w. t e (inr i) w) apart

    stopped : (names : List ℕ) (links : List Link) → State names → Agrees names values → Rising links → Among link links → ((e : Link) → Among e links → e.0 ≤ link.0 → Together e) → Apart (run names links) → Stopped (run names links) values
    stopped names [] s a r i t apart = absurd i
    stopped names (l ∷ ls) s a r i t apart = stopped_by names l ls s a r i t apart (stopped (linked g parts names l.1) ls) (le_or (groups names) parts)

  -- ---- the groups of a graph

  abbrev names : List ℕ
  names = grouped g parts (ordered (weighed g))

  among_is : (e : Link) → Among e (ordered (weighed g)) → (e.1 < length g.links) × (e.0 ≡ weight g e.1)
  unfolding weighed
  among_is e a =
      let f : ℕ → Link = λ link. (weight g link, link) in
      let w = among_map f e 0 (length g.links) (ordered_among e (weighed g) a) in
      let second : e.1 ≡ w.0 = ap (λ (m : Link). m.1) w.2 in
      (omega (arith, w.1, second), ap (λ (m : Link). m.0) w.2 ∙ ap (weight g) (sym second))

  is_among : (link : ℕ) → link < length g.links → Among (weight g link, link) (ordered (weighed g))
  unfolding weighed
  is_among link h =
      let f : ℕ → Link = λ link. (weight g link, link) in
      among_ordered (weight g link, link) (weighed g) (map_among f 0 (length g.links) link (omega arith) (omega arith))

  module _ (enough : parts ≤ length g.components) where
    own_state : State (range_with_len 0 n)
    own_state = record { naming = own_naming n; whole = length-range_with_len 0 n; enough = omega (arith, groups_own n, enough) }

    own_agrees : (values : List ℕ) → Agrees (range_with_len 0 n) values
    own_agrees values = record { along = λ c h. ap (λ m. get_or values m 0) (sym (each_own n c h)) }

    names_state : State names
    unfolding grouped
    names_state = run_state (range_with_len 0 n) (ordered (weighed g)) own_state

    names_stopped : (values : List ℕ) (link : ℕ) → link < length g.links → get_or names (left_of g link) 0 ≢ get_or names (right_of g link) 0 → ((l : ℕ) → l < length g.links → weight g l ≤ weight g link → get_or values (left_of g l) 0 ≡ get_or values (right_of g l) 0) → Stopped names values
    unfolding grouped
    names_stopped values link h apart t =
        stopped values (weight g link, link) (range_with_len 0 n) (ordered (weighed g)) own_state (own_agrees values) (ordered_rises (weighed g)) (is_among link h)
        (λ e i w. let is = among_is e i in t e.1 is.0 (omega (arith, is.1, w))) apart

    -- with one group fewer, not all parts could be used
    used_up : (values names' : List ℕ) → IsNaming names' → length names' ≡ n → Agrees names' values → Divides g values parts → parts ≤ groups names'
    unfolding groups
    used_up values names' naming whole a d = no_fewer names' values parts (length names') (λ q h. value q (d.all.used q h)) where
      value : (q : ℕ) → (c : ℕ) × (c < length values) × (get_or values c 0 ≡ q) → (r : ℕ) × (r < length names') × (get_or names' r 0 ≡ r) × (get_or values r 0 ≡ q)
      value q (c, h, e) =
          let within : c < length names' = omega (arith, whole, d.whole) in
          (get_or names' c 0, omega (arith, naming.lowest c within), naming.own c within, sym (a.along c within) ∙ e)

    no_better : (values : List ℕ) (link : ℕ) → Divides g values parts → link < length g.links → get_or names (left_of g link) 0 ≢ get_or names (right_of g link) 0 → ((l : ℕ) → l < length g.links → weight g l ≤ weight g link → get_or values (left_of g l) 0 ≡ get_or values (right_of g l) 0) → ⊥
    no_better values link d h apart t =
        let st = names_stopped values link h apart t in
        let s = names_state in
        let lw = left_within names s link in
        let rw' = right_within names s link in
        let fewer = joined_fewer names (left_of g link) (right_of g link) s.naming lw rw' apart in
        let agrees = agrees_joined names values (left_of g link) (right_of g link) lw rw' st.agrees (t link h (omega arith)) in
        let naming = joined_naming names (left_of g link) (right_of g link) s.naming lw rw' in
        let whole = length_joined names (get_or names (left_of g link) 0) (get_or names (right_of g link) 0) in
        let all = used_up values (next names s link) naming (whole ∙ s.whole) agrees d in
        absurd (omega (arith, st.count, fewer, all))

    module _ (first : 1 ≤ parts) (list : List ℕ) (is : list ≡ numbered (gathered parts names)) where
      at_part : (c : ℕ) → c < n → get_or list c 0 ≡ part_number parts names c
      at_part c h = number_at parts names list names_state.naming first is c (omega (arith, names_state.whole))

      apart_names : (a b : ℕ) → a < n → b < n → get_or list a 0 ≢ get_or list b 0 → get_or names a 0 ≢ get_or names b 0
      apart_names a b h k apart e = apart (at_part a h ∙ ap (λ m. min (groups_below names m) (parts - 1)) e ∙ sym (at_part b k))

      together_by : (values : List ℕ) (line link : ℕ) → cut g list < cut g values → lat g line ≡ cut g list → weight g link ≤ lat g line → (l : ℕ) → l < length g.links → weight g l ≤ weight g link → (get_or values (left_of g l) 0 ≡ get_or values (right_of g l) 0) ⊎ (get_or values (left_of g l) 0 ≢ get_or values (right_of g l) 0) → get_or values (left_of g l) 0 ≡ get_or values (right_of g l) 0
      together_by values line link better v heavy l h light (inl e) = e
      together_by values line link better v heavy l h light (inr apart) = absurd (omega (arith, cut_by_weight g values l h apart, better, v, heavy, light))

      not_better : (values : List ℕ) → Divides g values parts → cut g list < cut g values → (cut g list ≡ 2 ^ 62) ⊎ ((line : ℕ) × (line < 2 * length g.links) × (crosses g list line ≡ true) × (lat g line ≡ cut g list)) → ⊥
      not_better values d better (inl top) = absurd (omega (arith, top, cut_most g values, better))
      not_better values d better (inr (line, h, t, v)) =
          let x = link_of g list line h t in
          let ends = ends_within g some fit (line / 2) in
          no_better values (line / 2) d x.real (apart_names (left_of g (line / 2)) (right_of g (line / 2)) ends.0 ends.1 x.apart)
          (λ l r w. together_by values line (line / 2) better v x.heavy l r w (same_or_not (get_or values (left_of g l) 0) (get_or values (right_of g l) 0)))

      best_by : (values : List ℕ) → Divides g values parts → (cut g values ≤ cut g list) ⊎ (cut g list < cut g values) → cut g values ≤ cut g list
      best_by values d (inl h) = h
      best_by values d (inr h) = absurd (not_better values d h (cut_attained g list))

      used : (q : ℕ) → q < parts → (c : ℕ) × (c < length list) × (get_or list c 0 ≡ q)
      unfolding groups
      used q h =
          let s = names_state in
          let w = ranked names q (length names) (omega (arith, s.enough)) in
          let within : w.0 < n = omega (arith, w.1, s.whole) in
          let number : part_number parts names w.0 ≡ q = ap (λ m. min (groups_below names m) (parts - 1)) w.2 ∙ ap (λ m. min m (parts - 1)) w.3 ∙ omega arith in
          (w.0, omega (arith, within, s.whole, numbers_whole parts names list s.naming first is), at_part w.0 within ∙ number)

      pub is_best : IsBest g list parts
      is_best = record {
        divides = record {
          whole = numbers_whole parts names list names_state.naming first is ∙ names_state.whole;
          below = numbers_below parts names list names_state.naming first is;
          all = record { used = used };
        };
        best = λ values d. best_by values d (le_or (cut g values) (cut g list));
      }

pub best_division : (g : Graph) (parts : ℕ) (list : List ℕ) → IsFit g → 0 < length g.components → 1 ≤ parts → parts ≤ max 1 (length g.components) → list ≡ by_latency g parts → IsBest g list parts
unfolding by_latency
best_division g parts list fit some first few is = is_best g parts fit some (omega arith) first list is
