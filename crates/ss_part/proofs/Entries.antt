-- Tables of entries that lead to names, when an entry is changed.
use Rattle.std.proofs.Common.{◌≡◌, ◌≢◌, ℕ, ◌<◌, ◌≤◌, ◌⊎◌, inl, inr, List, length, get_or, set, length-set, get_or-set_same, get_or-set_other, refl, sym, ◌∙◌, ap, subst, arith, min, max}
use Rattle.ss_part.specs.Forest.{IsNaming, GoesDown, Stands}
use Rattle.ss_part.specs.Groups.{joined}
use Rattle.ss_part.proofs.Naming.{moved, moved_here, moved_else, shifted, at_shifted, length_shifted, AreNames, shifted_naming, same_or_not}

module _ (table : List ℕ) (x v : ℕ) (within : x < length table) where
  here : get_or (set table x v) x 0 ≡ v
  here = get_or-set_same table x v 0 within

  there : (c : ℕ) → c ≢ x → get_or (set table x v) c 0 ≡ get_or table c 0
  there c other = get_or-set_other table x c v 0 other

  kept_in : (c : ℕ) → c < length (set table x v) → c < length table
  kept_in c h = rw (length-set table x v) at h

  down_by : GoesDown table → v ≤ x → (c : ℕ) → c < length table → (c ≡ x) ⊎ (c ≢ x) → get_or (set table x v) c 0 ≤ c
  down_by d h c inside (inl e) = subst (λ m. get_or (set table x v) m 0 ≤ m) (sym e) (subst (λ m. m ≤ x) (sym here) h)
  down_by d h c inside (inr e) = subst (λ m. m ≤ c) (sym (there c e)) (d.down c inside)

  pub set_down : GoesDown table → v ≤ x → GoesDown (set table x v)
  set_down d h = record { down = λ c inside. down_by d h c (kept_in c inside) (same_or_not c x) }

  -- what the new table must meet at each component, for new names
  module _ (names : List ℕ) where
    same_by : get_or names v 0 ≡ get_or names x 0 → ((c : ℕ) → c < length table → c ≢ x → get_or names (get_or table c 0) 0 ≡ get_or names c 0) → (c : ℕ) → c < length table → (c ≡ x) ⊎ (c ≢ x) → get_or names (get_or (set table x v) c 0) 0 ≡ get_or names c 0
    same_by at_x others c inside (inl e) = ap (λ m. get_or names (get_or (set table x v) m 0) 0) e ∙ ap (λ m. get_or names m 0) here ∙ at_x ∙ ap (λ m. get_or names m 0) (sym e)
    same_by at_x others c inside (inr e) = ap (λ m. get_or names m 0) (there c e) ∙ others c inside e

    ends_by : (v ≡ x → get_or names x 0 ≡ x) → ((c : ℕ) → c < length table → c ≢ x → get_or table c 0 ≡ c → get_or names c 0 ≡ c) → (c : ℕ) → c < length table → (c ≡ x) ⊎ (c ≢ x) → get_or (set table x v) c 0 ≡ c → get_or names c 0 ≡ c
    ends_by at_x others c inside (inl e) h = subst (λ m. get_or names m 0 ≡ m) (sym e) (at_x (sym here ∙ ap (λ m. get_or (set table x v) m 0) (sym e) ∙ h ∙ e))
    ends_by at_x others c inside (inr e) h = others c inside e (sym (there c e) ∙ h)

    pub set_stands : length table ≡ length names → IsNaming names → get_or names v 0 ≡ get_or names x 0 → (v ≡ x → get_or names x 0 ≡ x) → ((c : ℕ) → c < length table → c ≢ x → get_or names (get_or table c 0) 0 ≡ get_or names c 0) → ((c : ℕ) → c < length table → c ≢ x → get_or table c 0 ≡ c → get_or names c 0 ≡ c) → Stands (set table x v) names
    set_stands whole naming same_x ends_x same_others ends_others = record {
      whole = length-set table x v ∙ whole;
      naming = naming;
      same = λ c inside. same_by same_x same_others c (kept_in c inside) (same_or_not c x);
      ends = λ c inside. ends_by ends_x ends_others c (kept_in c inside) (same_or_not c x);
    }

-- an entry is taken over from the entry that it leads to
pub halved : (table names : List ℕ) (x up above : ℕ) → GoesDown table → x < length table → up ≡ get_or table x 0 → above ≡ get_or table up 0 → Stands table names → Stands (set table x above) names × (get_or names above 0 ≡ get_or names x 0)
halved table names x up above d within up_is above_is s =
    let low : up ≤ x = omega (arith, d.down x within) in
    let lower : above ≤ up = omega (arith, d.down up (omega arith)) in
    let first : get_or names up 0 ≡ get_or names x 0 = ap (λ m. get_or names m 0) up_is ∙ s.same x within in
    let second : get_or names above 0 ≡ get_or names up 0 = ap (λ m. get_or names m 0) above_is ∙ s.same up (omega arith) in
    let root : above ≡ x → get_or names x 0 ≡ x = λ e. s.ends x within (sym up_is ∙ omega arith) in
    (set_stands table x above within names s.whole s.naming (second ∙ first) root (λ c inside other. s.same c inside) (λ c inside other. s.ends c inside), second ∙ first)

-- the higher of two names leads to the lower
pub led : (table names : List ℕ) (low high : ℕ) → GoesDown table → Stands table names → AreNames low high names → Stands (set table high low) (shifted low high names)
led table names low high d s t =
    let within : high < length table = omega (arith, s.whole, t.within) in
    let into = λ (c : ℕ) (h : c < length table). at_shifted low high names c (omega (arith, s.whole)) in
    let low_at : get_or (shifted low high names) low 0 ≡ moved low high low = into low (omega (arith, t.order)) ∙ ap (moved low high) t.is_low in
    let high_at : get_or (shifted low high names) high 0 ≡ low = into high within ∙ ap (moved low high) t.is_high ∙ moved_here low high high refl in
    set_stands table high low within (shifted low high names)
    (s.whole ∙ sym (length_shifted low high names))
    (shifted_naming low high names s.naming t)
    (low_at ∙ low_or low high (same_or_not low high) ∙ sym high_at)
    (λ e. high_at ∙ e)
    (λ c inside other. into (get_or table c 0) (omega (arith, d.down c inside)) ∙ ap (moved low high) (s.same c inside) ∙ sym (into c inside))
    (λ c inside other h. into c inside ∙ ap (moved low high) (s.ends c inside h) ∙ moved_else low high c other)
  where
    low_or : (low high : ℕ) → (low ≡ high) ⊎ (low ≢ high) → moved low high low ≡ low
    low_or low high (inl e) = moved_here low high low e
    low_or low high (inr e) = moved_else low high low e

two_names_by : (names : List ℕ) (a b x y : ℕ) → IsNaming names → x < length names → y < length names → get_or names x 0 ≡ x → get_or names y 0 ≡ y → AreNames (min x y) (max x y) names
two_names_by names a b x y n h k e f = go (min_or x y) where
  go : ((min x y ≡ x) × (max x y ≡ y)) ⊎ ((min x y ≡ y) × (max x y ≡ x)) → AreNames (min x y) (max x y) names
  go (inl w) = record { order = omega arith; within = omega arith; is_low = ap (λ m. get_or names m 0) w.0 ∙ e ∙ sym w.0; is_high = ap (λ m. get_or names m 0) w.1 ∙ f ∙ sym w.1 }
  go (inr w) = record { order = omega arith; within = omega arith; is_low = ap (λ m. get_or names m 0) w.0 ∙ f ∙ sym w.0; is_high = ap (λ m. get_or names m 0) w.1 ∙ e ∙ sym w.1 }

  min_or : (x y : ℕ) → ((min x y ≡ x) × (max x y ≡ y)) ⊎ ((min x y ≡ y) × (max x y ≡ x))
  min_or x y = grind arith

-- the names of two components' groups
pub two_names : (names : List ℕ) (a b : ℕ) → IsNaming names → a < length names → b < length names → AreNames (min (get_or names a 0) (get_or names b 0)) (max (get_or names a 0) (get_or names b 0)) names
two_names names a b n h k = two_names_by names a b (get_or names a 0) (get_or names b 0) n (omega (arith, n.lowest a h)) (omega (arith, n.lowest b k)) (n.own a h) (n.own b k)

pub joins : (table names : List ℕ) (a b x y low high : ℕ) → GoesDown table → Stands table names → a < length table → b < length table → x ≡ get_or names a 0 → y ≡ get_or names b 0 → low ≡ min x y → high ≡ max x y → Stands (set table high low) (joined names (get_or names a 0) (get_or names b 0))
unfolding joined
joins table names a b x y low high d s h k e f low_is high_is =
    let t = two_names names a b s.naming (omega (arith, s.whole)) (omega (arith, s.whole)) in
    let done = led table names (min (get_or names a 0) (get_or names b 0)) (max (get_or names a 0) (get_or names b 0)) d s t in
    let low_same : low ≡ min (get_or names a 0) (get_or names b 0) = low_is ∙ ap (λ m. min m y) e ∙ ap (λ m. min (get_or names a 0) m) f in
    let high_same : high ≡ max (get_or names a 0) (get_or names b 0) = high_is ∙ ap (λ m. max m y) e ∙ ap (λ m. max (get_or names a 0) m) f in
    subst (λ m. Stands (set table high m) (shifted (min (get_or names a 0) (get_or names b 0)) (max (get_or names a 0) (get_or names b 0)) names)) (sym low_same)
    (subst (λ m. Stands (set table m (min (get_or names a 0) (get_or names b 0))) (shifted (min (get_or names a 0) (get_or names b 0)) (max (get_or names a 0) (get_or names b 0)) names)) (sym high_same) done)

-- from a first table on, and at a component that stands in the same group as the one that was asked for
pub record Follows (first table : List ℕ) (component at : ℕ) : Type 0 where
  pub down : GoesDown table
  pub within : at < length table
  pub low : at ≤ component
  pub named : (names : List ℕ) → Stands first names → Stands table names × (get_or names at 0 ≡ get_or names component 0)

pub follows_on : (first table : List ℕ) (component at : ℕ) → Follows first table component at → Follows first (set table at (get_or table (get_or table at 0) 0)) component (get_or table (get_or table at 0) 0)
follows_on first table component at f =
    let up : ℕ = get_or table at 0 in
    let above : ℕ = get_or table up 0 in
    let lower : up ≤ at = f.down.down at f.within in
    let lowest : above ≤ up = f.down.down up (omega (arith, lower, f.within)) in
    record {
      down = set_down table at above f.within f.down (omega (arith, lower, lowest));
      within = subst (λ m. above < m) (sym (length-set table at above)) (omega (arith, lower, lowest, f.within));
      low = omega (arith, lower, lowest, f.low);
      named = λ names s. let w = f.named names s in let e = halved table names at up above f.down f.within refl refl w.0 in (e.0, e.1 ∙ w.1);
    }
