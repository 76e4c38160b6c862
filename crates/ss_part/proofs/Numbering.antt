-- The parts' numbers, component by component.
use Rattle.std.proofs.Common.{◌≡◌, ◌≢◌, ℕ, ◌+◌, ◌-◌, ◌<◌, ◌≤◌, List, [], ◌∷◌, ◌++◌, length, map, get_or, refl, sym, ◌∙◌, ap, subst, arith, min, length-append}
use Rattle.std.specs.Prelude.{All}
use Rattle.std.specs.List.{range_with_len}
use Rattle.std.proofs.lemmas.List.FromFn.{get_or-map-range_with_len, length-map-range_with_len, length-range_with_len}
use Rattle.ss_graph.specs.declared.graph.Graph.{Graph}
use Rattle.ss_part.specs.Division.{AreBelow}
use Rattle.ss_part.specs.Forest.{IsNaming, GoesDown, Stands, StandsFor}
use Rattle.ss_part.specs.Groups.{groups_below, numbered}
use Rattle.ss_part.specs.Nearness.{weight, weighed, grouped, gathered}
use Rattle.ss_part.proofs.Tables.{push_more, filled}
use Rattle.ss_part.proofs.Linking.{own_stands, own_down, groups_own, grouped_none}
use Rattle.ss_part.proofs.Gathering.{below_named, below_other, part_number, numbers_are}

-- each weighed link is a link of the graph
pub weighed_real : (g : Graph) (xs : List (ℕ × ℕ)) → xs ≡ weighed g → All (λ (e : ℕ × ℕ). e.1 < length g.links) xs
unfolding weighed
weighed_real g xs e =
    let f : ℕ → ℕ × ℕ = λ link. (weight g link, link) in
    let real : All (λ (e : ℕ × ℕ). e.1 < length g.links) (map f (range_with_len 0 (length g.links))) = λ k d h.
    let w : k < length g.links = rw (length-map-range_with_len f 0 (length g.links)) at h in
    subst (λ (p : ℕ × ℕ). p.1 < length g.links) (sym (get_or-map-range_with_len f 0 (length g.links) k k d w (omega arith))) w in
    subst (λ (l : List (ℕ × ℕ)). All (λ (e : ℕ × ℕ). e.1 < length g.links) l) (sym e) real

-- a table that goes down and stands for these groups
pub record HasTaken (table : List ℕ) (left : ℕ) (names : List ℕ) : Type 0 where
  pub down : GoesDown table
  pub stands : StandsFor table left names

-- the numbers of the components below this one, and how many groups were met
pub record IsNumbered (parts : ℕ) (table numbers : List ℕ) (met c : ℕ) (names : List ℕ) : Type 0 where
  pub stands : Stands table names
  pub list : numbers ≡ map (part_number parts names) (range_with_len 0 c)
  pub next : met ≡ groups_below names c

pub record Numbers (first : List ℕ) (parts : ℕ) (table numbers : List ℕ) (met c : ℕ) : Type 0 where
  pub down : GoesDown table
  pub counted : length numbers ≡ c
  pub few : met ≤ c
  pub named : (names : List ℕ) → Stands first names → IsNumbered parts table numbers met c names

pub begins : (g : Graph) (parts : ℕ) (table : List ℕ) → table ≡ range_with_len 0 (length g.components) → HasTaken table (length table) (grouped g parts [])
begins g parts table e =
    let n : ℕ = length g.components in
    subst (λ t. HasTaken t (length t) (grouped g parts [])) (sym e)
    (subst (λ names. HasTaken (range_with_len 0 n) (length (range_with_len 0 n)) names) (sym (grouped_none g parts))
    (record { down = own_down n; stands = record { stands = own_stands n; count = length-range_with_len 0 n ∙ sym (groups_own n) } }))

pub numbers_begin : (first list : List ℕ) (parts : ℕ) → GoesDown first → list ≡ [] → Numbers first parts first list 0 0
unfolding groups_below
numbers_begin first list parts d e = record { down = d; counted = ap length e; few = omega arith; named = λ names s. record { stands = s; list = e; next = refl } }

module _ (parts : ℕ) (old new numbers : List ℕ) (met c name : ℕ) (names : List ℕ) (i : IsNumbered parts old numbers met c names) (s : Stands new names) (within : c < length new) (is : name ≡ get_or names c 0) where
  pub first_of : (longer : List ℕ) (x : ℕ) → name ≡ c → longer ≡ numbers ++ x ∷ [] → x ≡ min met (parts - 1) → IsNumbered parts new longer (met + 1) (c + 1) names
  first_of longer x e pushed is_x =
      let own : get_or names c 0 ≡ c = sym is ∙ e in
      let number : x ≡ part_number parts names c = is_x ∙ ap (λ m. min m (parts - 1)) i.next ∙ ap (λ m. min (groups_below names m) (parts - 1)) (sym own) in
      record { stands = s; list = push_more (part_number parts names) c numbers longer x i.list pushed number; next = ap (λ m. m + 1) i.next ∙ sym (below_named names c own) ∙ ap (groups_below names) (omega arith) }

  pub later_of : (longer : List ℕ) (x : ℕ) → name ≢ c → name < c → longer ≡ numbers ++ x ∷ [] → x ≡ get_or numbers name 0 → IsNumbered parts new longer met (c + 1) names
  later_of longer x e lower pushed is_x =
      let other : get_or names c 0 ≢ c = λ h. e (is ∙ h) in
      let f : ℕ → ℕ = part_number parts names in
      let found : get_or numbers name 0 ≡ f name = ap (λ l. get_or l name 0) i.list ∙ get_or-map-range_with_len f 0 c name name 0 lower (omega arith) in
      let own : get_or names name 0 ≡ get_or names c 0 = ap (λ m. get_or names m 0) is ∙ s.naming.own c (omega (arith, s.whole)) in
      let number : x ≡ f c = is_x ∙ found ∙ ap (λ m. min (groups_below names m) (parts - 1)) own in
      record { stands = s; list = push_more f c numbers longer x i.list pushed number; next = i.next ∙ sym (below_other names c other) ∙ ap (groups_below names) (omega arith) }

-- at the end
pub all_numbered : (parts : ℕ) (table numbers : List ℕ) (met c : ℕ) (names : List ℕ) → 1 ≤ parts → IsNumbered parts table numbers met c names → c ≡ length table → numbers ≡ numbered (gathered parts names)
all_numbered parts table numbers met c names some i e = filled (part_number parts names) (length names) c numbers i.list (e ∙ i.stands.whole) ∙ sym (numbers_are parts names i.stands.naming some)

-- one number more
pub grown : (xs ys : List ℕ) (x c : ℕ) → ys ≡ xs ++ x ∷ [] → length xs ≡ c → length ys ≡ c + 1
grown xs ys x c e h = ap length e ∙ omega (arith, length-append xs (x ∷ []), h)

-- how many numbers there are, and that they are below the number of parts
module _ (parts : ℕ) (names list : List ℕ) (n : IsNaming names) (some : 1 ≤ parts) (is : list ≡ numbered (gathered parts names)) where
  pub numbers_whole : length list ≡ length names
  numbers_whole = ap length (is ∙ numbers_are parts names n some) ∙ length-map-range_with_len (part_number parts names) 0 (length names)

  pub number_at : (c : ℕ) → c < length names → get_or list c 0 ≡ part_number parts names c
  number_at c h = ap (λ l. get_or l c 0) (is ∙ numbers_are parts names n some) ∙ get_or-map-range_with_len (part_number parts names) 0 (length names) c c 0 h (omega arith)

  pub numbers_below : AreBelow list parts
  numbers_below = record { below = λ c h. let w : c < length names = omega (arith, numbers_whole) in let e = number_at c w in omega (arith, e) }
