-- Components that are found in the lists of their parts, one after another.
use Rattle.std.proofs.Common.{◌≡◌, ℕ, zero, suc, ◌+◌, ◌<◌, ◌≤◌, ◌==◌, Bool, true, false, cond, List, [], ◌∷◌, ◌++◌, length, drop, get_or, replicate, refl, sym, ap, ◌∙◌, subst, arith, get_or-set_same, get_or-set_other, ◌≢◌, map, append_assoc}
use Rattle.std.proofs.lemmas.List.{get_or_read, length-map}
use Rattle.std.specs.Borrow.{Bor}
use Rattle.std.specs.Prelude.{slice_index, slice_index_or, slice_set}
use Rattle.std.proofs.lemmas.Bool.Decides.{nat_tests}
use Rattle.std.proofs.lemmas.Bool.{eqb-true}
use Rattle.std.proofs.Math.Seq.{drop-cons}
use Rattle.ss_graph.specs.declared.graph.Part.{Part}
use Rattle.ss_stats.specs.Set.{Entry}
use Rattle.ss_stats.specs.Text.{set_rows}
use Rattle.ss_library.specs.declared.kinds.Any.{Any}
use Rattle.ss_library.specs.Kinds.{any_stats}
use Rattle.ss_parts.specs.Parts.{components_of}
use Rattle.ss_top.specs.Answer.{stats_rows}
use Rattle.ss_top.specs.Dividing.{AreParts}

-- in each part's list the components before component i are passed by
pub record Dealt (owners : List ℕ) (lists : List (List (ℕ × Any))) (left : List Any) (places : List ℕ) (i : ℕ) : Type 0 where
  pub each : (p : ℕ) → p < length lists → drop (slice_index places p) (slice_index_or lists p []) ≡ components_of (slice_index owners) p i (drop i left)

abbrev zeros_of : ℕ → List ℕ
zeros_of n = replicate n 0

zeros : (n p : ℕ) → slice_index (zeros_of n) p ≡ 0
zeros zero p = refl
zeros (suc n) zero = refl
zeros (suc n) (suc p) = zeros n p

pub dealt-none : (owners : List ℕ) (lists : List (List (ℕ × Any))) (left : List Any) (places : List ℕ) (n : ℕ) → places ≡ replicate n 0 → AreParts owners lists left → Dealt owners lists left places 0
dealt-none owners lists left places n e a = record { each = λ p h. ap (λ ps. drop (slice_index ps p) (slice_index_or lists p [])) e ∙ ap (λ k. drop k (slice_index_or lists p [])) (zeros n p) ∙ a.each p h }

pub next_of : {X : Type 0} (xs : List X) (i : ℕ) → i < length xs → (x : X) × (drop i xs ≡ x ∷ drop (suc i) xs)
next_of [] i h = absurd (omega (arith, h))
next_of (x ∷ xs) zero h = (x, refl)
next_of (x ∷ xs) (suc i) h = next_of xs i (omega (arith, h))

-- the first of what is left of a list stands at its place
pub record IsFound {X : Type 0} (xs : List X) (place : ℕ) (x : X) (rest : List X) : Type 0 where
  pub within : place < length xs
  pub item : (d : X) → get_or xs place d ≡ x
  pub behind : drop (suc place) xs ≡ rest

found : {X : Type 0} (xs : List X) (n : ℕ) (x : X) (rest : List X) → drop n xs ≡ x ∷ rest → IsFound xs n x rest
found [] zero x rest h = absurd cc
found [] (suc n) x rest h = absurd cc
found (y ∷ ys) zero x rest h = let e : y ≡ x = cc in let f : ys ≡ rest = cc in record { within = omega arith; item = λ d. e; behind = f }
found (y ∷ ys) (suc n) x rest h =
    let r = found ys n x rest h in
    record { within = omega (arith, r.within); item = r.item; behind = r.behind }

module _ (owners : List ℕ) (lists : List (List (ℕ × Any))) (left : List Any) (places : List ℕ) (i : ℕ) (dealt : Dealt owners lists left places i) (at : i < length left) where
  abbrev owner : ℕ
  owner = slice_index owners i

  abbrev element : Any
  element = (next_of left i at).0

  rest_is : drop i left ≡ element ∷ drop (suc i) left
  rest_is = (next_of left i at).1

  chosen : (p : ℕ) → drop (slice_index places p) (slice_index_or lists p []) ≡ components_of (slice_index owners) p i (drop i left)
      → drop (slice_index places p) (slice_index_or lists p []) ≡ cond (owner == p) ((i, element) ∷ components_of (slice_index owners) p (i + 1) (drop (suc i) left)) (components_of (slice_index owners) p (i + 1) (drop (suc i) left))
  chosen p h = h ∙ ap (λ (xs : List Any). components_of (slice_index owners) p i xs) rest_is

  pub own_next : owner < length lists → IsFound (slice_index_or lists owner []) (slice_index places owner) (i, element) (components_of (slice_index owners) owner (i + 1) (drop (suc i) left))
  own_next h =
      let own : (owner == owner) ≡ true = grind (arith, nat_tests) in
      found (slice_index_or lists owner []) (slice_index places owner) (i, element) (components_of (slice_index owners) owner (i + 1) (drop (suc i) left))
      (chosen owner (dealt.each owner h) ∙ ap (λ b. cond b ((i, element) ∷ components_of (slice_index owners) owner (i + 1) (drop (suc i) left)) (components_of (slice_index owners) owner (i + 1) (drop (suc i) left))) own)

  pub dealt-next : owner < length lists → length places ≡ length lists → Dealt owners lists left (slice_set places owner (slice_index places owner + 1)) (i + 1)
  dealt-next h count = record { each = λ p l. go p l (owner == p) refl }
    where
      one : suc i ≡ i + 1
      one = omega arith

      go : (p : ℕ) → p < length lists → (b : Bool) → owner == p ≡ b → drop (slice_index (slice_set places owner (slice_index places owner + 1)) p) (slice_index_or lists p []) ≡ components_of (slice_index owners) p (i + 1) (drop (i + 1) left)
      go p l true e =
          let same : owner ≡ p = eqb-true owner p e in
          let lt : owner < length places = omega (arith, h, count) in
          let more : slice_index places owner + 1 ≡ suc (slice_index places owner) = omega arith in
          subst (λ q. drop (slice_index (slice_set places owner (slice_index places owner + 1)) q) (slice_index_or lists q []) ≡ components_of (slice_index owners) q (i + 1) (drop (i + 1) left)) same
          (ap (λ k. drop k (slice_index_or lists owner [])) (get_or-set_same places owner (slice_index places owner + 1) 0 lt ∙ more)
          ∙ (own_next h).behind
          ∙ ap (λ k. components_of (slice_index owners) owner (i + 1) (drop k left)) one)
      go p l false e =
          let other : p ≢ owner = λ f. grind (arith, nat_tests) in
          ap (λ k. drop k (slice_index_or lists p [])) (get_or-set_other places owner p (slice_index places owner + 1) 0 other)
          ∙ chosen p (dealt.each p l)
          ∙ ap (λ b. cond b ((i, element) ∷ components_of (slice_index owners) p (i + 1) (drop (suc i) left)) (components_of (slice_index owners) p (i + 1) (drop (suc i) left))) e
          ∙ ap (λ k. components_of (slice_index owners) p (i + 1) (drop k left)) one

-- the item of a list, through a map
pub mapped : {X Y : Type 0} (f : X → Y) (xs : List X) (i : ℕ) (x : X) (d : Y) → i < length xs → x ≡ get_or xs i x → get_or (map f xs) i d ≡ f x
mapped f [] i x d h e = absurd (omega (arith, h))
mapped f (y ∷ ys) zero x d h e = ap f (sym e)
mapped f (y ∷ ys) (suc i) x d h e = mapped f ys i x d (omega (arith, h)) e

-- the rows of one component more
pub rows-next : (whole : List ℕ) (parts : List Part) (left : List Any) (i : ℕ) (part : Part) (at : i < length left) (text more name : List ℕ) (set : List Entry) → i < length parts → part ≡ get_or parts i part
    → whole ≡ text ++ stats_rows (drop i parts) (drop i left) → more ≡ text ++ set_rows name set → name ≡ part.name → set ≡ any_stats (next_of left i at).0
    → whole ≡ more ++ stats_rows (drop (i + 1) parts) (drop (i + 1) left)
rows-next whole parts left i part at text more name set h is w m n s =
    let one : suc i ≡ i + 1 = omega arith in
    let front : drop i parts ≡ part ∷ drop (suc i) parts = drop-cons parts i part h ∙ ap (λ (p : Part). p ∷ drop (suc i) parts) (sym is) in
    w
    ∙ ap (λ (ps : List Part). text ++ stats_rows ps (drop i left)) front
    ∙ ap (λ (xs : List Any). text ++ stats_rows (part ∷ drop (suc i) parts) xs) (next_of left i at).1
    ∙ sym (append_assoc text (set_rows part.name (any_stats (next_of left i at).0)) (stats_rows (drop (suc i) parts) (drop (suc i) left)))
    ∙ ap (λ (t : List ℕ). t ++ stats_rows (drop (suc i) parts) (drop (suc i) left))
    (sym (m ∙ ap (λ k. text ++ set_rows k set) n ∙ ap (λ (k : List Entry). text ++ set_rows part.name k) s))
    ∙ ap (λ k. more ++ stats_rows (drop k parts) (drop k left)) one

abbrev Views : Type 0
Views = List (Bor (List (ℕ × Any)))

abbrev pub views : Views → List (List (ℕ × Any))
views ls = map (λ s. s.now) ls

fewer : (part_of : ℕ → ℕ) (p k : ℕ) (xs : List Any) → length (components_of part_of p k xs) ≤ length xs
fewer part_of p k [] = omega arith
fewer part_of p k (x ∷ xs) = go (fewer part_of p (k + 1) xs) (part_of k == p)
  where
    go : length (components_of part_of p (k + 1) xs) ≤ length xs → (b : Bool) → length (cond b ((k, x) ∷ components_of part_of p (k + 1) xs) (components_of part_of p (k + 1) xs)) ≤ length (x ∷ xs)
    go h true = omega (arith, h)
    go h false = omega (arith, h)

module _ (owners : List ℕ) (ls : Views) (left : List Any) (places : List ℕ) (i o place : ℕ) (list : Bor (List (ℕ × Any)))
    (dealt : Dealt owners (views ls) left places i) (a : AreParts owners (views ls) left) (at : i < length left) (is : o ≡ slice_index owners i)
    (listed : list ≡ get_or ls o list) (placed : place ≡ get_or places o place) (count : length places ≡ length ls) where
  own_below : slice_index owners i < length (views ls)
  own_below = a.within i (let w = a.whole in omega (arith, w, at))

  below : o < length ls
  below = let h = own_below in let m : length (views ls) ≡ length ls = length-map ls (λ s. s.now) in omega (arith, h, m, is)

  list_is : slice_index_or (views ls) o [] ≡ list.now
  list_is = mapped (λ s. s.now) ls o list [] below listed

  pub place_is : slice_index places o ≡ place
  place_is = sym (get_or_read places o place (let b = below in omega (arith, b, count)) placed 0)

  -- the next component is found at its part's place
  pub element_at : IsFound list.now place (i, (next_of left i at).0) (components_of (slice_index owners) (slice_index owners i) (i + 1) (drop (suc i) left))
  element_at =
      let f = own_next owners (views ls) left places i dealt at own_below in
      let P : List (ℕ × Any) → ℕ → Type 0 = λ l p. IsFound l p (i, (next_of left i at).0) (components_of (slice_index owners) (slice_index owners i) (i + 1) (drop (suc i) left)) in
      subst (λ p. P list.now p) (ap (slice_index places) (sym is) ∙ place_is)
      (subst (λ l. P l (slice_index places (slice_index owners i))) (ap (λ q. slice_index_or (views ls) q []) (sym is) ∙ list_is) f)

  pub short : length list.now ≤ length left
  short =
      let e : list.now ≡ components_of (slice_index owners) o 0 left = sym list_is ∙ a.each o (let h = own_below in omega (arith, h, is)) in
      let l : length list.now ≡ length (components_of (slice_index owners) o 0 left) = ap length e in
      let f = fewer (slice_index owners) o 0 left in
      omega (arith, l, f)

  pub dealt_next : Dealt owners (views ls) left (slice_set places o (place + 1)) (i + 1)
  dealt_next =
      let m : length (views ls) ≡ length ls = length-map ls (λ s. s.now) in
      let n = dealt-next owners (views ls) left places i dealt at own_below (omega (arith, count, m)) in
      subst (λ v. Dealt owners (views ls) left (slice_set places o (v + 1)) (i + 1)) place_is
      (subst (λ q. Dealt owners (views ls) left (slice_set places q (slice_index places q + 1)) (i + 1)) (sym is) n)

pub stats_is : (list : List (ℕ × Any)) (place i : ℕ) (x : Any) (rest : List (ℕ × Any)) (item : ℕ × Any) → IsFound list place (i, x) rest → item ≡ get_or list place item → any_stats item.1 ≡ any_stats x
stats_is list place i x rest item f e = ap (λ (y : ℕ × Any). any_stats y.1) (e ∙ f.item item)
