-- Lists that are spelled, handed out to parts, and gathered again.
use Rattle.std.proofs.Common.{◌≡◌, ℕ, zero, suc, ◌+◌, ◌≤◌, List, [], ◌∷◌, ◌++◌, length, map, Bool, true, false, not, ◌||◌, cond, eqb, ltb, refl, sym, ap, ◌∙◌, inl, inr, arith, Some}
use Rattle.std.specs.Prelude.{slice_get}
use Rattle.std.specs.List.{filter, flat_map, AllByRecursion as Each}
use Rattle.std.proofs.lemmas.Bool.{cases_Bool, false≢true, eqb-true, eq-eqb, ne_eqb, ltb-true, ltb-false, lt-ltb, le-ltb}
use Rattle.std.proofs.lemmas.List.Concat.{flat_map-cons}
use Rattle.ss_model.specs.declared.Event.{Event}
use Rattle.ss_element.specs.Saving.{Saving}
use Rattle.ss_theory.specs.Queue.{insert, insert_all, by, IsOrdered, IsExactOrder, IsKeyOrder, is_at, batches, has, IsOnce}
use Rattle.ss_theory.proofs.Lists.{each_of, each_map}
use Rattle.ss_theory.proofs.Sorted.{Apart, ordered_insert_all, filter_insert_all, ordered_filter, insert_all_ordered}
use Rattle.ss_theory.proofs.Colours.{one_order, all_batches}
use Rattle.ss_theory.proofs.Steps.{by_order}
use Rattle.ss_shares.specs.Shares.{Share, own, strange, owns, stranges, merged}
use Rattle.ss_parts.specs.Parts.{components_of}
use Rattle.ss_piece.specs.Pieces.{state_spelled, event_spelled}
use Rattle.ss_ckpt.specs.Spells.{event_text}
use Rattle.ss_compose.specs.Compose.{has_state, number_of, bytes_of, event_bytes}

pub map_append : {A B : Type 0} (f : A → B) (xs ys : List A) → map f (xs ++ ys) ≡ map f xs ++ map f ys
map_append f [] ys = refl
map_append f (x ∷ xs) ys = ap (λ l. f x ∷ l) (map_append f xs ys)

pub map_length : {A B : Type 0} (f : A → B) (xs : List A) → length (map f xs) ≡ length xs
map_length f [] = refl
map_length f (x ∷ xs) = ap suc (map_length f xs)

-- what is merged may be spelled before or after
module _ {E F K : Type 0} (key : E → K) (fkey : F → K) (f : E → F) (same : (e : E) → fkey (f e) ≡ key e) (lt : K → K → Bool) where
  insert_map : (e : E) (xs : List E) → insert (by fkey lt) (f e) (map f xs) ≡ map f (insert (by key lt) e xs)
  insert_map e [] = refl
  insert_map e (x ∷ xs) =
      let b : by fkey lt (f e) (f x) ≡ by key lt e x = ap (λ k. lt k (fkey (f x))) (same e) ∙ ap (λ k. lt (key e) k) (same x) in
      elim (cases_Bool (by key lt e x)) [
        | inl c ↦ rw (b, c) refl
        | inr c ↦ rw (b, c) (ap (λ l. f x ∷ l) (insert_map e xs))
      ]

  insert_all_map : (es xs : List E) → insert_all (by fkey lt) (map f es) (map f xs) ≡ map f (insert_all (by key lt) es xs)
  insert_all_map [] xs = refl
  insert_all_map (e ∷ es) xs = ap (insert_all (by fkey lt) (map f es)) (insert_map e xs) ∙ insert_all_map es (insert (by key lt) e xs)

  filter_map : (g h : K → Bool) (xs : List E) → Each (λ e. g (key e) ≡ h (key e)) xs → filter (λ y. g (fkey y)) (map f xs) ≡ map f (filter (λ e. h (key e)) xs)
  filter_map g h [] gh = refl
  filter_map g h (x ∷ xs) gh =
      let b : g (fkey (f x)) ≡ h (key x) = ap g (same x) ∙ gh.0 in
      elim (cases_Bool (h (key x))) [
        | inl c ↦ rw (b, c) (ap (λ l. f x ∷ l) (filter_map g h xs gh.1))
        | inr c ↦ rw (b, c) (filter_map g h xs gh.1)
      ]

  abbrev pub IsSpelled : List (Share K F) → List (Share K E) → Type 0
  IsSpelled [] [] = Unit {0}
  IsSpelled [] (s ∷ ss) = ⊥
  IsSpelled (t ∷ ts) [] = ⊥
  IsSpelled (t ∷ ts) (s ∷ ss) = Each (λ e. t.holds (key e) ≡ s.holds (key e)) s.events × (t.events ≡ map f s.events) × IsSpelled ts ss

  owns_map : (ts : List (Share K F)) (ss : List (Share K E)) → IsSpelled ts ss → owns fkey lt ts ≡ map f (owns key lt ss)
  owns_map [] [] h = refl
  owns_map [] (s ∷ ss) h = absurd h
  owns_map (t ∷ ts) [] h = absurd h
  owns_map (t ∷ ts) (s ∷ ss) h =
      ap (λ l. filter (λ y. t.holds (fkey y)) l ++ owns fkey lt ts) h.1
      ∙ ap (λ l. l ++ owns fkey lt ts) (filter_map t.holds s.holds s.events h.0)
      ∙ ap (λ l. map f (own key lt s) ++ l) (owns_map ts ss h.2)
      ∙ sym (map_append f (own key lt s) (owns key lt ss))

  stranges_map : (ts : List (Share K F)) (ss : List (Share K E)) → IsSpelled ts ss → stranges fkey lt ts ≡ map f (stranges key lt ss)
  stranges_map [] [] h = refl
  stranges_map [] (s ∷ ss) h = absurd h
  stranges_map (t ∷ ts) [] h = absurd h
  stranges_map (t ∷ ts) (s ∷ ss) h =
      ap (λ l. filter (λ y. not (t.holds (fkey y))) l ++ stranges fkey lt ts) h.1
      ∙ ap (λ l. l ++ stranges fkey lt ts) (filter_map (λ k. not (t.holds k)) (λ k. not (s.holds k)) s.events (each_map (λ e. t.holds (key e) ≡ s.holds (key e)) (λ e. not (t.holds (key e)) ≡ not (s.holds (key e))) (λ e k. ap not k) s.events h.0))
      ∙ ap (λ l. map f (strange key lt s) ++ l) (stranges_map ts ss h.2)
      ∙ sym (map_append f (strange key lt s) (stranges key lt ss))

  pub merged_map : (ts : List (Share K F)) (ss : List (Share K E)) → IsSpelled ts ss → merged fkey lt ts ≡ map f (merged key lt ss)
  merged_map ts ss h =
      ap (λ l. insert_all (by fkey lt) (l ++ stranges fkey lt ts) []) (owns_map ts ss h)
      ∙ ap (λ l. insert_all (by fkey lt) (map f (owns key lt ss) ++ l) []) (stranges_map ts ss h)
      ∙ ap (λ l. insert_all (by fkey lt) l []) (sym (map_append f (owns key lt ss) (stranges key lt ss)))
      ∙ insert_all_map (owns key lt ss ++ stranges key lt ss) []

number_order : IsExactOrder ltb
number_order = record {
  asym = λ a b h. le-ltb b a (let k = ltb-true a b h in omega arith);
  trans = λ a b c h k. lt-ltb a c (let x = ltb-true a b h in let y = ltb-true b c k in omega arith);
  exact = λ a b h k. let x = ltb-false a b h in let y = ltb-false b a k in omega arith;
}

-- states in order, handed out by parts and gathered again
states_make : (part : ℕ → ℕ) (xs : List (ℕ × List ℕ)) (js : List ℕ) → IsOrdered (by number_of ltb) xs → IsOnce js → ((i : ℕ) → has js (part i) ≡ true) →
    insert_all (by number_of ltb) (batches (λ p. filter (is_at (λ x. part (number_of x)) p) xs) js) [] ≡ xs
states_make part xs js o once cover =
    let colour = λ (x : ℕ × List ℕ). part (number_of x) in
    let order : IsKeyOrder (by number_of ltb) = by_order number_of ltb number_order in
    let all = batches (λ p. filter (is_at colour p) xs) js in
    one_order (by number_of ltb) order colour apart (insert_all (by number_of ltb) all []) xs (ordered_insert_all (by number_of ltb) order all [] tt) o
    (λ p.
    filter_insert_all (by number_of ltb) order (is_at colour p) all [] tt
    ∙ ap (λ l. insert_all (by number_of ltb) l []) (all_batches colour xs js once (each_of (λ x. has js (colour x) ≡ true) (λ x. cover (number_of x)) xs) p)
    ∙ insert_all_ordered (by number_of ltb) order (filter (is_at colour p) xs) [] (ordered_filter (by number_of ltb) order (is_at colour p) xs o))
  where
    apart : (a b : ℕ × List ℕ) → (part (number_of a) ≡ part (number_of b) → ⊥) → Apart (by number_of ltb) (by_order number_of ltb number_order) a b
    apart a b ne =
        elim (cases_Bool (ltb a.0 b.0)) [
          | inl h ↦ inl h
          | inr h ↦ elim (cases_Bool (ltb b.0 a.0)) [
            | inl k ↦ inr k
            | inr k ↦ absurd (ne (ap part (number_order.exact a.0 b.0 h k)))
          ]
        ]

module _ {S L : Type 0} (saving : Saving S L) where
  -- the spelled states of components in order, with their numbers
  abbrev pub numbered : ℕ → List S → List (ℕ × List ℕ)
  numbered n [] = []
  numbered n (x ∷ xs) = (n, saving.spell x) ∷ numbered (n + 1) xs

  numbered_from : (n : ℕ) (xs : List S) → Each (λ y. n ≤ number_of y) (numbered n xs)
  numbered_from n [] = tt
  numbered_from n (x ∷ xs) = (omega arith, each_map (λ y. n + 1 ≤ number_of y) (λ y. n ≤ number_of y) (λ y h. let k : n + 1 ≤ number_of y = h in omega arith) (numbered (n + 1) xs) (numbered_from (n + 1) xs))

  numbered_ordered : (n : ℕ) (xs : List S) → IsOrdered (by number_of ltb) (numbered n xs)
  numbered_ordered n [] = tt
  numbered_ordered n (x ∷ xs) = (
    each_map (λ y. n + 1 ≤ number_of y) (λ y. ltb (number_of y) n ≡ false) (λ y h. let k : n + 1 ≤ number_of y = h in le-ltb (number_of y) n (omega arith)) (numbered (n + 1) xs) (numbered_from (n + 1) xs),
    numbered_ordered (n + 1) xs,
  )

  numbered_flat : (n : ℕ) (xs : List S) → flat_map bytes_of (numbered n xs) ≡ flat_map saving.spell xs
  numbered_flat n [] = refl
  numbered_flat n (x ∷ xs) =
      flat_map-cons bytes_of (n, saving.spell x) (numbered (n + 1) xs)
      ∙ ap (λ l. saving.spell x ++ l) (numbered_flat (n + 1) xs)
      ∙ sym (flat_map-cons saving.spell x xs)

  pub events_flat : (es : List (Event L)) → flat_map event_bytes (map (event_spelled saving) es) ≡ flat_map (event_text saving) es
  events_flat [] = refl
  events_flat (e ∷ es) =
      flat_map-cons event_bytes (event_spelled saving e) (map (event_spelled saving) es)
      ∙ ap (λ l. event_text saving e ++ l) (events_flat es)
      ∙ sym (flat_map-cons (event_text saving) e es)

  module _ (part_of : ℕ → ℕ) where
    -- a part's components, spelled
    abbrev pub its : ℕ → ℕ → List S → List (ℕ × List ℕ)
    its p n xs = map (state_spelled saving) (components_of part_of p n xs)

    its_are : (p n : ℕ) (xs : List S) → its p n xs ≡ filter (is_at (λ x. part_of (number_of x)) p) (numbered n xs)
    its_are p n [] = refl
    its_are p n (x ∷ xs) =
        elim (cases_Bool (eqb (part_of n) p)) [
          | inl c ↦ simp (c) (ap (λ l. (n, saving.spell x) ∷ l) (its_are p (n + 1) xs))
          | inr c ↦ simp (c) (its_are p (n + 1) xs)
        ]

    batches_same : (f g : ℕ → List (ℕ × List ℕ)) (js : List ℕ) → ((p : ℕ) → f p ≡ g p) → batches f js ≡ batches g js
    batches_same f g [] h = refl
    batches_same f g (j ∷ js) h = ap (λ l. l ++ batches f js) (h j) ∙ ap (λ l. g j ++ l) (batches_same f g js h)

    -- all parts' states by their numbers are those of all components
    pub states_flat : (xs : List S) (js : List ℕ) → IsOnce js → ((i : ℕ) → has js (part_of i) ≡ true) → flat_map bytes_of (insert_all (by number_of ltb) (batches (λ p. its p 0 xs) js) []) ≡ flat_map saving.spell xs
    states_flat xs js once cover =
        ap (λ l. flat_map bytes_of (insert_all (by number_of ltb) l [])) (batches_same (λ p. its p 0 xs) (λ p. filter (is_at (λ x. part_of (number_of x)) p) (numbered 0 xs)) js (λ p. its_are p 0 xs))
        ∙ ap (flat_map bytes_of) (states_make part_of (numbered 0 xs) js (numbered_ordered 0 xs) once cover)
        ∙ numbered_flat 0 xs

    only_number : (p n c : ℕ) (rest : List (ℕ × List ℕ)) → (has_state rest c ≡ true → part_of c ≡ p) → (e : Bool) → eqb n c ≡ e → eqb (part_of n) p ≡ true → e || has_state rest c ≡ true → part_of c ≡ p
    only_number p n c rest ih true q t k = ap part_of (sym (eqb-true n c q)) ∙ eqb-true (part_of n) p t
    only_number p n c rest ih false q t k = ih k

    only_part : (p n c : ℕ) (x : S) (xs : List S) → (has_state (its p (n + 1) xs) c ≡ true → part_of c ≡ p) → (b : Bool) → eqb (part_of n) p ≡ b → has_state (map (state_spelled saving) (cond b ((n, x) ∷ components_of part_of p (n + 1) xs) (components_of part_of p (n + 1) xs))) c ≡ true → part_of c ≡ p
    only_part p n c x xs ih true t k = only_number p n c (its p (n + 1) xs) ih (eqb n c) refl t k
    only_part p n c x xs ih false t k = ih k

    -- which components' states are among a part's
    pub only_its : (p n c : ℕ) (xs : List S) → has_state (its p n xs) c ≡ true → part_of c ≡ p
    only_its p n c [] h = absurd (false≢true h)
    only_its p n c (x ∷ xs) h = only_part p n c x xs (only_its p (n + 1) c xs) (eqb (part_of n) p) refl h

    all_its : (p n c i : ℕ) (xs : List S) (y : S) → c ≡ n + i → part_of c ≡ p → slice_get xs i ≡ Some y → has_state (its p n xs) c ≡ true
    all_its p n c i [] y e h g = absurd cc
    all_its p n c zero (x ∷ xs) y e h g =
        let m : n ≡ c = omega arith in
        simp (eq-eqb (part_of n) p (ap part_of m ∙ h), eq-eqb n c m) refl
    all_its p n c (suc i) (x ∷ xs) y e h g =
        let ih : has_state (its p (n + 1) xs) c ≡ true = all_its p (n + 1) c i xs y (omega arith) h g in
        let m : eqb n c ≡ false = ne_eqb n c (λ d. omega arith) in
        elim (cases_Bool (eqb (part_of n) p)) [
          | inl t ↦ simp (t, m) ih
          | inr t ↦ simp (t) ih
        ]

    pub its_state : (p c : ℕ) (xs : List S) (y : S) → slice_get xs c ≡ Some y → has_state (its p 0 xs) c ≡ eqb (part_of c) p
    its_state p c xs y g =
        elim (cases_Bool (eqb (part_of c) p)) [
          | inl t ↦ all_its p 0 c c xs y (omega arith) (eqb-true (part_of c) p t) g ∙ sym t
          | inr t ↦ elim (cases_Bool (has_state (its p 0 xs) c)) [
            | inl h ↦ absurd (false≢true (sym t ∙ eq-eqb (part_of c) p (only_its p 0 c xs h)))
            | inr h ↦ h ∙ sym t
          ]
        ]
