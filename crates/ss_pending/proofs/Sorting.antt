-- A list of numbered events put in order, and what a heap's top and rest are in it.
use Rattle.std.proofs.Common.{◌≡◌, ℕ, ◌+◌, ◌<◌, ◌≤◌, ◌≢◌, ◌⊎◌, inl, inr, Bool, true, false, ◌&&◌, ◌||◌, cond, eqb, ltb, List, [], ◌∷◌, Some, None, refl, sym, ap, ◌∙◌, subst, arith, Option}
use Rattle.std.proofs.lemmas.Bool.{false≢true}
use Rattle.std.proofs.lemmas.Bool.Decides.{nat_tests}
use Rattle.std.proofs.lemmas.List.Sums.{sum_by-cons}
use Rattle.std.proofs.lemmas.List.Sorted.{IsPermutation-sym, All-permutation, sum_by-IsPermutation}
use Rattle.std.proofs.lemmas.List.Elements.{All-from_recursion, All-head, All-tail}
use Rattle.std.specs.Option.{option_map}
use Rattle.std.specs.List.{sum_by, All, AllByRecursion}
use Rattle.std.specs.List.Sorted.{IsPermutation}
use Rattle.std.specs.Ordering.{is_lt, nat_cmp, ordering_then}
use Rattle.std.specs.declared.cmp.Ordering.{Ordering}
use Rattle.std.specs.declared.cmp.Ordering.TheVariants.{Less, Equal, Greater}
use Rattle.std.specs.BinaryHeap.{IsUpperBound}
use Rattle.ss_model.specs.declared.Key.{Key}
use Rattle.ss_model.specs.Order.{key_before, insert, next_key}
use Rattle.ss_model.proofs.Keys.{before_trans}
use Rattle.ss_pending.specs.declared.filed.Filed.{Filed}
use Rattle.ss_pending.specs.Filed.{is_before, latest_first, In, AllBehind, Ascends, Different, FirstOf, Takes, place, sorted, events, in_order, has_number, AllBelow}

-- ---- the order

or_cases : (s t : Bool) → (s || t) ≡ true → (s ≡ true) ⊎ (t ≡ true)
or_cases true t h = inl refl
or_cases false t h = inr h

or_left : (s t : Bool) → s ≡ true → (s || t) ≡ true
or_left s t h = rw h refl

or_right : (s t : Bool) → t ≡ true → (s || t) ≡ true
or_right true t h = refl
or_right false t h = h

abbrev before3 : ℕ → ℕ → ℕ → ℕ → ℕ → ℕ → Bool
before3 a b c x y z = ltb a x || (eqb a x && (ltb b y || (eqb b y && ltb c z)))

abbrev ties4 : ℕ → ℕ → ℕ → ℕ → ℕ → ℕ → ℕ → ℕ → Bool
ties4 a b c n x y z m = eqb a x && (eqb b y && (eqb c z && ltb n m))

abbrev before4 : ℕ → ℕ → ℕ → ℕ → ℕ → ℕ → ℕ → ℕ → Bool
before4 a b c n x y z m = before3 a b c x y z || ties4 a b c n x y z m

-- one key, and numbers that rise
record Ties (a b c n x y z m : ℕ) : Type 0 where
  time : a ≡ x
  class : b ≡ y
  line : c ≡ z
  number : n < m

tied : (a b c n x y z m : ℕ) → ties4 a b c n x y z m ≡ true → Ties a b c n x y z m
tied a b c n x y z m h = record { time = grind (arith, nat_tests); class = grind (arith, nat_tests); line = grind (arith, nat_tests); number = grind (arith, nat_tests) }

ties : (a b c n x y z m : ℕ) → a ≡ x → b ≡ y → c ≡ z → n < m → ties4 a b c n x y z m ≡ true
ties a b c n x y z m = grind (arith, nat_tests)

to_right : (a b c x y z u v w : ℕ) → before3 a b c x y z ≡ true → x ≡ u → y ≡ v → z ≡ w → before3 a b c u v w ≡ true
to_right a b c x y z u v w h p q r = subst (λ k. before3 a b c u v k ≡ true) r (subst (λ k. before3 a b c u k z ≡ true) q (subst (λ k. before3 a b c k y z ≡ true) p h))

to_left : (a b c x y z u v w : ℕ) → before3 x y z u v w ≡ true → a ≡ x → b ≡ y → c ≡ z → before3 a b c u v w ≡ true
to_left a b c x y z u v w h p q r = subst (λ k. before3 a b k u v w ≡ true) (sym r) (subst (λ k. before3 a k z u v w ≡ true) (sym q) (subst (λ k. before3 k y z u v w ≡ true) (sym p) h))

asym4 : (a b c n x y z m : ℕ) → before4 a b c n x y z m ≡ true → before4 x y z m a b c n ≡ false
asym4 a b c n x y z m = grind (arith, nat_tests)

total4 : (a b c n x y z m : ℕ) → n ≢ m → before4 a b c n x y z m ≡ false → before4 x y z m a b c n ≡ true
total4 a b c n x y z m = grind (arith, nat_tests)

newest4 : (a b c n x y z m : ℕ) → m < n → before4 a b c n x y z m ≡ before3 a b c x y z
newest4 a b c n x y z m = grind (arith, nat_tests)

-- what the comparison tells
less_then : (s t : Bool) (o : Ordering) → is_lt (ordering_then (cond s Less (cond t Equal Greater)) o) ≡ (s || (t && is_lt o))
less_then true t o = refl
less_then false true o = refl
less_then false false o = refl

less : (s t : Bool) → is_lt (cond s Less (cond t Equal Greater)) ≡ s
less true t = refl
less false true = refl
less false false = refl

four : (a b c n x y z m : ℕ) → (ltb a x || (eqb a x && (ltb b y || (eqb b y && (ltb c z || (eqb c z && ltb n m)))))) ≡ before4 a b c n x y z m
four a b c n x y z m = grind (arith, nat_tests)

less_four : (a b c n x y z m : ℕ) → is_lt (ordering_then (nat_cmp a x) (ordering_then (nat_cmp b y) (ordering_then (nat_cmp c z) (nat_cmp n m)))) ≡ before4 a b c n x y z m
less_four a b c n x y z m =
    less_then (ltb a x) (eqb a x) _
    ∙ ap (λ (r : Bool). ltb a x || (eqb a x && r)) (less_then (ltb b y) (eqb b y) _)
    ∙ ap (λ (r : Bool). ltb a x || (eqb a x && (ltb b y || (eqb b y && r)))) (less_then (ltb c z) (eqb c z) _)
    ∙ ap (λ (r : Bool). ltb a x || (eqb a x && (ltb b y || (eqb b y && (ltb c z || (eqb c z && r)))))) (less (ltb n m) (eqb n m))
    ∙ four a b c n x y z m

-- ---- lists in order

abbrev Leads : Key → ℕ → Key → ℕ → Type 0
Leads a n b m = (key_before a b ≡ true) ⊎ (ties4 a.time a.class a.line n b.time b.class b.line m ≡ true)

leads_trans : (a b c : Key) (n m o : ℕ) → Leads a n b m → Leads b m c o → (key_before a c || ties4 a.time a.class a.line n c.time c.class c.line o) ≡ true
leads_trans a b c n m o (inl h) (inl k) = or_left _ _ (before_trans a b c h k)
leads_trans a b c n m o (inl h) (inr k) =
    let t = tied b.time b.class b.line m c.time c.class c.line o k in
    or_left _ _ (to_right a.time a.class a.line b.time b.class b.line c.time c.class c.line h t.time t.class t.line)
leads_trans a b c n m o (inr h) (inl k) =
    let t = tied a.time a.class a.line n b.time b.class b.line m h in
    or_left _ _ (to_left a.time a.class a.line b.time b.class b.line c.time c.class c.line k t.time t.class t.line)
leads_trans a b c n m o (inr h) (inr k) =
    let s = tied a.time a.class a.line n b.time b.class b.line m h in
    let t = tied b.time b.class b.line m c.time c.class c.line o k in
    or_right _ _ (ties a.time a.class a.line n c.time c.class c.line o (s.time ∙ t.time) (s.class ∙ t.class) (s.line ∙ t.line) (omega arith))

counted : (n m s : ℕ) → cond (eqb n m) 1 0 + s ≡ 0 → (m ≢ n) × (s ≡ 0)
counted n m s h = (λ e. absurd (grind (arith, nat_tests)), omega arith)

one_less : (n s : ℕ) → cond (eqb n n) 1 0 + s ≤ 1 → s ≡ 0
one_less n s h = grind (arith, nat_tests)

other_number : (m n : ℕ) → m < n → cond {A = ℕ} (eqb m n) 1 0 ≡ 0
other_number m n = grind (arith, nat_tests)

number_once : (m n s t : ℕ) → t ≡ cond (eqb m n) 1 0 + s → s ≤ 1 → (m ≡ n → s ≡ 0) → t ≤ 1
number_once m n s t = grind (arith, nat_tests)

module _ {L : Type 0} where
  pub in_recursion : (P : Filed L → Type 0) (xs : List (Filed L)) (z : Filed L) → AllByRecursion P xs → In z xs → P z
  in_recursion P [] z a i = absurd i
  in_recursion P (x ∷ xs) z a (inl e) = subst P (sym e) a.0
  in_recursion P (x ∷ xs) z a (inr i) = in_recursion P xs z a.1 i

  in_all : (P : Filed L → Type 0) (xs : List (Filed L)) (z : Filed L) → All P xs → In z xs → P z
  in_all P [] z a i = absurd i
  in_all P (x ∷ xs) z a (inl e) = subst P (sym e) (All-head P x xs a)
  in_all P (x ∷ xs) z a (inr i) = in_all P xs z (All-tail P x xs a) i

  pub all_in : (P : Filed L → Type 0) (ys : List (Filed L)) → ((z : Filed L) → In z ys → P z) → AllByRecursion P ys
  all_in P [] f = tt
  all_in P (y ∷ ys) f = (f y (inl refl), all_in P ys (λ z i. f z (inr i)))

  pub in_permutation : (xs ys : List (Filed L)) (z : Filed L) → IsPermutation xs ys → In z ys → In z xs
  in_permutation xs ys z p i =
      let P : Filed L → Type 0 = λ w. In w xs in
      in_all P ys z (All-permutation P xs ys p (All-from_recursion P xs (all_in P xs (λ w j. j)))) i

  pub tells : (x y : Filed L) → is_lt (latest_first x y) ≡ is_before y x
  tells x y = less_four y.event.key.time y.event.key.class y.event.key.line y.number x.event.key.time x.event.key.class x.event.key.line x.number

  pub asym : (x y : Filed L) → is_before x y ≡ true → is_before y x ≡ false
  asym x y = asym4 x.event.key.time x.event.key.class x.event.key.line x.number y.event.key.time y.event.key.class y.event.key.line y.number

  total : (x y : Filed L) → x.number ≢ y.number → is_before x y ≡ false → is_before y x ≡ true
  total x y = total4 x.event.key.time x.event.key.class x.event.key.line x.number y.event.key.time y.event.key.class y.event.key.line y.number

  newest : (x y : Filed L) → y.number < x.number → is_before x y ≡ key_before x.event.key y.event.key
  newest x y = newest4 x.event.key.time x.event.key.class x.event.key.line x.number y.event.key.time y.event.key.class y.event.key.line y.number

  pub trans : (x y z : Filed L) → is_before x y ≡ true → is_before y z ≡ true → is_before x z ≡ true
  trans x y z p q = leads_trans x.event.key y.event.key z.event.key x.number y.number z.number (or_cases _ _ p) (or_cases _ _ q)

  behind_trans : (x y : Filed L) (zs : List (Filed L)) → is_before x y ≡ true → AllBehind y zs → AllBehind x zs
  behind_trans x y [] h b = tt
  behind_trans x y (z ∷ zs) h b = (trans x y z h b.0, behind_trans x y zs h b.1)

  behind_place : (y x : Filed L) (zs : List (Filed L)) → is_before y x ≡ true → AllBehind y zs → AllBehind y (place x zs)
  behind_place y x [] h b = (h, tt)
  behind_place y x (z ∷ zs) h b = put (is_before x z) (behind_place y x zs h b.1)
    where
      put : (o : Bool) → AllBehind y (place x zs) → AllBehind y (cond o (x ∷ z ∷ zs) (z ∷ place x zs))
      put true r = (h, b)
      put false r = (b.0, r)

  -- no number of the list is x's
  abbrev IsNew : Filed L → List (Filed L) → Type 0
  IsNew x ys = sum_by (has_number x.number) ys ≡ 0

  new_head : (x y : Filed L) (ys : List (Filed L)) → IsNew x (y ∷ ys) → (x.number ≢ y.number) × IsNew x ys
  new_head x y ys h = counted y.number x.number _ (sym (sum_by-cons (has_number x.number) y ys) ∙ h)

  ascends_place : (x : Filed L) (ys : List (Filed L)) → IsNew x ys → Ascends ys → Ascends (place x ys)
  ascends_place x [] n a = (tt, tt)
  ascends_place x (y ∷ ys) n a =
      let new = new_head x y ys n in
      put (is_before x y) refl new.0 (ascends_place x ys new.1 a.1)
    where
      put : (o : Bool) → is_before x y ≡ o → x.number ≢ y.number → Ascends (place x ys) → Ascends (cond o (x ∷ y ∷ ys) (y ∷ place x ys))
      put true h d r = ((h, behind_trans x y ys h a.0), a)
      put false h d r = (behind_place y x ys (total x y d h) a.0, r)

  sum_place : (f : Filed L → ℕ) (x : Filed L) (ys : List (Filed L)) → sum_by f (place x ys) ≡ f x + sum_by f ys
  sum_place f x [] = sum_by-cons f x []
  sum_place f x (y ∷ ys) = put (is_before x y) (sum_place f x ys)
    where
      put : (o : Bool) → sum_by f (place x ys) ≡ f x + sum_by f ys → sum_by f (cond o (x ∷ y ∷ ys) (y ∷ place x ys)) ≡ f x + sum_by f (y ∷ ys)
      put true r = sum_by-cons f x (y ∷ ys)
      put false r = let p = sum_by-cons f y (place x ys) in let q = sum_by-cons f y ys in omega (arith, p, q, r)

  sum_sorted : (f : Filed L → ℕ) (xs : List (Filed L)) → sum_by f (sorted xs) ≡ sum_by f xs
  sum_sorted f [] = refl
  sum_sorted f (x ∷ xs) = let p = sum_place f x (sorted xs) in let q = sum_by-cons f x xs in let r = sum_sorted f xs in omega (arith, p, q, r)

  tail_different : (x : Filed L) (xs : List (Filed L)) → Different (x ∷ xs) → Different xs
  tail_different x xs d n = let p = sum_by-cons (has_number n) x xs in let q = d n in omega (arith, p, q)

  head_new : (x : Filed L) (xs : List (Filed L)) → Different (x ∷ xs) → IsNew x xs
  head_new x xs d = one_less x.number _ (subst (λ (s : ℕ). s ≤ 1) (sum_by-cons (has_number x.number) x xs) (d x.number))

  sorted_new : (x : Filed L) (xs : List (Filed L)) → Different (x ∷ xs) → IsNew x (sorted xs)
  sorted_new x xs d = sum_sorted (has_number x.number) xs ∙ head_new x xs d

  ascends_sorted : (xs : List (Filed L)) → Different xs → Ascends (sorted xs)
  ascends_sorted [] d = tt
  ascends_sorted (x ∷ xs) d = ascends_place x (sorted xs) (sorted_new x xs d) (ascends_sorted xs (tail_different x xs d))

  place_in : (z x : Filed L) (ys : List (Filed L)) → In z (x ∷ ys) → In z (place x ys)
  place_in z x [] i = i
  place_in z x (y ∷ ys) i = put (is_before x y) i (place_in z x ys)
    where
      put : (o : Bool) → In z (x ∷ y ∷ ys) → (In z (x ∷ ys) → In z (place x ys)) → In z (cond o (x ∷ y ∷ ys) (y ∷ place x ys))
      put true i r = i
      put false (inl e) r = inr (r (inl e))
      put false (inr (inl e)) r = inl e
      put false (inr (inr i)) r = inr (r (inr i))

  in_place : (z x : Filed L) (ys : List (Filed L)) → In z (place x ys) → In z (x ∷ ys)
  in_place z x [] i = i
  in_place z x (y ∷ ys) i = put (is_before x y) i (in_place z x ys)
    where
      swap : In z (x ∷ ys) → In z (x ∷ y ∷ ys)
      swap (inl e) = inl e
      swap (inr i) = inr (inr i)

      put : (o : Bool) → In z (cond o (x ∷ y ∷ ys) (y ∷ place x ys)) → (In z (place x ys) → In z (x ∷ ys)) → In z (x ∷ y ∷ ys)
      put true i r = i
      put false (inl e) r = inr (inl e)
      put false (inr i) r = swap (r i)

  in_sorted : (z : Filed L) (xs : List (Filed L)) → In z (sorted xs) → In z xs
  in_sorted z [] i = i
  in_sorted z (x ∷ xs) i = next (in_place z x (sorted xs) i) (in_sorted z xs)
    where
      next : In z (x ∷ sorted xs) → (In z (sorted xs) → In z xs) → In z (x ∷ xs)
      next (inl e) r = inl e
      next (inr j) r = inr (r j)

  sorted_in : (z : Filed L) (xs : List (Filed L)) → In z xs → In z (sorted xs)
  sorted_in z [] i = i
  sorted_in z (x ∷ xs) (inl e) = place_in z x (sorted xs) (inl e)
  sorted_in z (x ∷ xs) (inr i) = place_in z x (sorted xs) (inr (sorted_in z xs i))

  pub behind : (x z : Filed L) (ys : List (Filed L)) → AllBehind x ys → In z ys → is_before x z ≡ true
  behind x z ys b i = in_recursion (λ y. is_before x y ≡ true) ys z b i

  not_both : (x y : Filed L) → is_before x y ≡ true → is_before y x ≡ true → ⊥
  not_both x y h k = false≢true (sym (asym x y h) ∙ k)

  heads : (x y : Filed L) (xs ys : List (Filed L)) → AllBehind x xs → AllBehind y ys → In x (y ∷ ys) → In y (x ∷ xs) → x ≡ y
  heads x y xs ys a b (inl e) j = e
  heads x y xs ys a b (inr i) (inl e) = sym e
  heads x y xs ys a b (inr i) (inr j) = absurd (not_both y x (behind y x ys b i) (behind x y xs a j))

  tails : (x y z : Filed L) (xs ys : List (Filed L)) → x ≡ y → AllBehind x xs → In z xs → In z (y ∷ ys) → In z ys
  tails x y z xs ys e a i (inr j) = j
  tails x y z xs ys e a i (inl d) =
      let h = behind x z xs a i in
      let same : is_before x z ≡ is_before x x = ap (λ w. is_before x w) (d ∙ sym e) in
      absurd (not_both x x (sym same ∙ h) (sym same ∙ h))

  -- two lists in order that hold the same
  same_list : (xs ys : List (Filed L)) → Ascends xs → Ascends ys → ((z : Filed L) → In z xs → In z ys) → ((z : Filed L) → In z ys → In z xs) → xs ≡ ys
  same_list [] [] a b f g = refl
  same_list [] (y ∷ ys) a b f g = absurd (g y (inl refl))
  same_list (x ∷ xs) [] a b f g = absurd (f x (inl refl))
  same_list (x ∷ xs) (y ∷ ys) a b f g =
      let e = heads x y xs ys a.0 b.0 (f x (inl refl)) (g y (inl refl)) in
      let rest = same_list xs ys a.1 b.1 (λ z i. tails x y z xs ys e a.0 i (f z (inr i))) (λ z i. tails y x z ys xs (sym e) b.0 i (g z (inr i))) in
      ap (λ w. w ∷ xs) e ∙ ap (λ ws. y ∷ ws) rest

  pub different_permutation : (xs ys : List (Filed L)) → IsPermutation xs ys → Different xs → Different ys
  different_permutation xs ys p d n = subst (λ (s : ℕ). s ≤ 1) (sym (sum_by-IsPermutation (has_number n) xs ys p)) (d n)

  pub sorted_permutation : (xs ys : List (Filed L)) → IsPermutation xs ys → Different xs → sorted xs ≡ sorted ys
  sorted_permutation xs ys p d =
      same_list (sorted xs) (sorted ys) (ascends_sorted xs d) (ascends_sorted ys (different_permutation xs ys p d))
      (λ z i. sorted_in z ys (in_permutation ys xs z (IsPermutation-sym xs ys p) (in_sorted z xs i)))
      (λ z i. sorted_in z xs (in_permutation xs ys z p (in_sorted z ys i)))

  -- ---- one more, whose number is above all others

  none_has : (n : ℕ) (xs : List (Filed L)) → AllBelow n xs → sum_by (has_number n) xs ≡ 0
  none_has n [] b = refl
  none_has n (x ∷ xs) b = let p = sum_by-cons (has_number n) x xs in let q = none_has n xs b.1 in let r = other_number x.number n b.0 in omega (arith, p, q, r)

  pub more_different : (x : Filed L) (xs : List (Filed L)) → AllBelow x.number xs → Different xs → Different (x ∷ xs)
  more_different x xs b d n = number_once x.number n _ _ (sum_by-cons (has_number n) x xs) (d n) (λ e. subst (λ (m : ℕ). sum_by (has_number m) xs ≡ 0) e (none_has x.number xs b))

  below_place : (n : ℕ) (x : Filed L) (ys : List (Filed L)) → x.number < n → AllBelow n ys → AllBelow n (place x ys)
  below_place n x [] h b = (h, tt)
  below_place n x (y ∷ ys) h b = put (is_before x y) (below_place n x ys h b.1)
    where
      put : (o : Bool) → AllBelow n (place x ys) → AllBelow n (cond o (x ∷ y ∷ ys) (y ∷ place x ys))
      put true r = (h, b)
      put false r = (b.0, r)

  below_sorted : (n : ℕ) (xs : List (Filed L)) → AllBelow n xs → AllBelow n (sorted xs)
  below_sorted n [] b = tt
  below_sorted n (x ∷ xs) b = below_place n x (sorted xs) b.0 (below_sorted n xs b.1)

  events_place : (x : Filed L) (ys : List (Filed L)) → AllBelow x.number ys → events (place x ys) ≡ insert x.event (events ys)
  events_place x [] b = refl
  events_place x (y ∷ ys) b = put (is_before x y) (key_before x.event.key y.event.key) (newest x y b.0) (events_place x ys b.1)
    where
      put : (o k : Bool) → o ≡ k → events (place x ys) ≡ insert x.event (events ys) → events (cond o (x ∷ y ∷ ys) (y ∷ place x ys)) ≡ cond k (x.event ∷ y.event ∷ events ys) (y.event ∷ insert x.event (events ys))
      put true true e r = refl
      put true false e r = absurd (cc)
      put false true e r = absurd (cc)
      put false false e r = ap (λ es. y.event ∷ es) r

  pub pushed : (x : Filed L) (xs ys : List (Filed L)) → IsPermutation (x ∷ xs) ys → Different xs → AllBelow x.number xs → in_order ys ≡ insert x.event (in_order xs)
  pushed x xs ys p d b =
      ap events (sym (sorted_permutation (x ∷ xs) ys p (more_different x xs b d)))
      ∙ events_place x (sorted xs) (below_sorted x.number xs b)

  pub pushed_different : (x : Filed L) (xs ys : List (Filed L)) → IsPermutation (x ∷ xs) ys → Different xs → AllBelow x.number xs → Different ys
  pushed_different x xs ys p d b = different_permutation (x ∷ xs) ys p (more_different x xs b d)

  below_more : (n m : ℕ) (xs : List (Filed L)) → n ≤ m → AllBelow n xs → AllBelow m xs
  below_more n m [] h b = tt
  below_more n m (x ∷ xs) h b = (omega (arith, b.0), below_more n m xs h b.1)

  below_permutation : (n : ℕ) (xs ys : List (Filed L)) → IsPermutation xs ys → AllBelow n xs → AllBelow n ys
  below_permutation n xs ys p b = all_in (λ (x : Filed L). x.number < n) ys (λ z i. in_recursion (λ (x : Filed L). x.number < n) xs z b (in_permutation xs ys z p i))

  pub pushed_below : (x : Filed L) (xs ys : List (Filed L)) → IsPermutation (x ∷ xs) ys → AllBelow x.number xs → AllBelow (x.number + 1) ys
  pushed_below x xs ys p b = below_permutation (x.number + 1) (x ∷ xs) ys p (omega arith, below_more x.number (x.number + 1) xs (omega arith) b)

  -- ---- what comes first

  first_place : (x : Filed L) (ys : List (Filed L)) → ((z : Filed L) → In z ys → is_before z x ≡ false) → IsNew x ys → place x ys ≡ x ∷ ys
  first_place x [] f n = refl
  first_place x (y ∷ ys) f n =
      let new = new_head x y ys n in
      rw (total y x (λ e. new.0 (sym e)) (f y (inl refl))) refl

  -- none of the list comes before x
  pub upper : (x : Filed L) (ys : List (Filed L)) → ((z : Filed L) → In z ys → is_before z x ≡ false) → IsUpperBound latest_first x ys
  upper x ys f = all_in (λ y. is_lt (latest_first x y) ≡ false) ys (λ z i. tells x z ∙ f z i)

  pub upper_at : (x z : Filed L) (ys : List (Filed L)) → IsUpperBound latest_first x ys → In z ys → is_before z x ≡ false
  upper_at x z ys u i = sym (tells x z) ∙ in_recursion (λ y. is_lt (latest_first x y) ≡ false) ys z u i

  top_first : (x : Filed L) (xs : List (Filed L)) → Different (x ∷ xs) → IsUpperBound latest_first x xs → sorted (x ∷ xs) ≡ x ∷ sorted xs
  top_first x xs d u = first_place x (sorted xs) (λ z i. upper_at x z xs u (in_sorted z xs i)) (sorted_new x xs d)

  pub taken : (x : Filed L) (xs ys : List (Filed L)) → Takes x xs ys → Different xs → in_order xs ≡ x.event ∷ in_order ys
  taken x xs ys t d = ap events (sorted_permutation xs (x ∷ ys) t.left d ∙ top_first x ys (different_permutation xs (x ∷ ys) t.left d) t.first)

  pub taken_different : (x : Filed L) (xs ys : List (Filed L)) → Takes x xs ys → Different xs → Different ys
  taken_different x xs ys t d = tail_different x ys (different_permutation xs (x ∷ ys) t.left d)

  pub taken_below : (n : ℕ) (x : Filed L) (xs ys : List (Filed L)) → Takes x xs ys → AllBelow n xs → AllBelow n ys
  taken_below n x xs ys t b = (below_permutation n xs (x ∷ ys) t.left b).1

  first_in : (x : Filed L) (ys : List (Filed L)) → Ascends ys → In x ys → ((z : Filed L) → In z ys → is_before z x ≡ false) → next_key (events ys) ≡ Some x.event.key
  first_in x [] a i f = absurd i
  first_in x (y ∷ ys) a (inl e) f = ap (λ (w : Filed L). Some w.event.key) (sym e)
  first_in x (y ∷ ys) a (inr i) f = absurd (false≢true (sym (f y (inl refl)) ∙ behind y x ys a.0 i))

  pub first_key_is : (o : Option (Filed L)) (xs : List (Filed L)) → FirstOf o xs → Different xs → option_map (λ x. x.event.key) o ≡ next_key (in_order xs)
  first_key_is None xs f d = rw f refl
  first_key_is (Some x) xs f d = sym (first_in x (sorted xs) (ascends_sorted xs d) (sorted_in x xs f.is_there) (λ z i. upper_at x z xs f.first (in_sorted z xs i)))
