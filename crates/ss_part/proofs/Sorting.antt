-- There is one order of the links: a list that is sorted is the ordered one.
use Rattle.std.proofs.Common.{◌≡◌, ℕ, zero, suc, ◌+◌, ◌<◌, ◌≤◌, ◌⊎◌, inl, inr, Bool, true, false, cond, ◌&&◌, List, [], ◌∷◌, map, get_or, refl, sym, ◌∙◌, ap, subst, arith, add-one}
use Rattle.std.specs.Prelude.{◌==◌, sum_by, IsPermutation, IsSorted}
use Rattle.std.specs.List.{range_with_len}
use Rattle.std.specs.Ordering.{nat_cmp, ordering_then, is_lt}
use Rattle.std.proofs.lemmas.Bool.Decides.{nat_tests}
use Rattle.std.proofs.lemmas.List.Sorted.{sum_by-IsPermutation}
use Rattle.std.proofs.lemmas.List.Recursion.{is_sum_by}
use Rattle.ss_part.specs.Nearness.{goes_before, put_in, ordered}

abbrev pub Link : Type 0
Link = ℕ × ℕ

pair_is : (a b : Link) → a.0 ≡ b.0 → a.1 ≡ b.1 → a ≡ b
pair_is (p, q) (r, s) h k = ap (λ m. (m, q)) h ∙ ap (λ m. (r, m)) k

-- ---- the order of two links

module _ where
  before_back : (a b : Link) → goes_before a b ≡ true → goes_before b a ≡ false
  unfolding goes_before
  before_back a b h = grind (arith, nat_tests)

  before_not : (a b c : Link) → goes_before a b ≡ false → goes_before b c ≡ false → goes_before a c ≡ false
  unfolding goes_before
  before_not a b c h k = grind (arith, nat_tests)

  before_same : (a b : Link) → goes_before a b ≡ false → goes_before b a ≡ false → a ≡ b
  unfolding goes_before
  before_same a b h k = pair_is a b (grind (arith, nat_tests)) (grind (arith, nat_tests))

  pub weights_rise : (a b : Link) → goes_before b a ≡ false → a.0 ≤ b.0
  unfolding goes_before
  weights_rise a b h = grind (arith, nat_tests)

  by_cmp : (a b : Link) → is_lt (ordering_then (nat_cmp a.0 b.0) (nat_cmp a.1 b.1)) ≡ goes_before a b
  unfolding goes_before
  by_cmp a b = grind (arith, nat_tests)

-- ---- lists in order

abbrev pub Among : Link → List Link → Type 0
Among e [] = ⊥
Among e (x ∷ xs) = (e ≡ x) ⊎ Among e xs

-- no link goes before one that stands earlier
abbrev pub Rising : List Link → Type 0
Rising [] = Unit {0}
Rising (x ∷ xs) = ((e : Link) → Among e xs → goes_before e x ≡ false) × Rising xs

cond_true : {X : Type 0} (b : Bool) (x y : X) → b ≡ true → cond b x y ≡ x
cond_true true x y h = refl
cond_true false x y h = absurd cc

cond_false : {X : Type 0} (b : Bool) (x y : X) → b ≡ false → cond b x y ≡ y
cond_false true x y h = absurd cc
cond_false false x y h = refl

put_first : (x y : Link) (ys : List Link) → goes_before x y ≡ true → put_in x (y ∷ ys) ≡ x ∷ y ∷ ys
unfolding put_in
put_first x y ys h = cond_true (goes_before x y) (x ∷ y ∷ ys) (y ∷ put_in x ys) h

put_later : (x y : Link) (ys : List Link) → goes_before x y ≡ false → put_in x (y ∷ ys) ≡ y ∷ put_in x ys
unfolding put_in
put_later x y ys h = cond_false (goes_before x y) (x ∷ y ∷ ys) (y ∷ put_in x ys) h

bool_or : (b : Bool) → (b ≡ true) ⊎ (b ≡ false)
bool_or true = inl refl
bool_or false = inr refl

put_among_by : (e x y : Link) (ys : List Link) → (Among e (put_in x ys) → Among e (x ∷ ys)) → (goes_before x y ≡ true) ⊎ (goes_before x y ≡ false) → Among e (put_in x (y ∷ ys)) → Among e (x ∷ y ∷ ys)
put_among_by e x y ys rest (inl t) a = subst (λ l. Among e l) (put_first x y ys t) a
put_among_by e x y ys rest (inr f) a = go (subst (λ l. Among e l) (put_later x y ys f) a) where
  under : Among e (x ∷ ys) → Among e (x ∷ y ∷ ys)
  under (inl h) = inl h
  under (inr h) = inr (inr h)

  go : Among e (y ∷ put_in x ys) → Among e (x ∷ y ∷ ys)
  go (inl h) = inr (inl h)
  go (inr h) = under (rest h)

put_among : (e x : Link) (ys : List Link) → Among e (put_in x ys) → Among e (x ∷ ys)
unfolding put_in
put_among e x [] a = a
put_among e x (y ∷ ys) a = put_among_by e x y ys (put_among e x ys) (bool_or (goes_before x y)) a

first_under : (x y : Link) (ys : List Link) → goes_before x y ≡ true → Rising (y ∷ ys) → (e : Link) → Among e (y ∷ ys) → goes_before e x ≡ false
first_under x y ys h r e (inl same) = subst (λ m. goes_before m x ≡ false) (sym same) (before_back x y h)
first_under x y ys h r e (inr later) = before_not e y x (r.0 e later) (before_back x y h)

put_under : (x y : Link) (ys : List Link) → goes_before x y ≡ false → Rising (y ∷ ys) → (e : Link) → Among e (x ∷ ys) → goes_before e y ≡ false
put_under x y ys h r e (inl same) = subst (λ m. goes_before m y ≡ false) (sym same) h
put_under x y ys h r e (inr later) = r.0 e later

put_rises_by : (x y : Link) (ys : List Link) → Rising (put_in x ys) → Rising (y ∷ ys) → (goes_before x y ≡ true) ⊎ (goes_before x y ≡ false) → Rising (put_in x (y ∷ ys))
put_rises_by x y ys rest r (inl t) = subst (λ l. Rising l) (sym (put_first x y ys t)) (first_under x y ys t r, r)
put_rises_by x y ys rest r (inr f) = subst (λ l. Rising l) (sym (put_later x y ys f)) (λ e a. put_under x y ys f r e (put_among e x ys a), rest)

put_rises : (x : Link) (ys : List Link) → Rising ys → Rising (put_in x ys)
unfolding put_in
put_rises x [] r = (λ e a. absurd a, tt)
put_rises x (y ∷ ys) r = put_rises_by x y ys (put_rises x ys r.1) r (bool_or (goes_before x y))

pub ordered_rises : (xs : List Link) → Rising (ordered xs)
unfolding ordered
ordered_rises [] = tt
ordered_rises (x ∷ xs) = put_rises x (ordered xs) (ordered_rises xs)

-- ---- how often a link stands in a list

abbrev same : Link → Link → ℕ
same e x = cond (e.0 == x.0 && e.1 == x.1) 1 0

abbrev times : Link → List Link → ℕ
times e [] = 0
times e (x ∷ xs) = same e x + times e xs

same_self : (e : Link) → same e e ≡ 1
same_self e = grind (arith, nat_tests)

same_is : (e x : Link) → 0 < same e x → e ≡ x
same_is e x h = pair_is e x (grind (arith, nat_tests)) (grind (arith, nat_tests))

zero_or : (n : ℕ) → (n ≡ 0) ⊎ (0 < n)
zero_or n = grind arith

among_by_times : (e : Link) (xs : List Link) → 0 < times e xs → Among e xs
among_by_times e [] h = absurd (omega arith)
among_by_times e (x ∷ xs) h = go (among_by_times e xs) (zero_or (same e x)) where
  go : (0 < times e xs → Among e xs) → (same e x ≡ 0) ⊎ (0 < same e x) → Among e (x ∷ xs)
  go rest (inl none) = inr (rest (omega arith))
  go rest (inr some) = inl (same_is e x some)

put_times_by : (e x y : Link) (ys : List Link) → times e (put_in x ys) ≡ same e x + times e ys → (goes_before x y ≡ true) ⊎ (goes_before x y ≡ false) → times e (put_in x (y ∷ ys)) ≡ same e x + times e (y ∷ ys)
put_times_by e x y ys rest (inl t) = ap (times e) (put_first x y ys t)
put_times_by e x y ys rest (inr f) = ap (times e) (put_later x y ys f) ∙ omega (arith, rest)

put_times : (e x : Link) (ys : List Link) → times e (put_in x ys) ≡ same e x + times e ys
unfolding put_in
put_times e x [] = refl
put_times e x (y ∷ ys) = put_times_by e x y ys (put_times e x ys) (bool_or (goes_before x y))

pub ordered_times : (e : Link) (xs : List Link) → times e (ordered xs) ≡ times e xs
unfolding ordered
ordered_times e [] = refl
ordered_times e (x ∷ xs) = put_times e x (ordered xs) ∙ ap (λ m. same e x + m) (ordered_times e xs)

times_by_among : (e : Link) (xs : List Link) → Among e xs → 0 < times e xs
times_by_among e [] i = absurd i
times_by_among e (x ∷ xs) (inl h) = let one : same e x ≡ 1 = ap (same e) (sym h) ∙ same_self e in omega (arith, one)
times_by_among e (x ∷ xs) (inr h) = let rest = times_by_among e xs h in omega (arith, rest)

-- the ordered list has the same links
pub among_ordered : (e : Link) (xs : List Link) → Among e xs → Among e (ordered xs)
among_ordered e xs a = among_by_times e (ordered xs) (omega (arith, times_by_among e xs a, ordered_times e xs))

pub ordered_among : (e : Link) (xs : List Link) → Among e (ordered xs) → Among e xs
ordered_among e xs a = among_by_times e xs (omega (arith, times_by_among e (ordered xs) a, ordered_times e xs))

module _ (f : ℕ → Link) where
  eq_or : (a j : ℕ) → a ≤ j → (j ≡ a) ⊎ (a + 1 ≤ j)
  eq_or a j h = grind arith

  pub map_among : (a k j : ℕ) → a ≤ j → j < a + k → Among (f j) (map f (range_with_len a k))
  map_among a zero j h w = absurd (omega arith)
  map_among a (suc k) j h w = go (λ l. map_among (a + 1) k j l (omega arith)) (eq_or a j h) where
    go : (a + 1 ≤ j → Among (f j) (map f (range_with_len (a + 1) k))) → (j ≡ a) ⊎ (a + 1 ≤ j) → Among (f j) (map f (range_with_len a (suc k)))
    go rest (inl e) = inl (ap f e)
    go rest (inr l) = inr (rest l)

  pub among_map : (e : Link) (a k : ℕ) → Among e (map f (range_with_len a k)) → (j : ℕ) × (j < a + k) × (e ≡ f j)
  among_map e a zero i = absurd i
  among_map e a (suc k) (inl h) = (a, omega arith, h)
  among_map e a (suc k) (inr i) = let w = among_map e (a + 1) k i in (w.0, omega (arith, w.1), w.2)

-- lists in order that hold each link as often are one
heads_are : (x y : Link) (xs ys : List Link) → Rising (x ∷ xs) → Rising (y ∷ ys) → ((e : Link) → times e (x ∷ xs) ≡ times e (y ∷ ys)) → x ≡ y
heads_are x y xs ys r q h =
    let here : 0 < times x (y ∷ ys) = omega (arith, same_self x, h x) in
    let there : 0 < times y (x ∷ xs) = omega (arith, same_self y, h y) in
    go (among_by_times x (y ∷ ys) here) (among_by_times y (x ∷ xs) there) where
      go : Among x (y ∷ ys) → Among y (x ∷ xs) → x ≡ y
      go (inl e) b = e
      go (inr a) (inl e) = sym e
      go (inr a) (inr b) = before_same x y (q.0 x a) (r.0 y b)

one_order : (xs ys : List Link) → Rising xs → Rising ys → ((e : Link) → times e xs ≡ times e ys) → xs ≡ ys
one_order [] [] r q h = refl
one_order [] (y ∷ ys) r q h = absurd (omega (arith, same_self y, h y))
one_order (x ∷ xs) [] r q h = absurd (omega (arith, same_self x, h x))
one_order (x ∷ xs) (y ∷ ys) r q h =
    let e = heads_are x y xs ys r q h in
    let rest = one_order xs ys r.1 q.1 (λ l. let w = h l in let v : same l x ≡ same l y = ap (same l) e in omega (arith, w, v)) in
    ap (λ z. z ∷ xs) e ∙ ap (λ zs. y ∷ zs) rest

-- ---- what a sort gives

abbrev pub link_cmp : Link → Link → Rattle.std.specs.declared.cmp.Ordering.Ordering
link_cmp a b = ordering_then (nat_cmp a.0 b.0) (nat_cmp a.1 b.1)

further : (x : Link) (xs : List Link) (k : ℕ) (d : Link) → get_or (x ∷ xs) (k + 1) d ≡ get_or xs k d
further x xs k d = ap (λ m. get_or (x ∷ xs) m d) (add-one k)

sorted_tail : (x : Link) (xs : List Link) → IsSorted link_cmp (x ∷ xs) → IsSorted link_cmp xs
sorted_tail x xs s = λ k d z h.
    let w = s (k + 1) d (omega arith) (omega arith) in
    ap (λ m. is_lt (link_cmp m (get_or xs k d))) (sym (further x xs (k + 1) d)) ∙ ap (λ m. is_lt (link_cmp (get_or (x ∷ xs) (k + 1 + 1) d) m)) (sym (further x xs k d)) ∙ w

sorted_head : (x y : Link) (ys : List Link) → IsSorted link_cmp (x ∷ y ∷ ys) → goes_before y x ≡ false
sorted_head x y ys s =
    let w = s 0 x (omega arith) (omega arith) in
    sym (by_cmp y x) ∙ w

sorted_under : (x y : Link) (ys : List Link) → IsSorted link_cmp (x ∷ y ∷ ys) → Rising (y ∷ ys) → (e : Link) → Among e (y ∷ ys) → goes_before e x ≡ false
sorted_under x y ys s r e (inl same) = subst (λ m. goes_before m x ≡ false) (sym same) (sorted_head x y ys s)
sorted_under x y ys s r e (inr later) = before_not e y x (r.0 e later) (sorted_head x y ys s)

sorted_rises : (xs : List Link) → IsSorted link_cmp xs → Rising xs
sorted_rises [] s = tt
sorted_rises (x ∷ []) s = (λ e a. absurd a, tt)
sorted_rises (x ∷ (y ∷ ys)) s = let r = sorted_rises (y ∷ ys) (sorted_tail x (y ∷ ys) s) in (sorted_under x y ys s r, r)

times_sum : (e : Link) (xs : List Link) → times e xs ≡ sum_by (same e) xs
times_sum e xs = is_sum_by (times e) (same e) refl (λ _ _. refl) xs

pub sorted_is : (xs ys : List Link) → IsPermutation xs ys → IsSorted link_cmp ys → ys ≡ ordered xs
sorted_is xs ys p s =
    one_order ys (ordered xs) (sorted_rises ys s) (ordered_rises xs)
    (λ e. times_sum e ys ∙ sum_by-IsPermutation (same e) xs ys p ∙ sym (times_sum e xs) ∙ sym (ordered_times e xs))
