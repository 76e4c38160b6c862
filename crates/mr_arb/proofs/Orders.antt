-- Lists of all slots.
use Rattle.std.proofs.Common.{◌≡◌, ◌≢◌, ◌==◌, ℕ, zero, suc, ◌+◌, ◌<◌, ◌≤◌, List, [], ◌∷◌, ◌++◌, length, get_or, take, drop, Bool, true, false, not, if◌then◌else◌, refl, sym, ap, subst, ◌∙◌, arith, zero-add, add-one}
use Rattle.std.specs.List.{All, count_by, filter, range_with_len}
use Rattle.std.proofs.lemmas.List.Elements.{All-tail, All-cons, All-filter}
use Rattle.std.proofs.lemmas.List.Sums.{sum_by-append}
use Rattle.std.proofs.lemmas.List.{length-append, append-nil, take_all, drop_all}
use Rattle.std.proofs.lemmas.List.FromFn.{length-range_with_len}
use Rattle.mr_arb.specs.Slots.{IsOrder, to_end}

-- how often a slot is in a list
abbrev pub count : ℕ → List ℕ → ℕ
count s xs = count_by (λ t. t == s) xs

abbrev pub without : ℕ → List ℕ → List ℕ
without s xs = filter (λ t. not (t == s)) xs

same : (x s : ℕ) → (x == s) ≡ true → x ≡ s
same x s e = grind (arith, e)

other : (x s : ℕ) → (x == s) ≡ false → x ≢ s
other x s e h = grind (arith, e, h)

abbrev one : Bool → ℕ
one b = if b then 1 else 0

pub count-cons : (s x : ℕ) (xs : List ℕ) → count s (x ∷ xs) ≡ one (x == s) + count s xs
count-cons s x xs = sum_by-append (λ t. one (t == s)) (x ∷ []) xs ∙ ap (λ (n : ℕ). n + count s xs) (zero-add (one (x == s)))

-- of the list without a slot

length-by : (x s : ℕ) (xs : List ℕ) (b : Bool) → length (without s xs) + count s xs ≡ length xs → length (if not b then x ∷ without s xs else without s xs) + (one b + count s xs) ≡ suc (length xs)
length-by x s xs true h = omega (arith, h)
length-by x s xs false h = omega (arith, h)

pub length-without : (s : ℕ) (xs : List ℕ) → length (without s xs) + count s xs ≡ length xs
length-without s [] = refl
length-without s (x ∷ xs) = ap (λ (n : ℕ). length (without s (x ∷ xs)) + n) (count-cons s x xs) ∙ length-by x s xs (x == s) (length-without s xs)

self-by : (x s : ℕ) (xs : List ℕ) (b : Bool) → b ≡ (x == s) → count s (without s xs) ≡ 0 → count s (if not b then x ∷ without s xs else without s xs) ≡ 0
self-by x s xs true e h = h
self-by x s xs false e h = count-cons s x (without s xs) ∙ ap (λ (b : Bool). one b + count s (without s xs)) (sym e) ∙ ap (λ (n : ℕ). 0 + n) h

pub count-without_self : (s : ℕ) (xs : List ℕ) → count s (without s xs) ≡ 0
count-without_self s [] = refl
count-without_self s (x ∷ xs) = self-by x s xs (x == s) refl (count-without_self s xs)

other-by : (x s t : ℕ) (xs : List ℕ) (b : Bool) → b ≡ (x == s) → t ≢ s → count t (without s xs) ≡ count t xs → count t (if not b then x ∷ without s xs else without s xs) ≡ count t (x ∷ xs)
other-by x s t xs true e n h =
    let q : x ≢ t = λ k. n (sym k ∙ same x s (sym e)) in
    let f : (x == t) ≡ false = grind (arith, q) in
    h ∙ sym (zero-add (count t xs)) ∙ ap (λ (b : Bool). one b + count t xs) (sym f) ∙ sym (count-cons t x xs)
other-by x s t xs false e n h = count-cons t x (without s xs) ∙ ap (λ (k : ℕ). one (x == t) + k) h ∙ sym (count-cons t x xs)

pub count-without_other : (s t : ℕ) (xs : List ℕ) → t ≢ s → count t (without s xs) ≡ count t xs
count-without_other s t [] n = refl
count-without_other s t (x ∷ xs) n = other-by x s t xs (x == s) refl n (count-without_other s t xs n)

count-end : (s t : ℕ) (xs : List ℕ) → count t (xs ++ s ∷ []) ≡ count t xs + one (s == t)
count-end s t xs = sum_by-append (λ u. one (u == t)) xs (s ∷ []) ∙ ap (λ (n : ℕ). count t xs + n) (zero-add (one (s == t)))

moved-by : (s t : ℕ) (xs : List ℕ) (b : Bool) → b ≡ (s == t) → count t xs ≡ 1 → count t (without s xs) + one b ≡ 1
moved-by s t xs true e h =
    let q : s ≡ t = same s t (sym e) in
    let z : count t (without s xs) ≡ 0 = subst (λ (u : ℕ). count u (without s xs) ≡ 0) q (count-without_self s xs) in
    omega (arith, z)
moved-by s t xs false e h =
    let q : t ≢ s = λ k. other s t (sym e) (sym k) in
    omega (arith, count-without_other s t xs q, h)

All-end : (P : ℕ → Type 0) (xs : List ℕ) (s : ℕ) → All P xs → P s → All P (xs ++ s ∷ [])
All-end P [] s h p = All-cons P s [] p h
All-end P (x ∷ xs) s h p = All-cons P x (xs ++ s ∷ []) (h 0 x (omega arith)) (All-end P xs s (All-tail P x xs h) p)

pub order_to_end : (n s : ℕ) (xs : List ℕ) → s < n → IsOrder n xs → IsOrder n (to_end xs s)
order_to_end n s xs l h = record {
  count = omega (arith, length-append (without s xs) (s ∷ []), length-without s xs, h.once s l, h.count);
  inside = All-end (λ t. t < n) (without s xs) s (All-filter (λ t. not (t == s)) (λ t. t < n) xs h.inside) l;
  once = λ t m. count-end s t (without s xs) ∙ moved-by s t xs (s == t) refl (h.once t m);
}

-- the list in ascending order

range-none : (a n s : ℕ) → s < a → count s (range_with_len a n) ≡ 0
range-none a zero s l = refl
range-none a (suc n) s l =
    let f : (a == s) ≡ false = grind (arith, l) in
    count-cons s a (range_with_len (a + 1) n) ∙ ap (λ (b : Bool). one b + count s (range_with_len (a + 1) n)) f ∙ ap (λ (k : ℕ). 0 + k) (range-none (a + 1) n s (omega (arith, l)))

range-by : (a s k : ℕ) (b : Bool) → b ≡ (a == s) → (s < a + 1 → k ≡ 0) → (a + 1 ≤ s → k ≡ 1) → a ≤ s → one b + k ≡ 1
range-by a s k true e h g l =
    let q : a ≡ s = same a s (sym e) in
    omega (arith, h (omega (arith, q)))
range-by a s k false e h g l =
    let q : a ≢ s = other a s (sym e) in
    omega (arith, g (omega (arith, q, l)))

range-once : (a n s : ℕ) → a ≤ s → s < a + n → count s (range_with_len a n) ≡ 1
range-once a zero s l m = absurd (omega (arith, l, m))
range-once a (suc n) s l m = count-cons s a (range_with_len (a + 1) n) ∙ range-by a s (count s (range_with_len (a + 1) n)) (a == s) refl (range-none (a + 1) n s) (λ k. range-once (a + 1) n s k (omega (arith, m))) l

range-inside : (a n m : ℕ) → a + n ≤ m → All (λ s. s < m) (range_with_len a n)
range-inside a zero m l = λ k d h. absurd (omega (arith, h))
range-inside a (suc n) m l = All-cons (λ s. s < m) a (range_with_len (a + 1) n) (omega (arith, l)) (range-inside (a + 1) n m (omega (arith, l)))

pub order_range : (n : ℕ) → IsOrder n (range_with_len 0 n)
order_range n = record {
  count = length-range_with_len 0 n;
  inside = range-inside 0 n n (omega arith);
  once = λ s l. range-once 0 n s (omega arith) (omega (arith, l));
}

-- no slot stands in two places

count-here : (s x : ℕ) (xs : List ℕ) → x ≡ s → count s (x ∷ xs) ≡ 1 + count s xs
count-here s x xs e =
    let f : (x == s) ≡ true = grind (arith, e) in
    count-cons s x xs ∙ ap (λ (b : Bool). one b + count s xs) f

count-at : (s : ℕ) (xs : List ℕ) (k : ℕ) → k < length xs → get_or xs k 0 ≡ s → 1 ≤ count s xs
count-at s [] k l e = absurd (omega (arith, l))
count-at s (x ∷ xs) zero l e = omega (arith, count-here s x xs e)
count-at s (x ∷ xs) (suc k) l e = omega (arith, count-cons s x xs, count-at s xs k (omega (arith, l)) e)

pub once-same : (s : ℕ) (xs : List ℕ) (j k : ℕ) → count s xs ≤ 1 → j < length xs → k < length xs → get_or xs j 0 ≡ s → get_or xs k 0 ≡ s → j ≡ k
once-same s [] j k c l m e f = absurd (omega (arith, l))
once-same s (x ∷ xs) zero zero c l m e f = refl
once-same s (x ∷ xs) zero (suc k) c l m e f = absurd (omega (arith, c, count-here s x xs e, count-at s xs k (omega (arith, m)) f))
once-same s (x ∷ xs) (suc j) zero c l m e f = absurd (omega (arith, c, count-here s x xs f, count-at s xs j (omega (arith, l)) e))
once-same s (x ∷ xs) (suc j) (suc k) c l m e f = ap suc (once-same s xs j k (omega (arith, c, count-cons s x xs)) (omega (arith, l)) (omega (arith, m)) e f)

-- a slot that is in a list stands somewhere
found-by : (x s : ℕ) (xs : List ℕ) (b : Bool) → b ≡ (x == s) → 1 ≤ one b + count s xs → (1 ≤ count s xs → (k : ℕ) × (k < length xs) × (get_or xs k 0 ≡ s)) → (k : ℕ) × (k < suc (length xs)) × (get_or (x ∷ xs) k 0 ≡ s)
found-by x s xs true e c h = (0, omega arith, same x s (sym e))
found-by x s xs false e c h = let w = h (omega (arith, c)) in (suc w.0, omega (arith, w.1), w.2)

pub found : (s : ℕ) (xs : List ℕ) → 1 ≤ count s xs → (k : ℕ) × (k < length xs) × (get_or xs k 0 ≡ s)
found s [] c = absurd (omega (arith, c))
found s (x ∷ xs) c = found-by x s xs (x == s) refl (omega (arith, c, count-cons s x xs)) (found s xs)

-- a list that is put back into a vector
pub put_back : {X : Type 0} (xs items : List X) (n : ℕ) → length xs ≡ length items → n ≡ length items → take n (xs ++ drop (length xs) items) ≡ xs
put_back xs items n e l =
    let d : drop (length xs) items ≡ [] = drop_all (length xs) items (omega (arith, e)) in
    rw d (ap (take n) (append-nil xs) ∙ take_all n xs (omega (arith, e, l)))

-- the ascending list with one more
range-suc : (a n : ℕ) → range_with_len a (suc n) ≡ range_with_len a n ++ (a + n) ∷ []
range-suc a zero = ap (λ (x : ℕ). x ∷ []) (omega arith)
range-suc a (suc n) =
    let e : a + 1 + n ≡ a + suc n = omega arith in
    ap (λ (xs : List ℕ). a ∷ xs) (range-suc (a + 1) n ∙ ap (λ (x : ℕ). range_with_len (a + 1) n ++ x ∷ []) e)

pub range_more : (n : ℕ) → range_with_len 0 (n + 1) ≡ range_with_len 0 n ++ n ∷ []
range_more n = let e : 0 + n ≡ n = omega arith in rw (add-one n) (range-suc 0 n ∙ ap (λ (x : ℕ). range_with_len 0 n ++ x ∷ []) e)
