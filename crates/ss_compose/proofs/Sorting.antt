-- Stable sorts by keys and by numbers, and lists that are seen in another way while they are sorted.
use Rattle.std.proofs.Common.{◌≡◌, ℕ, Bool, true, false, ◌&&◌, ◌||◌, cond, eqb, ltb, List, [], ◌∷◌, map, refl, sym, ap, ◌∙◌, subst, arith, inl, inr}
use Rattle.std.specs.Ordering.{MatchOrdering, nat_cmp, is_lt}
use Rattle.std.specs.declared.cmp.Ordering.{Ordering}
use Rattle.std.specs.declared.cmp.Ordering.TheVariants.{Less, Equal, Greater}
use Rattle.std.specs.List.Sorted.{IsSortedByKey, IsStableByKey, IsSortedBy, IsStableBy}
use Rattle.std.proofs.lemmas.Bool.{cases_Bool, ltb-true, ltb-false, lt-ltb, le-ltb}
use Rattle.std.proofs.lemmas.Bool.Decides.{nat_tests}
use Rattle.ss_model.specs.declared.Key.{Key}
use Rattle.ss_model.specs.contracts.KeyOrd.TheImpl.{ghosts}
use Rattle.ss_model.specs.Order.{key_before}
use Rattle.ss_model.proofs.Keys.{key_ranked, before_irrefl, before_asym, before_trans}
use Rattle.ss_theory.specs.Queue.{insert, insert_all, by, IsExactOrder}
use Rattle.ss_theory.proofs.Steps.{by_order}
use Rattle.ss_theory.proofs.Stable.{stable_sort, ordered_by_index}

abbrev before3 : ℕ → ℕ → ℕ → ℕ → ℕ → ℕ → Bool
before3 a b c x y z = ltb a x || (eqb a x && (ltb b y || (eqb b y && ltb c z)))

exact_time : (a b c x y z : ℕ) → before3 a b c x y z ≡ false → before3 x y z a b c ≡ false → a ≡ x
exact_time a b c x y z = grind (arith, nat_tests)

exact_class : (a b c x y z : ℕ) → before3 a b c x y z ≡ false → before3 x y z a b c ≡ false → b ≡ y
exact_class a b c x y z = grind (arith, nat_tests)

exact_line : (a b c x y z : ℕ) → before3 a b c x y z ≡ false → before3 x y z a b c ≡ false → c ≡ z
exact_line a b c x y z = grind (arith, nat_tests)

exact_key : (a b : Key) → key_before a b ≡ false → key_before b a ≡ false → a ≡ b
exact_key a b h k =
    let t = exact_time a.time a.class a.line b.time b.class b.line h k in
    let c = exact_class a.time a.class a.line b.time b.class b.line h k in
    let l = exact_line a.time a.class a.line b.time b.class b.line h k in
    λ i. record { time = t i; class = c i; line = l i }

key_order : IsExactOrder key_before
key_order = record { asym = before_asym; trans = λ a b c. before_trans a b c; exact = exact_key }

number_order : IsExactOrder ltb
number_order = record {
  asym = λ a b h. le-ltb b a (let k = ltb-true a b h in omega arith);
  trans = λ a b c h k. lt-ltb a c (let x = ltb-true a b h in let y = ltb-true b c k in omega arith);
  exact = λ a b h k. let x = ltb-false a b h in let y = ltb-false b a k in omega arith;
}

lt_by : (o : Ordering) (a b : Key) → MatchOrdering o (key_before a b ≡ true) (a ≡ b) (key_before b a ≡ true) → is_lt o ≡ key_before a b
lt_by Less a b h = sym h
lt_by Equal a b h = sym (ap (λ x. key_before x b) h ∙ before_irrefl b)
lt_by Greater a b h = sym (before_asym b a h)

lt_by_tests : (t e : Bool) → is_lt (cond t Less (cond e Equal Greater)) ≡ t
lt_by_tests true e = refl
lt_by_tests false true = refl
lt_by_tests false false = refl

-- a stable sort is insertion one by one, whatever has the keys
pub sorted_by_keys : {X : Type 0} (key : X → Key) (old new : List X) → IsSortedByKey key (ghosts).cmp new → IsStableByKey key (ghosts).cmp old new → new ≡ insert_all (by key key_before) old []
sorted_by_keys {X = X} key old new s st =
    let o = by_order key key_before key_order in
    let same : (λ (x y : X). is_lt ((ghosts).cmp (key x) (key y))) ≡ by key key_before = λ i x y. lt_by ((ghosts).cmp (key x) (key y)) (key x) (key y) (key_ranked (key x) (key y)) i in
    stable_sort (by key key_before) o old new
    (ordered_by_index (by key key_before) o new (subst (λ lt. IsSortedBy lt new) same s))
    (subst (λ lt. IsStableBy lt old new) same st)

pub sorted_by_numbers : {X : Type 0} (key : X → ℕ) (old new : List X) → IsSortedByKey key nat_cmp new → IsStableByKey key nat_cmp old new → new ≡ insert_all (by key ltb) old []
sorted_by_numbers {X = X} key old new s st =
    let o = by_order key ltb number_order in
    let same : (λ (x y : X). is_lt (nat_cmp (key x) (key y))) ≡ by key ltb = λ i x y. lt_by_tests (ltb (key x) (key y)) (eqb (key x) (key y)) i in
    stable_sort (by key ltb) o old new
    (ordered_by_index (by key ltb) o new (subst (λ lt. IsSortedBy lt new) same s))
    (subst (λ lt. IsStableBy lt old new) same st)

module _ {E F K : Type 0} (key : E → K) (fkey : F → K) (f : E → F) (same : (e : E) → fkey (f e) ≡ key e) (lt : K → K → Bool) where
  insert_map : (e : E) (xs : List E) → insert (by fkey lt) (f e) (map f xs) ≡ map f (insert (by key lt) e xs)
  insert_map e [] = refl
  insert_map e (x ∷ xs) =
      let b : by fkey lt (f e) (f x) ≡ by key lt e x = ap (λ k. lt k (fkey (f x))) (same e) ∙ ap (λ k. lt (key e) k) (same x) in
      elim (cases_Bool (by key lt e x)) [
        | inl c ↦ rw (b, c) refl
        | inr c ↦ rw (b, c) (ap (λ l. f x ∷ l) (insert_map e xs))
      ]

  pub insert_all_map : (es xs : List E) → insert_all (by fkey lt) (map f es) (map f xs) ≡ map f (insert_all (by key lt) es xs)
  insert_all_map [] xs = refl
  insert_all_map (e ∷ es) xs = ap (insert_all (by fkey lt) (map f es)) (insert_map e xs) ∙ insert_all_map es (insert (by key lt) e xs)
