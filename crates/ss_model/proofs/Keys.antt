-- The order of keys, and what the derived comparison says of it.
use Rattle.std.proofs.Common.{◌≡◌, ℕ, ◌+◌, ◌<◌, ◌≤◌, ◌≢◌, ◌⊎◌, inl, inr, Bool, true, false, ◌&&◌, ◌||◌, cond, eqb, ltb, List, [], ◌∷◌, ◌++◌, refl, sym, ap, ◌∙◌, subst, arith, tests}
use Rattle.std.specs.Ordering.{MatchOrdering, nat_cmp, ordering_then}
use Rattle.std.proofs.lemmas.Cmp.{ranked, by_ranked}
use Rattle.std.specs.declared.cmp.Ordering.{Ordering}
use Rattle.std.proofs.lemmas.Bool.Decides.{nat_tests}
use Rattle.ss_model.specs.declared.Key.{Key}
use Rattle.ss_model.specs.declared.Event.{Event}
use Rattle.ss_model.specs.contracts.KeyOrd.TheImpl.{ghosts}
use Rattle.ss_model.specs.Order.{key_before, insert, insert_all, NoneBefore, IsSorted}

-- the order on three numbers
abbrev before3 : ℕ → ℕ → ℕ → ℕ → ℕ → ℕ → Bool
before3 a b c x y z = ltb a x || (eqb a x && (ltb b y || (eqb b y && ltb c z)))

irrefl3 : (a b c : ℕ) → before3 a b c a b c ≡ false
irrefl3 a b c = grind (arith, nat_tests)

trans3 : (a b c x y z u v w : ℕ) → before3 a b c x y z ≡ true → before3 x y z u v w ≡ true → before3 a b c u v w ≡ true
trans3 a b c x y z u v w = grind (arith, nat_tests)

-- a ≤ b ≤ c
upto3 : (a b c x y z u v w : ℕ) → before3 x y z a b c ≡ false → before3 u v w x y z ≡ false → before3 u v w a b c ≡ false
upto3 a b c x y z u v w = grind (arith, nat_tests)

asym3 : (a b c x y z : ℕ) → before3 a b c x y z ≡ true → before3 x y z a b c ≡ false
asym3 a b c x y z = grind (arith, nat_tests)

time3 : (a b c x y z : ℕ) → before3 x y z a b c ≡ false → a ≤ x
time3 a b c x y z = grind (arith, nat_tests)

later3 : (a b c x y z : ℕ) → a < x → before3 a b c x y z ≡ true
later3 a b c x y z = grind (arith, nat_tests)

module _ (a b : Key) where
  pub before_time : key_before b a ≡ false → a.time ≤ b.time
  before_time = time3 a.time a.class a.line b.time b.class b.line

  pub before_later : a.time < b.time → key_before a b ≡ true
  before_later = later3 a.time a.class a.line b.time b.class b.line

  pub before_asym : key_before a b ≡ true → key_before b a ≡ false
  before_asym = asym3 a.time a.class a.line b.time b.class b.line

pub before_irrefl : (a : Key) → key_before a a ≡ false
before_irrefl a = irrefl3 a.time a.class a.line

module _ (a b c : Key) where
  pub before_trans : key_before a b ≡ true → key_before b c ≡ true → key_before a c ≡ true
  before_trans = trans3 a.time a.class a.line b.time b.class b.line c.time c.class c.line

  -- a ≤ b ≤ c
  pub before_upto : key_before b a ≡ false → key_before c b ≡ false → key_before c a ≡ false
  before_upto = upto3 a.time a.class a.line b.time b.class b.line c.time c.class c.line

abbrev key : ℕ → ℕ → ℕ → Key
key t c l = record { time = t; class = c; line = l }

-- two comparisons, one after the other
pick : (P Q R : Type 0) (o : Ordering) (t u : ℕ) → nat_cmp t u ≡ o → (t < u → P) → (t ≡ u → Q) → (u < t → R) → MatchOrdering o P Q R
pick P Q R o t u e p q r =
    let H : Ordering → Type 0 = λ o. MatchOrdering o P Q R in
    by_ranked (t < u) (t ≡ u) (u < t) o (ranked t u o (sym e))
    (λ d h. subst H (sym d) (p h)) (λ d h. subst H (sym d) (q h)) (λ d h. subst H (sym d) (r h))

chain : (P Q R : Type 0) (t u : ℕ) (o : Ordering) → (t < u → P) → (t ≡ u → MatchOrdering o P Q R) → (u < t → R) → MatchOrdering (ordering_then (nat_cmp t u) o) P Q R
chain P Q R t u o p q r =
    let G : Ordering → Type 0 = λ n. MatchOrdering (ordering_then n o) P Q R in
    by_ranked (t < u) (t ≡ u) (u < t) (nat_cmp t u) (ranked t u _ refl)
    (λ e h. subst G (sym e) (p h)) (λ e h. subst G (sym e) (q h)) (λ e h. subst G (sym e) (r h))

earlier : (a b c x y z : ℕ) → a < x → before3 a b c x y z ≡ true
earlier a b c x y z = grind (arith, nat_tests)

lower : (a b c x y z : ℕ) → a ≡ x → b < y → before3 a b c x y z ≡ true
lower a b c x y z = grind (arith, nat_tests)

nearer : (a b c x y z : ℕ) → a ≡ x → b ≡ y → c < z → before3 a b c x y z ≡ true
nearer a b c x y z = grind (arith, nat_tests)

same_key : (a b c x y z : ℕ) → a ≡ x → b ≡ y → c ≡ z → key a b c ≡ key x y z
same_key a b c x y z e f g = ap (λ t. key t b c) e ∙ ap (λ t. key x t c) f ∙ ap (λ t. key x y t) g

-- what the derived comparison says
pub key_ranked : (a b : Key) → MatchOrdering ((ghosts).cmp a b) (key_before a b ≡ true) (a ≡ b) (key_before b a ≡ true)
key_ranked a b =
    chain _ _ _ a.time b.time _ (earlier a.time a.class a.line b.time b.class b.line)
    (λ e. chain _ _ _ a.class b.class _ (lower a.time a.class a.line b.time b.class b.line e)
    (λ f. pick _ _ _ _ a.line b.line refl (nearer a.time a.class a.line b.time b.class b.line e f) (same_key a.time a.class a.line b.time b.class b.line e f) (λ h. nearer b.time b.class b.line a.time a.class a.line (sym e) (sym f) h))
    (λ h. lower b.time b.class b.line a.time a.class a.line (sym e) h))
    (λ h. earlier b.time b.class b.line a.time a.class a.line h)

-- events in order stay so when one is put in
NoneBefore-insert : {L : Type 0} (k : Key) (e : Event L) (xs : List (Event L)) → key_before e.key k ≡ false → NoneBefore k xs → NoneBefore k (insert e xs)
NoneBefore-insert k e [] h n = (h, tt)
NoneBefore-insert k e (x ∷ xs) h n = put (key_before e.key x.key) (NoneBefore-insert k e xs h n.1)
  where
    put : (b : Bool) → NoneBefore k (insert e xs) → NoneBefore k (cond b (e ∷ x ∷ xs) (x ∷ insert e xs))
    put true rest = (h, n)
    put false rest = (n.0, rest)

-- what comes no earlier than k comes no earlier than what is before k
pub NoneBefore-upto : {L : Type 0} (j k : Key) (xs : List (Event L)) → key_before k j ≡ false → NoneBefore k xs → NoneBefore j xs
NoneBefore-upto j k [] h n = tt
NoneBefore-upto j k (x ∷ xs) h n = (before_upto j k x.key h n.0, NoneBefore-upto j k xs h n.1)

pub IsSorted-insert : {L : Type 0} (e : Event L) (xs : List (Event L)) → IsSorted xs → IsSorted (insert e xs)
IsSorted-insert e [] s = (tt, tt)
IsSorted-insert e (x ∷ xs) s = put (key_before e.key x.key) refl (IsSorted-insert e xs s.1)
  where
    put : (b : Bool) → key_before e.key x.key ≡ b → IsSorted (insert e xs) → IsSorted (cond b (e ∷ x ∷ xs) (x ∷ insert e xs))
    put true h rest = ((before_asym e.key x.key h, NoneBefore-upto e.key x.key xs (before_asym e.key x.key h) s.0), s)
    put false h rest = (NoneBefore-insert x.key e xs h s.0, rest)

pub IsSorted-insert_all : {L : Type 0} (es xs : List (Event L)) → IsSorted xs → IsSorted (insert_all es xs)
IsSorted-insert_all [] xs s = s
IsSorted-insert_all (e ∷ es) xs s = IsSorted-insert_all es (insert e xs) (IsSorted-insert e xs s)
