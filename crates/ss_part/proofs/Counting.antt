-- There are no fewer groups than values that are the same throughout each group.
use Rattle.std.proofs.Common.{◌≡◌, ◌≢◌, ℕ, zero, suc, ◌+◌, ◌<◌, ◌≤◌, ◌⊎◌, inl, inr, Bool, true, false, cond, ◌&&◌, List, get_or, refl, sym, ◌∙◌, ap, arith}
use Rattle.std.specs.Prelude.{◌==◌, nat_lt}
use Rattle.std.proofs.lemmas.Bool.Decides.{nat_tests}
use Rattle.ss_part.specs.Groups.{groups_below}
use Rattle.ss_part.proofs.Naming.{same_or_not}
use Rattle.ss_part.proofs.Gathering.{below_named, below_other}

-- how many numbers below a bound pass
abbrev tally : (ℕ → Bool) → ℕ → ℕ
tally b zero = 0
tally b (suc k) = cond (b k) (tally b k + 1) (tally b k)

module _ (names values : List ℕ) where
  -- a name whose value is below a bound, or is a number
  abbrev under : ℕ → ℕ → Bool
  under p r = (get_or names r 0 == r) && nat_lt (get_or values r 0) p

  abbrev equal : ℕ → ℕ → Bool
  equal p r = (get_or names r 0 == r) && (get_or values r 0 == p)

  split_at : (named : Bool) (v p a b c : ℕ) → a ≡ b + c → cond (named && nat_lt v (suc p)) (a + 1) a ≡ cond (named && nat_lt v p) (b + 1) b + cond (named && (v == p)) (c + 1) c
  split_at true v p a b c h = grind (arith, nat_tests)
  split_at false v p a b c h = h

  split : (p k : ℕ) → tally (under (suc p)) k ≡ tally (under p) k + tally (equal p) k
  split p zero = refl
  split p (suc k) = split_at (get_or names k 0 == k) (get_or values k 0) p (tally (under (suc p)) k) (tally (under p) k) (tally (equal p) k) (split p k)

  few_at : (named test : Bool) (a b : ℕ) → a ≤ b → cond (named && test) (a + 1) a ≤ cond named (b + 1) b
  few_at true true a b h = omega arith
  few_at true false a b h = omega arith
  few_at false test a b h = h

  few : (p k : ℕ) → tally (under p) k ≤ groups_below names k
  unfolding groups_below
  few p zero = omega arith
  few p (suc k) = few_at (get_or names k 0 == k) (nat_lt (get_or values k 0) p) (tally (under p) k) (groups_below names k) (few p k)

  seen_by : (b : Bool) (n : ℕ) → b ≡ true → 1 ≤ cond b (n + 1) n
  seen_by true n h = omega arith
  seen_by false n h = absurd cc

  more_by : (b : Bool) (n : ℕ) → 1 ≤ n → 1 ≤ cond b (n + 1) n
  more_by true n h = omega arith
  more_by false n h = h

  eq_or : (j k : ℕ) → j < suc k → (j ≡ k) ⊎ (j < k)
  eq_or j k h = grind arith

  seen : (p r k : ℕ) → r < k → equal p r ≡ true → 1 ≤ tally (equal p) k
  seen p r zero h t = absurd (omega arith)
  seen p r (suc k) h t = go (λ w. seen p r k w t) (eq_or r k h) where
    go : (r < k → 1 ≤ tally (equal p) k) → (r ≡ k) ⊎ (r < k) → 1 ≤ tally (equal p) (suc k)
    go rest (inl e) = seen_by (equal p k) (tally (equal p) k) (ap (equal p) (sym e) ∙ t)
    go rest (inr w) = more_by (equal p k) (tally (equal p) k) (rest w)

  named_equal : (p r : ℕ) → get_or names r 0 ≡ r → get_or values r 0 ≡ p → equal p r ≡ true
  named_equal p r e f = grind (arith, nat_tests)

  -- each value below a bound belongs to a name
  abbrev pub AllValued : ℕ → ℕ → Type 0
  AllValued parts k = (q : ℕ) → q < parts → (r : ℕ) × (r < k) × (get_or names r 0 ≡ r) × (get_or values r 0 ≡ q)

  many : (parts k : ℕ) → AllValued parts k → parts ≤ tally (under parts) k
  many zero k h = omega arith
  many (suc p) k h =
      let rest = many p k (λ q w. h q (omega arith)) in
      let w = h p (omega arith) in
      let one = seen p w.0 k w.1 (named_equal p w.0 w.2 w.3) in
      omega (arith, split p k, rest, one)

  pub no_fewer : (parts k : ℕ) → AllValued parts k → parts ≤ groups_below names k
  no_fewer parts k h = omega (arith, many parts k h, few parts k)

-- the group with so many below it
module _ (names : List ℕ) where
  abbrev pub Ranked : ℕ → ℕ → Type 0
  Ranked q k = (r : ℕ) × (r < k) × (get_or names r 0 ≡ r) × (groups_below names r ≡ q)

  ranked_by : (q k : ℕ) → (q < groups_below names k → Ranked q k) → q < groups_below names (suc k) → (get_or names k 0 ≡ k) ⊎ (get_or names k 0 ≢ k) → (q ≡ groups_below names k) ⊎ (q ≢ groups_below names k) → Ranked q (suc k)
  ranked_by q k rest h (inl e) (inl top) = (k, omega arith, e, sym top)
  ranked_by q k rest h (inl e) (inr under) = let w = rest (omega (arith, below_named names k e)) in (w.0, omega (arith, w.1), w.2, w.3)
  ranked_by q k rest h (inr e) t = let w = rest (omega (arith, below_other names k e)) in (w.0, omega (arith, w.1), w.2, w.3)

  pub ranked : (q k : ℕ) → q < groups_below names k → Ranked q k
  unfolding groups_below
  ranked q zero h = absurd (omega arith)
  ranked q (suc k) h = ranked_by q k (ranked q k) h (same_or_not (get_or names k 0) k) (same_or_not q (groups_below names k))
