-- An event that goes ahead of those with its key: what is put in, taken, and comes first.
use Rattle.std.proofs.Common.{◌≡◌, ℕ, ◌<◌, Bool, true, false, zero, suc, ◌+◌, ◌-◌, take, drop, length, List, [], ◌∷◌, Some, None, Option, refl, ap, subst, arith}
use Rattle.std.proofs.lemmas.Bool.{false≢true}
use Rattle.std.proofs.lemmas.List.{take_rest}
use Rattle.ss_model.specs.declared.Key.{Key}
use Rattle.ss_model.specs.declared.Event.{Event}
use Rattle.ss_model.specs.Order.{key_before, insert}
use Rattle.ss_model.proofs.Keys.{before_trans, before_upto}
use Rattle.std.specs.List.{insert as put_at}
use Rattle.ss_pending.specs.Near.{ahead, with_near, begins, AllBefore}

module _ {L : Type 0} where
  -- what is put in behind stands behind an event that went ahead
  inserts : (n e : Event L) (xs : List (Event L)) → ahead n (insert e xs) ≡ insert e (ahead n xs)
  inserts n e [] = refl
  inserts n e (x ∷ xs) = by_cases (inserts n e xs) (key_before e.key x.key) refl (key_before x.key n.key) refl
    where
      by_cases : ahead n (insert e xs) ≡ insert e (ahead n xs) → (q : Bool) → key_before e.key x.key ≡ q → (p : Bool) → key_before x.key n.key ≡ p → ahead n (insert e (x ∷ xs)) ≡ insert e (ahead n (x ∷ xs))
      by_cases more true hq true hp = rw (hq, hp, before_trans e.key x.key n.key hq hp, hq) refl
      by_cases more true hq false hp = rw (hq, hp, hq) refl
      by_cases more false hq true hp = rw (hq, hp, hq) (ap (λ zs. x ∷ zs) more)
      by_cases more false hq false hp = rw (hq, hp, before_upto n.key x.key e.key hp hq, hq) refl

  pub near_inserts : (o : Option (Event L)) (e : Event L) (xs : List (Event L)) → with_near o (insert e xs) ≡ insert e (with_near o xs)
  near_inserts None e xs = refl
  near_inserts (Some n) e xs = inserts n e xs

  -- an event goes to the first place whose event doesn't come before it
  pub ahead_at : (n : Event L) (xs : List (Event L)) (k : ℕ) → AllBefore n.key (take k xs) → begins n.key (drop k xs) ≡ false → ahead n xs ≡ put_at xs k n
  ahead_at n [] zero h s = refl
  ahead_at n [] (suc k) h s = refl
  ahead_at n (x ∷ xs) zero h s = rw s refl
  ahead_at n (x ∷ xs) (suc k) h s = let more : ahead n xs ≡ put_at xs k n = ahead_at n xs k h.1 s in rw h.0 (ap (λ zs. x ∷ zs) more)

  before_more : (n : Key) (xs : List (Event L)) (k : ℕ) → AllBefore n (take k xs) → begins n (drop k xs) ≡ true → AllBefore n (take (suc k) xs)
  before_more n [] zero h s = absurd (false≢true s)
  before_more n [] (suc k) h s = absurd (false≢true s)
  before_more n (x ∷ xs) zero h s = (s, tt)
  before_more n (x ∷ xs) (suc k) h s = (h.0, before_more n xs k h.1 s)

  pub before_there : (n : Key) (xs : List (Event L)) (k : ℕ) → begins n (drop k xs) ≡ true → k < length xs
  before_there n [] zero s = absurd (false≢true s)
  before_there n [] (suc k) s = absurd (false≢true s)
  before_there n (x ∷ xs) zero s = omega arith
  before_there n (x ∷ xs) (suc k) s = let h = before_there n xs k s in omega (arith, h)

  pub before_next : (n : Key) (xs : List (Event L)) (k : ℕ) → AllBefore n (take k xs) → begins n (drop k xs) ≡ true → AllBefore n (take (k + 1) xs)
  before_next n xs k h s = let e : suc k ≡ k + 1 = omega arith in subst (λ m. AllBefore n (take m xs)) e (before_more n xs k h s)

  -- a list from a place on
  pub begins_from : (n : Key) (xs ds : List (Event L)) (k : ℕ) (b : Bool) → ds ≡ xs → begins n (take (length ds - k) (drop k ds)) ≡ b → begins n (drop k xs) ≡ b
  begins_from n xs ds k b e h = subst (λ zs. begins n zs ≡ b) (take_rest xs k) (subst (λ zs. begins n (take (length zs - k) (drop k zs)) ≡ b) e h)
