-- Whose turn it is.
use Rattle.std.proofs.Common.{◌≡◌, ◌≢◌, ℕ, suc, ◌+◌, ◌-◌, ◌<◌, min, Bool, true, false, cond, List, [], ◌∷◌, Option, Some, None, refl, sym, ◌∙◌, ap, subst, arith}
use Rattle.std.specs.List.{find, range_with_len}
use Rattle.std.specs.Option.{option_or}
use Rattle.std.proofs.lemmas.List.Folds.{find-append}
use Rattle.mr_flow.specs.Side.{in_turn}

-- a number that fails is passed
pub find_more : (p : ℕ → Bool) (a b : ℕ) → a < b → p a ≡ false → find p (range_with_len a (b - a)) ≡ find p (range_with_len (a + 1) (b - (a + 1)))
find_more p a b h fails = ap (λ n. find p (range_with_len a n)) {x = b - a} {y = suc (b - (a + 1))} (omega arith) ∙ ap (λ t. cond t (Some a) (find p (range_with_len (a + 1) (b - (a + 1))))) fails

-- what is found passes
pub find_passes : (p : ℕ → Bool) (xs : List ℕ) (c : ℕ) → find p xs ≡ Some c → p c ≡ true
find_passes p [] c h = absurd (cc)
find_passes p (x ∷ xs) c h = at_test (p x) refl h (find_passes p xs c)
  where
    at_test : (t : Bool) → p x ≡ t → cond t (Some x) (find p xs) ≡ Some c → (find p xs ≡ Some c → p c ≡ true) → p c ≡ true
    at_test true e g more = let same : x ≡ c = cc in ap p (sym same) ∙ e
    at_test false e g more = more g

-- nothing is found where each fails
pub find_none : (p : ℕ → Bool) → ((c : ℕ) → p c ≡ false) → (xs : List ℕ) → find p xs ≡ None
find_none p fails [] = refl
find_none p fails (x ∷ xs) = ap (λ t. cond t (Some x) (find p xs)) (fails x) ∙ find_none p fails xs

-- the first of n channels in cyclic order is one from the turn on, or else one before it
pub found_ahead : (p : ℕ → Bool) (n from turn m : ℕ) (r : Option ℕ) → turn ≡ from → m ≡ n → r ≢ None → r ≡ find p (range_with_len turn (m - turn)) → r ≡ find p (in_turn n from)
found_ahead p n from turn m None t e some h = absurd (some refl)
found_ahead p n from turn m (Some c) t e some h =
    let here : find p (range_with_len from (n - from)) ≡ Some c = sym (subst (λ (k : ℕ). Some c ≡ find p (range_with_len k (n - k))) t (subst (λ (k : ℕ). Some c ≡ find p (range_with_len turn (k - turn))) e h)) in
    sym (find-append p (range_with_len from (n - from)) (range_with_len 0 (min from n)) ∙ ap (λ o. option_or o (find p (range_with_len 0 (min from n)))) here)

pub found_behind : (p : ℕ → Bool) (n from turn m least : ℕ) (r : Option ℕ) → turn ≡ from → m ≡ n → least ≡ min from n → None ≡ find p (range_with_len turn (m - turn)) → r ≡ find p (range_with_len 0 (least - 0)) → r ≡ find p (in_turn n from)
found_behind p n from turn m least r t e below none h =
    let here : find p (range_with_len from (n - from)) ≡ None = sym (subst (λ (k : ℕ). None ≡ find p (range_with_len k (n - k))) t (subst (λ (k : ℕ). None ≡ find p (range_with_len turn (k - turn))) e none)) in
    let back : least - 0 ≡ min from n = omega arith in
    h ∙ ap (λ k. find p (range_with_len 0 k)) back ∙ sym (find-append p (range_with_len from (n - from)) (range_with_len 0 (min from n)) ∙ ap (λ o. option_or o (find p (range_with_len 0 (min from n)))) here)
