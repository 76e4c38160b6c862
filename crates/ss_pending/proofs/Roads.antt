-- Lanes side by side, and a first that stands ahead.
use Rattle.std.proofs.Common.{◌≡◌, ℕ, ◌+◌, ◌<◌, inl, inr, Bool, true, false, List, [], ◌∷◌, ◌++◌, Option, Some, None, zero, suc, refl, sym, ap, ◌∙◌, subst, arith, length, set, take, append_assoc, append-nil, get_or, Result, Ok, Err, OnOk, OnErr}
use Rattle.std.proofs.lemmas.List.{set-get_or}
use Rattle.std.proofs.lemmas.List.Sorted.{IsPermutation-sym, IsPermutation-trans, IsPermutation-refl, IsPermutation-append_left, IsPermutation-append_right, IsPermutation-append_comm, IsPermutation-cons, IsPermutation-middle}
use Rattle.std.specs.List.Sorted.{IsPermutation}
use Rattle.std.specs.Option.{option_to_list, IfSome, IfNone}
use Rattle.ss_pending.specs.declared.filed.Filed.{Filed}
use Rattle.ss_pending.specs.Filed.{is_before, In, FirstOf, Takes, in_order, all, row, others}
use Rattle.ss_pending.proofs.Sorting.{asym, upper, upper_at, in_permutation}
use Rattle.ss_pending.proofs.Lanes.{chain}

module _ {L : Type 0} where
  pub past : (xs ys zs : List (Filed L)) → IsPermutation (xs ++ (ys ++ zs)) (ys ++ (xs ++ zs))
  past xs ys zs =
      let p : IsPermutation ((xs ++ ys) ++ zs) ((ys ++ xs) ++ zs) = IsPermutation-append_left zs (xs ++ ys) (ys ++ xs) (IsPermutation-append_comm xs ys) in
      subst (λ w. IsPermutation (xs ++ (ys ++ zs)) w) (append_assoc ys xs zs) (subst (λ w. IsPermutation w ((ys ++ xs) ++ zs)) (append_assoc xs ys zs) p)

  pub one_out : (lanes : List (List (Filed L))) (i : ℕ) → IsPermutation (all lanes) (row lanes i ++ others lanes i)
  one_out [] i = IsPermutation-refl []
  one_out (xs ∷ more) zero = IsPermutation-refl (xs ++ all more)
  one_out (xs ∷ more) (suc i) = IsPermutation-trans (xs ++ all more) (xs ++ (row more i ++ others more i)) (row more i ++ (xs ++ others more i)) (IsPermutation-append_right xs (all more) (row more i ++ others more i) (one_out more i)) (past xs (row more i) (others more i))

  pub set_out : (lanes : List (List (Filed L))) (i : ℕ) (ys : List (Filed L)) → i < length lanes → IsPermutation (all (set lanes i ys)) (ys ++ others lanes i)
  set_out [] i ys h = absurd (omega arith)
  set_out (xs ∷ more) zero ys h = IsPermutation-refl (ys ++ all more)
  set_out (xs ∷ more) (suc i) ys h = IsPermutation-trans (xs ++ all (set more i ys)) (xs ++ (ys ++ others more i)) (ys ++ (xs ++ others more i)) (IsPermutation-append_right xs (all (set more i ys)) (ys ++ others more i) (set_out more i ys (omega arith))) (past xs ys (others more i))

  -- a lane with one more
  pub puts_at : (x : Filed L) (lanes : List (List (Filed L))) (i : ℕ) (ys : List (Filed L)) → i < length lanes → IsPermutation (x ∷ row lanes i) ys → IsPermutation (x ∷ all lanes) (all (set lanes i ys))
  puts_at x lanes i ys h p =
      IsPermutation-trans (x ∷ all lanes) (x ∷ (row lanes i ++ others lanes i)) (all (set lanes i ys)) (IsPermutation-cons x (all lanes) (row lanes i ++ others lanes i) (one_out lanes i))
      (IsPermutation-trans ((x ∷ row lanes i) ++ others lanes i) (ys ++ others lanes i) (all (set lanes i ys)) (IsPermutation-append_left (others lanes i) (x ∷ row lanes i) ys p)
      (IsPermutation-sym (all (set lanes i ys)) (ys ++ others lanes i) (set_out lanes i ys h)))

  -- lanes with one more, and with a new one
  pub all_push : (lanes : List (List (Filed L))) (xs : List (Filed L)) → all (lanes ++ xs ∷ []) ≡ all lanes ++ xs
  all_push [] xs = append-nil xs
  all_push (ys ∷ more) xs = ap (λ w. ys ++ w) (all_push more xs) ∙ sym (append_assoc ys (all more) xs)

  -- ---- a first that stands ahead

  pub itself : (x : Filed L) → is_before x x ≡ false
  itself x = put (is_before x x) refl
    where
      put : (b : Bool) → is_before x x ≡ b → is_before x x ≡ false
      put true e = asym x x e
      put false e = e

  -- what is no later than each of a list is a first of that list behind it
  pub heads : (x : Filed L) (ys : List (Filed L)) → ((z : Filed L) → In z ys → is_before z x ≡ false) → FirstOf (Some x) (x ∷ ys)
  heads x ys f = record { is_there = inl refl; first = upper x (x ∷ ys) (λ z i. at z i) }
    where
      at : (z : Filed L) → In z (x ∷ ys) → is_before z x ≡ false
      at z (inl e) = ap (λ w. is_before w x) e ∙ itself x
      at z (inr i) = f z i

  module _ (x h : Filed L) (o : Option (Filed L)) (rest more : List (Filed L)) (is : o ≡ Some h) where
    now_is : (now : List (Filed L)) → option_to_list o ++ rest ≡ now → now ≡ h ∷ rest
    now_is now v = sym v ∙ ap (λ w. option_to_list w ++ rest) is

    -- what comes before the first takes its place
    pub swapped : (now : List (Filed L)) → option_to_list o ++ rest ≡ now → IsPermutation (h ∷ rest) more → IsPermutation (x ∷ now) (x ∷ more)
    swapped now v p = subst (λ w. IsPermutation (x ∷ w) (x ∷ more)) (sym (now_is now v)) (IsPermutation-cons x (h ∷ rest) more p)

    first_is : FirstOf o (option_to_list o ++ rest) → FirstOf (Some h) (h ∷ rest)
    first_is f = subst (λ w. FirstOf w (option_to_list w ++ rest)) is f

    pub swapped_first : FirstOf o (option_to_list o ++ rest) → is_before x h ≡ true → IsPermutation (h ∷ rest) more → FirstOf (Some x) (x ∷ more)
    swapped_first f b p = heads x more (λ z i. chain x h z (asym x h b) (upper_at h z (h ∷ rest) (first_is f).first (in_permutation (h ∷ rest) more z p i)))

    -- what doesn't goes behind it
    pub behind_first : (now : List (Filed L)) → option_to_list o ++ rest ≡ now → IsPermutation (x ∷ rest) more → IsPermutation (x ∷ now) (option_to_list o ++ more)
    behind_first now v p =
        let q : IsPermutation (x ∷ (h ∷ rest)) (h ∷ (x ∷ rest)) = IsPermutation-sym (h ∷ (x ∷ rest)) (x ∷ (h ∷ rest)) (IsPermutation-middle (h ∷ []) x rest) in
        let r : IsPermutation (x ∷ (h ∷ rest)) (h ∷ more) = IsPermutation-trans (x ∷ (h ∷ rest)) (h ∷ (x ∷ rest)) (h ∷ more) q (IsPermutation-cons h (x ∷ rest) more p) in
        subst (λ w. IsPermutation (x ∷ now) (option_to_list w ++ more)) (sym is) (subst (λ w. IsPermutation (x ∷ w) (h ∷ more)) (sym (now_is now v)) r)

    pub still_first : {A E : Type 0} (r : Result A E) → FirstOf o (option_to_list o ++ rest) → is_before x h ≡ false → OnOk r (IsPermutation (x ∷ rest) more) → OnErr r (more ≡ rest) → FirstOf o (option_to_list o ++ more)
    still_first (Err e) f b p n = subst (λ w. FirstOf o (option_to_list o ++ w)) (sym n) f
    still_first (Ok u) f b p n = subst (λ w. FirstOf w (option_to_list w ++ more)) (sym is) (heads h more (λ z i. at z (in_permutation (x ∷ rest) more z p i)))
      where
        at : (z : Filed L) → In z (x ∷ rest) → is_before z h ≡ false
        at z (inl e) = ap (λ w. is_before w h) e ∙ b
        at z (inr i) = upper_at h z (h ∷ rest) (first_is f).first (inr i)

  -- the first is taken, and the next takes its place
  module _ (h : Filed L) (next o : Option (Filed L)) (rest left : List (Filed L)) (is : o ≡ Some h) (f : FirstOf o (option_to_list o ++ rest)) where
    follows : (next : Option (Filed L)) → IfSome next (λ y. Takes y rest left) → IfNone next ((rest ≡ []) × (left ≡ [])) → IsPermutation rest (option_to_list next ++ left)
    follows None s n = subst (λ w. IsPermutation rest w) (n.0 ∙ sym n.1) (IsPermutation-refl rest)
    follows (Some y) s n = s.left

    pub first_goes : IfSome next (λ y. Takes y rest left) → IfNone next ((rest ≡ []) × (left ≡ [])) → (now : List (Filed L)) → option_to_list o ++ rest ≡ now → Takes h now (option_to_list next ++ left)
    first_goes s n now v =
        let g : FirstOf (Some h) (h ∷ rest) = subst (λ w. FirstOf w (option_to_list w ++ rest)) is f in
        let p = follows next s n in
        let is_now : h ∷ rest ≡ now = sym (ap (λ w. option_to_list w ++ rest) is) ∙ v in
        subst (λ w. Takes h w (option_to_list next ++ left)) is_now (record {
          left = IsPermutation-cons h rest (option_to_list next ++ left) p;
          first = upper h (option_to_list next ++ left) (λ z i. upper_at h z (h ∷ rest) g.first (inr (in_permutation rest (option_to_list next ++ left) z p i)));
        })

  pub none_kept : (r : Option (Filed L)) (old new : List (Filed L)) → IfNone r ((old ≡ []) × (new ≡ [])) → IfNone r (new ≡ old)
  none_kept None old new n = n.1 ∙ sym n.0
  none_kept (Some x) old new n = tt

  pub none_in_order : (r : Option (Filed L)) (old new : List (Filed L)) → IfNone r ((old ≡ []) × (new ≡ [])) → IfNone r (in_order old ≡ [])
  none_in_order None old new n = ap in_order n.0
  none_in_order (Some x) old new n = tt

  -- ---- lanes gone over

  -- the default doesn't matter where there is a lane
  at_row : (lanes : List (List (Filed L))) (i : ℕ) (ys : List (Filed L)) → i < length lanes → get_or lanes i ys ≡ row lanes i
  at_row [] i ys h = absurd (omega arith)
  at_row (xs ∷ more) zero ys h = refl
  at_row (xs ∷ more) (suc i) ys h = at_row more i ys (omega arith)

  pub is_row : (lanes : List (List (Filed L))) (i : ℕ) (ys : List (Filed L)) → i < length lanes → ys ≡ get_or lanes i ys → ys ≡ row lanes i
  is_row lanes i ys h e = e ∙ at_row lanes i ys h

  take_suc : (lanes : List (List (Filed L))) (i : ℕ) → i < length lanes → all (take (suc i) lanes) ≡ all (take i lanes) ++ row lanes i
  take_suc [] i h = absurd (omega arith)
  take_suc (xs ∷ more) zero h = append-nil xs
  take_suc (xs ∷ more) (suc i) h = ap (λ w. xs ++ w) (take_suc more i (omega arith)) ∙ sym (append_assoc xs (all (take i more)) (row more i))

  take_next : (lanes : List (List (Filed L))) (i : ℕ) → i < length lanes → all (take (i + 1) lanes) ≡ all (take i lanes) ++ row lanes i
  take_next lanes i h =
      let e : suc i ≡ i + 1 = omega arith in
      subst (λ k. all (take k lanes) ≡ all (take i lanes) ++ row lanes i) e (take_suc lanes i h)

  pub copied_more : (lanes : List (List (Filed L))) (i : ℕ) (xs a b c : List (Filed L)) → i < length lanes → xs ≡ get_or lanes i xs → b ≡ a ++ xs → a ≡ c ++ all (take i lanes) → b ≡ c ++ all (take (i + 1) lanes)
  copied_more lanes i xs a b c h e p q =
      p ∙ ap (λ w. w ++ xs) q ∙ append_assoc c (all (take i lanes)) xs ∙ ap (λ w. c ++ (all (take i lanes) ++ w)) (is_row lanes i xs h e) ∙ ap (λ w. c ++ w) (sym (take_next lanes i h))

  pub all_pushed : (lanes new : List (List (Filed L))) (xs : List (Filed L)) → new ≡ lanes ++ xs ∷ [] → xs ≡ [] → all new ≡ all lanes
  all_pushed lanes new xs e n = ap all e ∙ all_push lanes xs ∙ ap (λ w. all lanes ++ w) n ∙ append-nil (all lanes)

  -- an event put into the lane at a place
  pub put_there : (x : Filed L) (now : List (Filed L)) (old lanes : List (List (Filed L))) (i : ℕ) (ys zs : List (Filed L)) → all old ≡ now → all lanes ≡ all old → i < length lanes → ys ≡ get_or lanes i ys → IsPermutation (x ∷ ys) zs → IsPermutation (x ∷ now) (all (set lanes i zs))
  put_there x now old lanes i ys zs v same h e p = subst (λ w. IsPermutation (x ∷ w) (all (set lanes i zs))) (same ∙ v) (puts_at x lanes i zs h (subst (λ w. IsPermutation (x ∷ w) zs) (is_row lanes i ys h e) p))

  -- what wasn't put in changes nothing
  pub set_same : (lanes : List (List (Filed L))) (i : ℕ) (ys zs : List (Filed L)) → ys ≡ get_or lanes i ys → zs ≡ ys → set lanes i zs ≡ lanes
  set_same lanes i ys zs e same = ap (λ w. set lanes i w) (same ∙ e) ∙ set-get_or lanes i ys

  pub still_all : (now : List (Filed L)) (old lanes : List (List (Filed L))) (i : ℕ) (ys zs : List (Filed L)) → all old ≡ now → all lanes ≡ all old → ys ≡ get_or lanes i ys → zs ≡ ys → all (set lanes i zs) ≡ now
  still_all now old lanes i ys zs v a e same = ap all (set_same lanes i ys zs e same) ∙ a ∙ v
