-- Lanes in the order of their firsts.
use Rattle.std.proofs.Common.{◌≡◌, ℕ, ◌+◌, ◌<◌, ◌≤◌, ◌==◌, ◌⊎◌, inl, inr, Bool, true, false, not, List, [], ◌∷◌, ◌++◌, Option, Some, None, zero, suc, refl, sym, ap, ◌∙◌, subst, arith, length, set, append-nil, get_or}
use Rattle.std.proofs.lemmas.Bool.{false≢true}
use Rattle.std.proofs.lemmas.List.Sorted.{IsPermutation-sym, IsPermutation-trans, IsPermutation-refl, IsPermutation-append_left, IsPermutation-append_right}
use Rattle.std.specs.List.{swap}
use Rattle.std.specs.List.Sorted.{IsPermutation}
use Rattle.std.specs.Option.{IfSome, IfNone}
use Rattle.ss_pending.specs.declared.filed.Filed.{Filed}
use Rattle.ss_pending.specs.Filed.{is_before, In, FirstOf, Takes, leads, first_of, all, row, others, NotBefore, IsLed, Leads, AreInTurn, Rises, Sinks, IsInTurn, IsOutOfTurn}
use Rattle.ss_pending.proofs.Sorting.{asym, upper, upper_at, in_permutation}
use Rattle.ss_pending.proofs.Lanes.{chain, in_left, in_right, in_either, first_of_both, taken_is_first}
use Rattle.ss_pending.proofs.Roads.{past, one_out, heads, is_row, all_push}

suc_is : (i j : ℕ) → j ≡ i + 1 → j ≡ suc i
suc_is i j e = omega arith

pub not_empty : (n : ℕ) (b : Bool) → b ≡ (n == 0) → b ≡ false → 0 < n
not_empty zero b e h = absurd (false≢true (sym h ∙ e))
not_empty (suc n) b e h = omega arith

module _ {L : Type 0} where
  -- ---- a list that leads another

  -- each list has a first, or nothing
  exists_first : (xs : List (Filed L)) → (o : Option (Filed L)) × FirstOf o xs
  exists_first [] = (None, refl)
  exists_first (x ∷ xs) =
      let r = exists_first xs in
      (first_of (Some x) r.0, first_of_both (Some x) r.0 (x ∷ []) xs (heads x [] (λ z i. absurd i)) r.1)

  -- what is led by one first is led by another
  led_by : (o p : Option (Filed L)) (xs ys : List (Filed L)) → FirstOf o xs → FirstOf p xs → IsLed ys p → IsLed ys o
  led_by o None xs ys f g l = λ z i. absurd (l z i)
  led_by None (Some w) xs ys f g l = absurd (subst (In w) f g.is_there)
  led_by (Some x) (Some w) xs ys f g l = λ z i. chain x w z (upper_at x w xs f.first g.is_there) (l z i)

  -- a first of a list that leads the other is a first of both
  pub leads_both : (o : Option (Filed L)) (xs ys : List (Filed L)) → FirstOf o xs → Leads xs ys → FirstOf o (xs ++ ys)
  leads_both o xs ys f l = at o f (led_by o l.0 xs ys f l.1.0 l.1.1)
    where
      nothing : (zs : List (Filed L)) → IsLed zs None → zs ≡ []
      nothing [] m = refl
      nothing (z ∷ zs) m = absurd (m z (inl refl))

      at : (o : Option (Filed L)) → FirstOf o xs → IsLed ys o → FirstOf o (xs ++ ys)
      at None f m = ap (λ w. w ++ ys) f ∙ nothing ys m
      at (Some x) f m = record { is_there = in_left x xs ys f.is_there; first = upper x (xs ++ ys) (λ z i. put z (in_either z xs ys i)) }
        where
          put : (z : Filed L) → In z xs ⊎ In z ys → is_before z x ≡ false
          put z (inl i) = upper_at x z xs f.first i
          put z (inr i) = m z i

  leads_fewer : (xs ys zs : List (Filed L)) → ((z : Filed L) → In z zs → In z ys) → Leads xs ys → Leads xs zs
  leads_fewer xs ys zs h l = (l.0, (l.1.0, λ z i. l.1.1 z (h z i)))

  leads_same : (xs ys zs : List (Filed L)) → IsPermutation ys zs → Leads xs ys → Leads xs zs
  leads_same xs ys zs p l = leads_fewer xs ys zs (λ z i. in_permutation ys zs z p i) l

  leads_nil : (xs : List (Filed L)) → Leads xs []
  leads_nil xs = let r = exists_first xs in (r.0, (r.1, λ z i. absurd i))

  leads_more : (xs ys zs : List (Filed L)) → Leads xs ys → Leads xs zs → Leads xs (ys ++ zs)
  leads_more xs ys zs l m =
      let k = led_by l.0 m.0 xs zs l.1.0 m.1.0 m.1.1 in
      (l.0, (l.1.0, λ z i. at z k (in_either z ys zs i)))
    where
      at : (z : Filed L) → IsLed zs l.0 → In z ys ⊎ In z zs → NotBefore z l.0
      at z k (inl i) = l.1.1 z i
      at z k (inr i) = k z i

  leads_chain : (xs ys zs : List (Filed L)) → Leads xs ys → Leads ys zs → Leads xs zs
  leads_chain xs ys zs l m = (l.0, (l.1.0, at l.0 m.0 m.1.0 l.1.1 m.1.1))
    where
      at : (o p : Option (Filed L)) → FirstOf p ys → IsLed ys o → IsLed zs p → IsLed zs o
      at o None g j k = λ z i. absurd (k z i)
      at None (Some w) g j k = absurd (j w g.is_there)
      at (Some x) (Some w) g j k = λ z i. chain x w z (j w g.is_there) (k z i)

  -- a list with one more leads what it led
  leads_grown : (x : Filed L) (xs ys zs : List (Filed L)) → IsPermutation (x ∷ xs) ys → Leads xs zs → Leads ys zs
  leads_grown x xs ys zs p l =
      let r = exists_first ys in
      (r.0, (r.1, at r.0 l.0 r.1 l.1.0 l.1.1))
    where
      at : (o p : Option (Filed L)) → FirstOf o ys → FirstOf p xs → IsLed zs p → IsLed zs o
      at o None f g k = λ z i. absurd (k z i)
      at None (Some w) f g k = absurd (subst (In w) f (in_permutation ys (x ∷ xs) w (IsPermutation-sym (x ∷ xs) ys p) (inr g.is_there)))
      at (Some v) (Some w) f g k = λ z i. chain v w z (upper_at v w ys f.first (in_permutation ys (x ∷ xs) w (IsPermutation-sym (x ∷ xs) ys p) (inr g.is_there))) (k z i)

  -- the one whose first leads, and the one whose first doesn't
  pub leads_then : (b : Bool) (o p : Option (Filed L)) (xs ys : List (Filed L)) → FirstOf o xs → FirstOf p ys → b ≡ leads o p → b ≡ true → Leads xs ys
  leads_then b o p xs ys f g e h = (o, (f, at o p f g (sym e ∙ h)))
    where
      yes : (c : Bool) → not c ≡ true → c ≡ false
      yes true h = absurd (false≢true h)
      yes false h = refl

      at : (o p : Option (Filed L)) → FirstOf o xs → FirstOf p ys → leads o p ≡ true → IsLed ys o
      at None p f g h = absurd (false≢true h)
      at (Some x) None f g h = λ z i. absurd (subst (In z) g i)
      at (Some x) (Some y) f g h = λ z i. chain x y z (yes _ h) (upper_at y z ys g.first i)

  pub leads_else : (b : Bool) (o p : Option (Filed L)) (xs ys : List (Filed L)) → FirstOf o xs → FirstOf p ys → b ≡ leads o p → b ≡ false → Leads ys xs
  leads_else b o p xs ys f g e h = (p, (g, at o p f g (sym e ∙ h)))
    where
      no : (c : Bool) → not c ≡ false → c ≡ true
      no true h = refl
      no false h = absurd (false≢true (sym h))

      at : (o p : Option (Filed L)) → FirstOf o xs → FirstOf p ys → leads o p ≡ false → IsLed xs p
      at None p f g h = λ z i. absurd (subst (In z) f i)
      at (Some x) None f g h = absurd (false≢true (sym h))
      at (Some x) (Some y) f g h = λ z i. chain y x z (asym y x (no _ h)) (upper_at x z xs f.first i)

  -- ---- two lanes next to each other that change places

  abbrev pub switched : List (List (Filed L)) → ℕ → List (List (Filed L))
  switched [] i = []
  switched (xs ∷ []) i = xs ∷ []
  switched (xs ∷ ys ∷ more) zero = ys ∷ xs ∷ more
  switched (xs ∷ ys ∷ more) (suc i) = xs ∷ switched (ys ∷ more) i

  set_both : (d : List (Filed L)) (lanes : List (List (Filed L))) (i : ℕ) → suc i < length lanes → set (set lanes i (get_or lanes (suc i) d)) (suc i) (get_or lanes i d) ≡ switched lanes i
  set_both d [] i h = absurd (omega arith)
  set_both d (xs ∷ []) i h = absurd (omega arith)
  set_both d (xs ∷ ys ∷ more) zero h = refl
  set_both d (xs ∷ ys ∷ more) (suc i) h = ap (λ w. xs ∷ w) (set_both d (ys ∷ more) i (omega arith))

  swap_is : (lanes : List (List (Filed L))) (i : ℕ) → suc i < length lanes → swap lanes i (suc i) ≡ switched lanes i
  swap_is [] i h = absurd (omega arith)
  swap_is (xs ∷ more) i h = set_both xs (xs ∷ more) i h

  all_switched : (lanes : List (List (Filed L))) (i : ℕ) → IsPermutation (all lanes) (all (switched lanes i))
  all_switched [] i = IsPermutation-refl []
  all_switched (xs ∷ []) i = IsPermutation-refl (xs ++ [])
  all_switched (xs ∷ ys ∷ more) zero = past xs ys (all more)
  all_switched (xs ∷ ys ∷ more) (suc i) = IsPermutation-append_right xs (all (ys ∷ more)) (all (switched (ys ∷ more) i)) (all_switched (ys ∷ more) i)

  others_switched : (lanes : List (List (Filed L))) (i : ℕ) → suc i < length lanes → others (switched lanes i) i ≡ others lanes (suc i)
  others_switched [] i h = absurd (omega arith)
  others_switched (xs ∷ []) i h = absurd (omega arith)
  others_switched (xs ∷ ys ∷ more) zero h = refl
  others_switched (xs ∷ ys ∷ more) (suc i) h = ap (λ w. xs ++ w) (others_switched (ys ∷ more) i (omega arith))

  -- ---- a lane that comes forward

  rises_on : (lanes : List (List (Filed L))) (i : ℕ) → suc i < length lanes → Rises (suc i) lanes → IsOutOfTurn i lanes → Rises i (switched lanes i)
  rises_on [] i h r o = absurd (omega arith)
  rises_on (xs ∷ []) i h r o = absurd (omega arith)
  rises_on (xs ∷ ys ∷ more) zero h r o = (leads_more ys xs (all more) o r.1.0, (r.0, r.1.1))
  rises_on (xs ∷ ys ∷ more) (suc i) h r o = (subst (Leads xs) (sym (others_switched (ys ∷ more) i (omega arith))) r.0, rises_on (ys ∷ more) i (omega arith) r.1 o)

  others_in : (z : Filed L) (lanes : List (List (Filed L))) (i : ℕ) → In z (others lanes i) → In z (all lanes)
  others_in z lanes i j = in_permutation (all lanes) (row lanes i ++ others lanes i) z (one_out lanes i) (in_right z (row lanes i) (others lanes i) j)

  row_others : (z : Filed L) (lanes : List (List (Filed L))) (i : ℕ) → In z (row lanes i) → In z (others lanes (suc i))
  row_others z [] i j = j
  row_others z (xs ∷ more) zero j = in_left z xs (others more zero) j
  row_others z (xs ∷ more) (suc i) j = in_right z xs (others more (suc i)) (row_others z more i j)

  pub rises_no_more : (lanes : List (List (Filed L))) (i : ℕ) → Rises (suc i) lanes → IsInTurn i lanes → AreInTurn lanes
  rises_no_more [] i r t = tt
  rises_no_more (xs ∷ more) zero r t =
      (leads_same xs (row more zero ++ others more zero) (all more) (IsPermutation-sym (all more) (row more zero ++ others more zero) (one_out more zero)) (leads_more xs (row more zero) (others more zero) t r.0), r.1)
  rises_no_more (xs ∷ more) (suc i) r t =
      let l : Leads xs (row more i) = leads_fewer xs (others more (suc i)) (row more i) (λ z j. row_others z more i j) r.0 in
      let m : Leads xs (row more (suc i)) = leads_chain xs (row more i) (row more (suc i)) l t in
      (leads_same xs (row more (suc i) ++ others more (suc i)) (all more) (IsPermutation-sym (all more) (row more (suc i) ++ others more (suc i)) (one_out more (suc i))) (leads_more xs (row more (suc i)) (others more (suc i)) m r.0), rises_no_more more i r.1 t)

  others_set : (lanes : List (List (Filed L))) (i : ℕ) (ys : List (Filed L)) → others (set lanes i ys) i ≡ others lanes i
  others_set [] i ys = refl
  others_set (xs ∷ more) zero ys = refl
  others_set (xs ∷ more) (suc i) ys = ap (λ w. xs ++ w) (others_set more i ys)

  -- one more was put into a lane
  rises_with : (x : Filed L) (lanes : List (List (Filed L))) (i : ℕ) (ys : List (Filed L)) → AreInTurn lanes → IsPermutation (x ∷ row lanes i) ys → Rises i (set lanes i ys)
  rises_with x [] zero ys t p = tt
  rises_with x [] (suc i) ys t p = tt
  rises_with x (xs ∷ more) zero ys t p = (leads_grown x xs ys (all more) p t.0, t.1)
  rises_with x (xs ∷ more) (suc i) ys t p =
      (subst (Leads xs) (sym (others_set more i ys)) (leads_fewer xs (all more) (others more i) (λ z j. others_in z more i j) t.0), rises_with x more i ys t.1 p)

  -- ---- a lane that goes back

  sinks_on : (lanes : List (List (Filed L))) (i : ℕ) → suc i < length lanes → Sinks i lanes → IsOutOfTurn i lanes → Sinks (suc i) (switched lanes i)
  sinks_on [] i h s o = absurd (omega arith)
  sinks_on (xs ∷ []) i h s o = absurd (omega arith)
  sinks_on (xs ∷ ys ∷ more) zero h s o = (leads_more ys xs (all more) o s.0, s.1)
  sinks_on (xs ∷ ys ∷ more) (suc i) h s o = (leads_same xs (all (ys ∷ more)) (all (switched (ys ∷ more) i)) (all_switched (ys ∷ more) i) s.0, sinks_on (ys ∷ more) i (omega arith) s.1 o)

  pub sinks_no_more : (lanes : List (List (Filed L))) (i : ℕ) → Sinks i lanes → IsInTurn i lanes → AreInTurn lanes
  sinks_no_more [] i s t = tt
  sinks_no_more (xs ∷ []) zero s t = (leads_nil xs, tt)
  sinks_no_more (xs ∷ ys ∷ more) zero s t = (leads_more xs ys (all more) t (leads_chain xs ys (all more) t s.0), s)
  sinks_no_more (xs ∷ more) (suc i) s t = (s.0, sinks_no_more more i s.1 t)

  last_in_turn : (lanes : List (List (Filed L))) (i : ℕ) → length lanes ≤ suc i → IsInTurn i lanes
  last_in_turn [] i h = leads_nil []
  last_in_turn (xs ∷ []) zero h = leads_nil xs
  last_in_turn (xs ∷ ys ∷ more) zero h = absurd (omega arith)
  last_in_turn (xs ∷ more) (suc i) h = last_in_turn more i (omega arith)

  -- ---- the same by what the code finds

  module _ (lanes new : List (List (Filed L))) (i j : ℕ) (e : j ≡ i + 1) (h : j < length lanes) (s : new ≡ swap lanes i j) where
    new_is : new ≡ switched lanes i
    new_is = s ∙ ap (swap lanes i) (suc_is i j e) ∙ swap_is lanes i (omega (arith, e, h))

    pub swapped_rises : Rises j lanes → IsOutOfTurn i lanes → Rises i new
    swapped_rises r o = subst (Rises i) (sym new_is) (rises_on lanes i (omega (arith, e, h)) (subst (λ k. Rises k lanes) (suc_is i j e) r) o)

    pub swapped_sinks : Sinks i lanes → IsOutOfTurn i lanes → Sinks j new
    swapped_sinks r o = subst (λ k. Sinks k new) (sym (suc_is i j e)) (subst (Sinks (suc i)) (sym new_is) (sinks_on lanes i (omega (arith, e, h)) r o))

    pub swapped_same : (last : List (List (Filed L))) → IsPermutation (all new) (all last) → IsPermutation (all lanes) (all last)
    swapped_same last p = IsPermutation-trans (all lanes) (all new) (all last) (subst (λ w. IsPermutation (all lanes) (all w)) (sym new_is) (all_switched lanes i)) p

  pub risen : (lanes : List (List (Filed L))) (i j : ℕ) → j ≡ i + 1 → Rises j lanes → IsInTurn i lanes → AreInTurn lanes
  risen lanes i j e r t = rises_no_more lanes i (subst (λ k. Rises k lanes) (suc_is i j e) r) t

  pub sunk : (lanes : List (List (Filed L))) (i j : ℕ) → j ≡ i + 1 → length lanes ≤ j → Sinks i lanes → AreInTurn lanes
  sunk lanes i j e h s = sinks_no_more lanes i s (last_in_turn lanes i (omega (arith, e, h)))

  -- a new lane that has nothing
  turn_push : (lanes : List (List (Filed L))) → AreInTurn lanes → AreInTurn (lanes ++ [] ∷ [])
  turn_push [] t = (leads_nil [], tt)
  turn_push (xs ∷ more) t = (subst (Leads xs) (sym (all_push more [] ∙ append-nil (all more))) t.0, turn_push more t.1)

  pub turn_pushed : (lanes new : List (List (Filed L))) (xs : List (Filed L)) → new ≡ lanes ++ xs ∷ [] → xs ≡ [] → AreInTurn lanes → AreInTurn new
  turn_pushed lanes new xs e n t = subst AreInTurn (sym (e ∙ ap (λ w. lanes ++ w ∷ []) n)) (turn_push lanes t)

  pub put_rises : (x : Filed L) (lanes : List (List (Filed L))) (i : ℕ) (xs ys : List (Filed L)) → AreInTurn lanes → i < length lanes → xs ≡ get_or lanes i xs → IsPermutation (x ∷ xs) ys → Rises i (set lanes i ys)
  put_rises x lanes i xs ys t h e p = rises_with x lanes i ys t (subst (λ w. IsPermutation (x ∷ w) ys) (is_row lanes i xs h e) p)

  pub put_then : (x : Filed L) (now : List (Filed L)) (lanes set new : List (List (Filed L))) → IsPermutation (x ∷ now) (all lanes) → set ≡ lanes → IsPermutation (all set) (all new) → IsPermutation (x ∷ now) (all new)
  put_then x now lanes set new p e q = IsPermutation-trans (x ∷ now) (all lanes) (all new) p (subst (λ w. IsPermutation (all w) (all new)) e q)

  -- ---- the first lane

  pub turn_first : (o : Option (Filed L)) (lanes : List (List (Filed L))) (xs : List (Filed L)) → 0 < length lanes → AreInTurn lanes → xs ≡ get_or lanes 0 xs → FirstOf o xs → FirstOf o (all lanes)
  turn_first o [] xs h t e f = absurd (omega arith)
  turn_first o (ys ∷ more) xs h t e f = leads_both o ys (all more) (subst (FirstOf o) e f) t.0

  pub took_first : (r : Option (Filed L)) (lanes new : List (List (Filed L))) (xs ys : List (Filed L)) → 0 < length lanes → AreInTurn lanes → xs ≡ get_or lanes 0 xs → IsPermutation (all (set lanes 0 ys)) (all new) → IfSome r (λ x. Takes x xs ys) → IfSome r (λ x. Takes x (all lanes) (all new))
  took_first None lanes new xs ys h t e p s = tt
  took_first (Some x) [] new xs ys h t e p s = absurd (omega arith)
  took_first (Some x) (ws ∷ more) new xs ys h t e p s =
      let s : Takes x ws ys = subst (λ w. Takes x w ys) e s in
      let f : FirstOf (Some x) (ws ++ all more) = leads_both (Some x) ws (all more) (taken_is_first x ws ys s) t.0 in
      let q : IsPermutation (ws ++ all more) ((x ∷ ys) ++ all more) = IsPermutation-append_left (all more) ws (x ∷ ys) s.left in
      let left : IsPermutation (ws ++ all more) (x ∷ all new) = IsPermutation-trans (ws ++ all more) (x ∷ (ys ++ all more)) (x ∷ all new) q (IsPermutation-append_right (x ∷ []) (ys ++ all more) (all new) p) in
      record { left = left; first = upper x (all new) (λ z i. upper_at x z (ws ++ all more) f.first (in_permutation (ws ++ all more) (x ∷ all new) z left (inr i))) }

  pub took_none : (r : Option (Filed L)) (lanes new : List (List (Filed L))) (xs ys : List (Filed L)) → 0 < length lanes → AreInTurn lanes → xs ≡ get_or lanes 0 xs → IsPermutation (all (set lanes 0 ys)) (all new) → IfNone r ((xs ≡ []) × (ys ≡ [])) → IfNone r ((all lanes ≡ []) × (all new ≡ []))
  took_none (Some x) lanes new xs ys h t e p n = tt
  took_none None [] new xs ys h t e p n = absurd (omega arith)
  took_none None (ws ∷ more) new xs ys h t e p n =
      let a : ws ++ all more ≡ [] = leads_both None ws (all more) (sym e ∙ n.0) t.0 in
      let b : ys ++ all more ≡ [] = ap (λ w. w ++ all more) (n.1 ∙ sym (sym e ∙ n.0)) ∙ a in
      (a, nothing (all new) (subst (λ w. IsPermutation w (all new)) b p))
    where
      nothing : (zs : List (Filed L)) → IsPermutation [] zs → zs ≡ []
      nothing [] p = refl
      nothing (z ∷ zs) p = absurd (in_permutation [] (z ∷ zs) z p (inl refl))

  -- the lane at a place and the next one, with what the code finds of them
  module _ (lanes : List (List (Filed L))) (i : ℕ) (b : Bool) (o p : Option (Filed L)) (xs ys : List (Filed L)) (h : i + 1 < length lanes) (is : xs ≡ get_or lanes (i + 1) xs) (js : ys ≡ get_or lanes i ys) (f : FirstOf o xs) (g : FirstOf p ys) (e : b ≡ leads o p) where
    next_is : xs ≡ row lanes (suc i)
    next_is = is_row lanes (i + 1) xs h is ∙ ap (row lanes) (suc_is i (i + 1) refl)

    here_is : ys ≡ row lanes i
    here_is = is_row lanes i ys (omega (arith, h)) js

    pub found_out : b ≡ true → IsOutOfTurn i lanes
    found_out t = leads_then b o p (row lanes (suc i)) (row lanes i) (subst (FirstOf o) next_is f) (subst (FirstOf p) here_is g) e t

    pub found_turn : b ≡ false → IsInTurn i lanes
    found_turn t = leads_else b o p (row lanes (suc i)) (row lanes i) (subst (FirstOf o) next_is f) (subst (FirstOf p) here_is g) e t
