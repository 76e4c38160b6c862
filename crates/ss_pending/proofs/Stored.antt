-- Events whose loads stand at places.
use Rattle.std.proofs.Common.{◌≡◌, ℕ, ◌+◌, ◌-◌, ◌<◌, ◌≤◌, ◌≢◌, inl, inr, Bool, true, false, cond, ltb, List, [], ◌∷◌, ◌++◌, Option, Some, None, zero, suc, refl, sym, ap, ◌∙◌, subst, arith, length, set, take, get_or, slice_get, append_assoc, Result, Ok, Err, IfOk}
use Rattle.std.proofs.lemmas.Bool.Decides.{nat_tests}
use Rattle.std.proofs.lemmas.List.{length-take-le, take_more_set}
use Rattle.std.proofs.lemmas.Option.{slice_get_read}
use Rattle.ss_model.specs.declared.Event.{Event}
use Rattle.ss_model.specs.declared.Key.{Key}
use Rattle.ss_model.specs.Order.{key_before, insert}
use Rattle.ss_pending.specs.Loads.{Store, AllWithin, Puts, load_at, loaded, all_loaded, is_place, use_of, uses, count, has_load, loads_of, Kept, Stores, CanTake, freed}

-- ---- counting

uses_insert : (k : ℕ) (e : Event ℕ) (es : List (Event ℕ)) → uses k (insert e es) ≡ use_of k e.load + uses k es
uses_insert k e [] = refl
uses_insert k e (x ∷ xs) = put (key_before e.key x.key) (uses_insert k e xs)
  where
    put : (b : Bool) → uses k (insert e xs) ≡ use_of k e.load + uses k xs → uses k (cond b (e ∷ x ∷ xs) (x ∷ insert e xs)) ≡ use_of k e.load + (use_of k x.load + uses k xs)
    put true r = refl
    put false r = omega (arith, r)

loads_insert : (e : Event ℕ) (es : List (Event ℕ)) → loads_of (insert e es) ≡ has_load e.load + loads_of es
loads_insert e [] = refl
loads_insert e (x ∷ xs) = put (key_before e.key x.key) (loads_insert e xs)
  where
    put : (b : Bool) → loads_of (insert e xs) ≡ has_load e.load + loads_of xs → loads_of (cond b (e ∷ x ∷ xs) (x ∷ insert e xs)) ≡ has_load e.load + (has_load x.load + loads_of xs)
    put true r = refl
    put false r = omega (arith, r)

count_behind : (k j : ℕ) (js : List ℕ) → count k (js ++ j ∷ []) ≡ is_place k j + count k js
count_behind k j [] = refl
count_behind k j (i ∷ js) = let r = count_behind k j js in omega (arith, r)

length_behind : (j : ℕ) (js : List ℕ) → length (js ++ j ∷ []) ≡ length js + 1
length_behind j [] = refl
length_behind j (i ∷ js) = let r = length_behind j js in omega (arith, r)

length_more : {L : Type 0} (x : L) (xs : List L) → length (xs ++ x ∷ []) ≡ length xs + 1
length_more x [] = refl
length_more x (y ∷ xs) = let r = length_more x xs in omega (arith, r)

set_length : {L : Type 0} (xs : List L) (i : ℕ) (x : L) → length (set xs i x) ≡ length xs
set_length [] i x = refl
set_length (y ∷ xs) zero x = refl
set_length (y ∷ xs) (suc i) x = let r = set_length xs i x in omega (arith, r)

abbrev within : ℕ → ℕ → ℕ
within k n = cond (ltb k n) 1 0

same_place : (k : ℕ) → is_place k k ≡ 1
same_place k = grind (arith, nat_tests)

-- a place that is used is within, and no other event has it
used_within : (k n u c : ℕ) → (is_place k k + u) + c ≡ within k n → (k < n) × (u ≡ 0)
used_within k n u c h = (grind (arith, nat_tests), grind (arith, nat_tests))

free_within : (k n u c : ℕ) → u + (is_place k k + c) ≡ within k n → u ≡ 0
free_within k n u c h = grind (arith, nat_tests)

past_within : (k n u c : ℕ) → u + c ≡ within k n → n ≤ k → u ≡ 0
past_within k n u c h p = grind (arith, nat_tests)

one_more : (k n u : ℕ) → u + 0 ≡ within k n → (is_place k n + u) + 0 ≡ within k (n + 1)
one_more k n u h = grind (arith, nat_tests)

-- ---- what events have

module _ {L : Type 0} where
  slice_set_other : (xs : List L) (i j : ℕ) (x : L) → j ≢ i → slice_get (set xs i x) j ≡ slice_get xs j
  slice_set_other [] i j x d = refl
  slice_set_other (y ∷ xs) zero zero x d = absurd (d refl)
  slice_set_other (y ∷ xs) zero (suc j) x d = refl
  slice_set_other (y ∷ xs) (suc i) zero x d = refl
  slice_set_other (y ∷ xs) (suc i) (suc j) x d = slice_set_other xs i j x (λ e. d (ap suc e))

  slice_set_here : (xs : List L) (i : ℕ) (x : L) → i < length xs → slice_get (set xs i x) i ≡ Some x
  slice_set_here [] i x h = absurd (omega arith)
  slice_set_here (y ∷ xs) zero x h = refl
  slice_set_here (y ∷ xs) (suc i) x h = slice_set_here xs i x (omega arith)

  slice_behind : (xs : List L) (x : L) (j : ℕ) → j < length xs → slice_get (xs ++ x ∷ []) j ≡ slice_get xs j
  slice_behind [] x j h = absurd (omega arith)
  slice_behind (y ∷ xs) x zero h = refl
  slice_behind (y ∷ xs) x (suc j) h = slice_behind xs x j (omega arith)

  slice_last : (xs : List L) (x : L) → slice_get (xs ++ x ∷ []) (length xs) ≡ Some x
  slice_last [] x = refl
  slice_last (y ∷ xs) x = slice_last xs x

  -- loads that are the same at the places of events
  same_loads : (old new : List L) (es : List (Event ℕ)) → ((j : ℕ) → uses j es ≢ 0 → slice_get new j ≡ slice_get old j) → all_loaded new es ≡ all_loaded old es
  same_loads old new [] f = refl
  same_loads old new (e ∷ es) f =
      ap (λ o. record { key = e.key; load = o } ∷ all_loaded new es) (one e.load (λ j h. f j (λ z. h (omega (arith, z)))))
      ∙ ap (λ ws. loaded old e ∷ ws) (same_loads old new es (λ j h. f j (λ z. h (omega (arith, z)))))
    where
      one : (o : Option ℕ) → ((j : ℕ) → use_of j o ≢ 0 → slice_get new j ≡ slice_get old j) → load_at new o ≡ load_at old o
      one None f = refl
      one (Some j) f = f j (λ z. absurd (omega (arith, z, same_place j)))

  loaded_insert : (loads : List L) (e : Event ℕ) (es : List (Event ℕ)) → all_loaded loads (insert e es) ≡ insert (loaded loads e) (all_loaded loads es)
  loaded_insert loads e [] = refl
  loaded_insert loads e (x ∷ xs) = put (key_before e.key x.key) (loaded_insert loads e xs)
    where
      put : (b : Bool) → all_loaded loads (insert e xs) ≡ insert (loaded loads e) (all_loaded loads xs) → all_loaded loads (cond b (e ∷ x ∷ xs) (x ∷ insert e xs)) ≡ cond b (loaded loads e ∷ loaded loads x ∷ all_loaded loads xs) (loaded loads x ∷ insert (loaded loads e) (all_loaded loads xs))
      put true r = refl
      put false r = ap (λ ws. loaded loads x ∷ ws) r

-- ---- places that are free

last_at : (places : List ℕ) (i p : ℕ) → i < length places → p ≡ get_or places i p → take (suc i) places ≡ take i places ++ p ∷ []
last_at [] i p h e = absurd (omega arith)
last_at (x ∷ xs) zero p h e = ap (λ w. w ∷ []) (sym e)
last_at (x ∷ xs) (suc i) p h e = ap (λ ws. x ∷ ws) (last_at xs i p (omega arith) e)

pub last_free : (places : List ℕ) (f p : ℕ) → 0 < f → f ≤ length places → p ≡ get_or places (f - 1) p → take f places ≡ take (f - 1) places ++ p ∷ []
last_free places f p h w e =
    let same : suc (f - 1) ≡ f = omega arith in
    subst (λ k. take k places ≡ take (f - 1) places ++ p ∷ []) same (last_at places (f - 1) p (omega arith) e)

within_parts : (n : ℕ) (ks : List ℕ) (p : ℕ) → AllWithin n (ks ++ p ∷ []) → AllWithin n ks × (p < n)
within_parts n [] p a = (tt, a.0)
within_parts n (k ∷ ks) p a = let r = within_parts n ks p a.1 in ((a.0, r.0), r.1)

within_more : (n : ℕ) (ks : List ℕ) (p : ℕ) → AllWithin n ks → p < n → AllWithin n (ks ++ p ∷ [])
within_more n [] p a h = (h, tt)
within_more n (k ∷ ks) p a h = (a.0, within_more n ks p a.1 h)

module _ (n : ℕ) (places : List ℕ) (f p : ℕ) (h : 0 < f) (w : f ≤ length places) (e : p ≡ get_or places (f - 1) p) (a : AllWithin n (take f places)) where
  parts : AllWithin n (take (f - 1) places) × (p < n)
  parts = within_parts n (take (f - 1) places) p (subst (AllWithin n) (last_free places f p h w e) a)

  pub last_within : p < n
  last_within = parts.1

  pub rest_within : AllWithin n (take (f - 1) places)
  rest_within = parts.0

pub one_fewer : (f n : ℕ) → f ≤ n → f - 1 ≤ n
one_fewer f n h = omega arith

module _ {L : Type 0} where
  pub set_within : (loads : List L) (i : ℕ) (x : L) (n : ℕ) → length loads ≤ n → length (set loads i x) ≤ n
  set_within loads i x n h = let e = set_length loads i x in omega (arith, e, h)

  pub set_all_within : (loads : List L) (i : ℕ) (x : L) (ks : List ℕ) → AllWithin (length loads) ks → AllWithin (length (set loads i x)) ks
  set_all_within loads i x ks a = subst (λ n. AllWithin n ks) (sym (set_length loads i x)) a

  pub put_again : (place : ℕ) (x : L) (now : Store L) (loads : List L) (places : List ℕ) (f : ℕ) → record { loads = loads; free = take f places } ≡ now → 0 < f → f ≤ length places → place ≡ get_or places (f - 1) place → AllWithin (length loads) (take f places) → Puts place x now (record { loads = set loads place x; free = take (f - 1) places })
  put_again place x now loads places f v h w e a = subst (λ s. Puts place x s (record { loads = set loads place x; free = take (f - 1) places })) v (inl (last_within (length loads) places f place h w e a, (refl, last_free places f place h w e)))

  -- room for one more free place
  pub has_room : (now : Store L) (loads : List L) (places : List ℕ) (f : ℕ) → record { loads = loads; free = take f places } ≡ now → f ≤ length places → length loads ≤ length places → length now.free < length now.loads → f < length places
  has_room now loads places f v h w r =
      let q : length (take f places) < length loads = subst (λ (s : Store L). length s.free < length s.loads) (sym v) r in
      let t = length-take-le f places h in
      omega (arith, q, t, w)

  pub freed_within : (now : Store L) (loads : List L) (places : List ℕ) (f place : ℕ) → record { loads = loads; free = take f places } ≡ now → f < length places → place < length now.loads → AllWithin (length loads) (take f places) → AllWithin (length loads) (take (f + 1) (set places f place))
  freed_within now loads places f place v h t a =
      let u : place < length loads = subst (λ (s : Store L). place < length s.loads) (sym v) t in
      subst (AllWithin (length loads)) (sym (take_more_set places f place h)) (within_more (length loads) (take f places) place a u)

  pub load_there : (now : Store L) (loads : List L) (places : List ℕ) (f place : ℕ) (x : L) → record { loads = loads; free = take f places } ≡ now → place < length now.loads → x ≡ get_or loads place x → slice_get now.loads place ≡ Some x
  load_there now loads places f place x v h e = subst (λ (s : Store L). slice_get s.loads place ≡ Some x) v (slice_get_read loads (length loads) place x refl (subst (λ (s : Store L). place < length s.loads) (sym v) h) e)

-- ---- events and their loads

within_used : (k n u c : ℕ) → u + c ≡ within k n → u ≢ 0 → k < n
within_used k n u c h d = grind (arith, nat_tests)

module _ {L : Type 0} (key : Key) (es : List (Event ℕ)) (s t : Store L) (k : Kept es s) where
  abbrev with_load : Option ℕ → Event ℕ
  with_load o = record { key = key; load = o }

  module _ (place : ℕ) (x : L) where
    again_kept : t.loads ≡ set s.loads place x → s.free ≡ t.free ++ place ∷ [] → Kept (insert (with_load (Some place)) es) t
    again_kept l f = record {
      each = λ j.
          let a = uses_insert j (with_load (Some place)) es in
          let b = ap (count j) f ∙ count_behind j place t.free in
          let c = k.each j in
          let d = ap (within j) (ap length l ∙ set_length s.loads place x) in
          omega (arith, a, b, c, d);
      all =
          let a = loads_insert (with_load (Some place)) es in
          let b = ap length f ∙ length_behind place t.free in
          let c = k.all in
          let d = ap length l ∙ set_length s.loads place x in
          omega (arith, a, b, c, d);
    }

    behind_kept : s.free ≡ [] → t.free ≡ [] → place ≡ length s.loads → t.loads ≡ s.loads ++ x ∷ [] → Kept (insert (with_load (Some place)) es) t
    behind_kept f g h l = record {
      each = λ j.
          let a = uses_insert j (with_load (Some place)) es in
          let b = ap (count j) f in
          let c = ap (count j) g in
          let d = ap (within j) (ap length l ∙ length_more x s.loads) in
          let e : uses j es + 0 ≡ within j (length s.loads) = let q = k.each j in omega (arith, q, b) in
          let o = one_more j (length s.loads) (uses j es) e in
          let p = ap (is_place j) h in
          omega (arith, a, c, d, o, p);
      all =
          let a = loads_insert (with_load (Some place)) es in
          let b = ap length f in
          let c = ap length g in
          let d = ap length l ∙ length_more x s.loads in
          let e = k.all in
          omega (arith, a, b, c, d, e);
    }

    again_same : t.loads ≡ set s.loads place x → s.free ≡ t.free ++ place ∷ [] → all_loaded t.loads es ≡ all_loaded s.loads es
    again_same l f =
        let unused : uses place es ≡ 0 = free_within place (length s.loads) (uses place es) (count place t.free) (let a = k.each place in let b = ap (count place) f ∙ count_behind place place t.free in omega (arith, a, b)) in
        same_loads s.loads t.loads es (λ j h. ap (λ w. slice_get w j) l ∙ slice_set_other s.loads place j x (λ e. h (ap (λ i. uses i es) e ∙ unused)))

    behind_same : t.loads ≡ s.loads ++ x ∷ [] → all_loaded t.loads es ≡ all_loaded s.loads es
    behind_same l = same_loads s.loads t.loads es (λ j h. ap (λ w. slice_get w j) l ∙ slice_behind s.loads x j (within_used j (length s.loads) (uses j es) (count j s.free) (k.each j) h))

    puts_kept : Puts place x s t → Kept (insert (with_load (Some place)) es) t
    puts_kept (inl p) = again_kept p.1.0 p.1.1
    puts_kept (inr p) = behind_kept p.0.0 p.0.1 p.1.0 p.1.1

    puts_same : Puts place x s t → all_loaded t.loads es ≡ all_loaded s.loads es
    puts_same (inl p) = again_same p.1.0 p.1.1
    puts_same (inr p) = behind_same p.1.1

    puts_there : Puts place x s t → slice_get t.loads place ≡ Some x
    puts_there (inl p) = ap (λ w. slice_get w place) p.1.0 ∙ slice_set_here s.loads place x p.0
    puts_there (inr p) = ap (slice_get t.loads) p.1.0 ∙ ap (λ w. slice_get w (length s.loads)) p.1.1 ∙ slice_last s.loads x

    -- the place is free again, and all else as before
    puts_back : Puts place x s t → Kept es (freed (Some place) t)
    puts_back p =
        let q = puts_kept p in
        record {
          each = λ j.
              let a = uses_insert j (with_load (Some place)) es in
              let b = count_behind j place t.free in
              let c = q.each j in
              omega (arith, a, b, c);
          all =
              let a = loads_insert (with_load (Some place)) es in
              let b = length_behind place t.free in
              let c = q.all in
              omega (arith, a, b, c);
        }

    puts_takes : Puts place x s t → CanTake (Some place) t
    puts_takes p =
        let q = puts_kept p in
        let a = uses_insert place (with_load (Some place)) es in
        let b = loads_insert (with_load (Some place)) es in
        ((used_within place (length t.loads) (uses place es) (count place t.free) (let c = q.each place in omega (arith, a, c))).0, (let c = q.all in omega (arith, b, c)))

  pub stored_kept : (o : Option ℕ) (x : Option L) → Stores o x s t → Kept (insert (with_load o) es) t
  stored_kept None None p = subst (Kept (insert (with_load None) es)) (sym p) (record {
    each = λ j. let a = uses_insert j (with_load None) es in let c = k.each j in omega (arith, a, c);
    all = let a = loads_insert (with_load None) es in let c = k.all in omega (arith, a, c);
  })
  stored_kept None (Some x) p = absurd p
  stored_kept (Some place) None p = absurd p
  stored_kept (Some place) (Some x) p = puts_kept place x p

  stored_same : (o : Option ℕ) (x : Option L) → Stores o x s t → all_loaded t.loads es ≡ all_loaded s.loads es
  stored_same None None p = ap (λ (w : Store L). all_loaded w.loads es) p
  stored_same None (Some x) p = absurd p
  stored_same (Some place) None p = absurd p
  stored_same (Some place) (Some x) p = puts_same place x p

  stored_there : (o : Option ℕ) (x : Option L) → Stores o x s t → load_at t.loads o ≡ x
  stored_there None None p = refl
  stored_there None (Some x) p = absurd p
  stored_there (Some place) None p = absurd p
  stored_there (Some place) (Some x) p = puts_there place x p

  pub stored_list : (o : Option ℕ) (x : Option L) → Stores o x s t → all_loaded t.loads (insert (with_load o) es) ≡ insert (record { key = key; load = x }) (all_loaded s.loads es)
  stored_list o x p =
      loaded_insert t.loads (with_load o) es
      ∙ ap (λ w. insert (record { key = key; load = w }) (all_loaded t.loads es)) (stored_there o x p)
      ∙ ap (insert (record { key = key; load = x })) (stored_same o x p)

  pub stored_takes : (o : Option ℕ) (x : Option L) → Stores o x s t → CanTake o t
  stored_takes None x p = tt
  stored_takes (Some place) None p = absurd p
  stored_takes (Some place) (Some x) p = puts_takes place x p

  -- what was put is taken back
  pub back_kept : (o : Option ℕ) (x : Option L) → Stores o x s t → Kept es (freed o t)
  back_kept None None p = subst (Kept es) (sym p) k
  back_kept None (Some x) p = absurd p
  back_kept (Some place) None p = absurd p
  back_kept (Some place) (Some x) p = puts_back place x p

  pub back_list : (o : Option ℕ) (x : Option L) → Stores o x s t → all_loaded (freed o t).loads es ≡ all_loaded s.loads es
  back_list None x p = stored_same None x p
  back_list (Some place) x p = stored_same (Some place) x p

-- the first event and its load are taken
module _ {L : Type 0} (e : Event ℕ) (es : List (Event ℕ)) (s : Store L) (k : Kept (e ∷ es) s) where
  pub first_takes : CanTake e.load s
  first_takes = at e.load refl
    where
      at : (o : Option ℕ) → e.load ≡ o → CanTake o s
      at None q = tt
      at (Some place) q =
          let a = ap (use_of place) q in
          let b = ap has_load q in
          ((used_within place (length s.loads) (uses place es) (count place s.free) (let c = k.each place in omega (arith, a, c))).0, (let c = k.all in omega (arith, b, c)))

  pub first_kept : Kept es (freed e.load s)
  first_kept = at e.load refl
    where
      at : (o : Option ℕ) → e.load ≡ o → Kept es (freed o s)
      at None q = record {
        each = λ j. let a = ap (use_of j) q in let c = k.each j in omega (arith, a, c);
        all = let a = ap has_load q in let c = k.all in omega (arith, a, c);
      }
      at (Some place) q = record {
        each = λ j. let a = ap (use_of j) q in let b = count_behind j place s.free in let c = k.each j in omega (arith, a, b, c);
        all = let a = ap has_load q in let b = length_behind place s.free in let c = k.all in omega (arith, a, b, c);
      }

pub freed_loads : {L : Type 0} (o : Option ℕ) (s : Store L) → (freed o s).loads ≡ s.loads
freed_loads None s = refl
freed_loads (Some place) s = refl

-- ---- lists of all

pub listed_loaded : {L : Type 0} (list more : List (Event L)) (loads : List L) (e : Event ℕ) (o : Option L) (old new : List (Event ℕ)) (all : List (Event L)) → more ≡ list ++ record { key = e.key; load = o } ∷ [] → o ≡ load_at loads e.load → old ≡ e ∷ new → list ++ all_loaded loads old ≡ all → more ++ all_loaded loads new ≡ all
listed_loaded list more loads e o old new all m l t h =
    ap (λ w. w ++ all_loaded loads new) (m ∙ ap (λ (w : Option _). list ++ record { key = e.key; load = w } ∷ []) l)
    ∙ append_assoc list (loaded loads e ∷ []) (all_loaded loads new)
    ∙ ap (λ w. list ++ all_loaded loads w) (sym t)
    ∙ h

pub if_ok : {A E : Type 0} (r : Result A E) {P Q : A → Type 0} → IfOk r P → ((x : A) → P x → Q x) → IfOk r Q
if_ok (Ok x) p f = f x p
if_ok (Err e) p f = tt
