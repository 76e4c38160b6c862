-- Two lists with their firsts: which of them comes first, and what is taken.
use Rattle.std.proofs.Common.{◌≡◌, ◌<◌, ◌≤◌, ◌⊎◌, inl, inr, Bool, true, false, not, cond, List, [], ◌∷◌, ◌++◌, Option, Some, None, refl, sym, ap, ◌∙◌, subst, arith, rules, length, get_or, Bor, append_assoc, Result, Ok, Err}
use Rattle.std.proofs.lemmas.Bool.{false≢true}
use Rattle.std.proofs.lemmas.List.Sorted.{IsPermutation-sym, IsPermutation-trans, IsPermutation-refl, IsPermutation-append_left, IsPermutation-append_right, IsPermutation-middle, IsPermutation-to_front}
use Rattle.std.specs.List.Sorted.{IsPermutation}
use Rattle.std.specs.Cmp.{IsTotalOrder, upto}
use Rattle.std.specs.Cmp.Rules.{comparing}
use Rattle.std.specs.Prelude.{slice_get}
use Rattle.std.specs.Result.{OnOk, OnErr}
use Rattle.std.specs.Option.{option_copied, option_to_list, MatchOption, IfSome, IfNone}
use Rattle.std.specs.Ordering.{is_lt, is_gt, ordering_reverse}
use Rattle.std.specs.declared.cmp.Ordering.{Ordering}
use Rattle.std.specs.declared.cmp.Ordering.TheVariants.{Less, Equal, Greater}
use Rattle.std.specs.BinaryHeap.{IsUpperBound}
use Rattle.ss_pending.specs.declared.filed.Filed.{Filed}
use Rattle.ss_pending.specs.Filed.{is_before, latest_first, In, AllBehind, Ascends, Different, in_order, events, IsFirst, FirstOf, LastOf, Takes, leads, first_of}
use Rattle.std.proofs.lemmas.Option.{IfSome_then}
use Rattle.ss_model.specs.declared.Event.{Event}
use Rattle.ss_pending.proofs.Sorting.{different_permutation, sorted_permutation, tells, asym, trans, behind, in_permutation, upper, upper_at}

turned : (s : Ordering) → is_gt (ordering_reverse s) ≡ is_lt s
turned Less = refl
turned Equal = refl
turned Greater = refl

yes : (b : Bool) → not b ≡ true → b ≡ false
yes true h = absurd (false≢true h)
yes false h = refl

no : (b : Bool) → not b ≡ false → b ≡ true
no true h = refl
no false h = absurd (false≢true (sym h))

pub on_ok : {A E : Type 0} (r : Result A E) {P Q : Type 0} → OnOk r P → (P → Q) → OnOk r Q
on_ok (Ok x) p f = f p
on_ok (Err e) p f = tt

pub of_err : {A E : Type 0} (r : Result A E) {P : Type 0} → P → OnErr r P
of_err (Ok x) p = tt
of_err (Err e) p = p

module _ {L : Type 0} where
  latest_total : IsTotalOrder (latest_first {L = L})
  latest_total = search (comparing, rules) depth 12

  tells_too : (x y : Filed L) → is_gt (latest_first x y) ≡ is_before x y
  tells_too x y = ap is_gt ((latest_total).antisymm x y) ∙ turned (latest_first y x) ∙ tells y x

  -- x is no later than y, and y than z
  pub chain : (x y z : Filed L) → is_before y x ≡ false → is_before z y ≡ false → is_before z x ≡ false
  chain x y z h k = sym (tells_too z x) ∙ upto latest_total z y x (tells_too z y ∙ k) (tells_too y x ∙ h)

  pub in_left : (z : Filed L) (xs ys : List (Filed L)) → In z xs → In z (xs ++ ys)
  in_left z [] ys i = absurd i
  in_left z (x ∷ xs) ys (inl e) = inl e
  in_left z (x ∷ xs) ys (inr i) = inr (in_left z xs ys i)

  pub in_right : (z : Filed L) (xs ys : List (Filed L)) → In z ys → In z (xs ++ ys)
  in_right z [] ys i = i
  in_right z (x ∷ xs) ys i = inr (in_right z xs ys i)

  pub in_either : (z : Filed L) (xs ys : List (Filed L)) → In z (xs ++ ys) → In z xs ⊎ In z ys
  in_either z [] ys i = inr i
  in_either z (x ∷ xs) ys (inl e) = inl (inl e)
  in_either z (x ∷ xs) ys (inr i) = more (in_either z xs ys i)
    where
      more : In z xs ⊎ In z ys → In z (x ∷ xs) ⊎ In z ys
      more (inl j) = inl (inr j)
      more (inr j) = inr j

  upper_both : (x : Filed L) (xs ys : List (Filed L)) → IsUpperBound latest_first x xs → IsUpperBound latest_first x ys → IsUpperBound latest_first x (xs ++ ys)
  upper_both x xs ys u v = upper x (xs ++ ys) (λ z i. at z (in_either z xs ys i))
    where
      at : (z : Filed L) → In z xs ⊎ In z ys → is_before z x ≡ false
      at z (inl i) = upper_at x z xs u i
      at z (inr i) = upper_at x z ys v i

  -- what comes no earlier than y comes no earlier than an x that is no later than y
  upper_chain : (x y : Filed L) (ys : List (Filed L)) → is_before y x ≡ false → IsUpperBound latest_first y ys → IsUpperBound latest_first x ys
  upper_chain x y ys h u = upper x ys (λ z i. chain x y z h (upper_at y z ys u i))

  upper_nil : (x : Filed L) (ys : List (Filed L)) → ys ≡ [] → IsUpperBound latest_first x ys
  upper_nil x [] e = tt
  upper_nil x (y ∷ ys) e = absurd (cc)

  -- a first of the list that leads comes before all of the other
  leading : (o p : Option (Filed L)) (xs ys : List (Filed L)) → FirstOf o xs → FirstOf p ys → leads o p ≡ true → (x : Filed L) → IsFirst x xs → IsUpperBound latest_first x ys
  leading None p xs ys f g h x i = absurd (false≢true h)
  leading (Some w) None xs ys f g h x i = upper_nil x ys g
  leading (Some w) (Some y) xs ys f g h x i = upper_chain x y ys (chain x w y (upper_at x w xs i.first f.is_there) (yes _ h)) g.first

  following : (o p : Option (Filed L)) (xs ys : List (Filed L)) → FirstOf o xs → FirstOf p ys → leads o p ≡ false → (y : Filed L) → IsFirst y ys → IsUpperBound latest_first y xs
  following None p xs ys f g h y i = upper_nil y xs f
  following (Some x) None xs ys f g h y i = absurd (false≢true (sym h))
  following (Some x) (Some w) xs ys f g h y i = upper_chain y x xs (chain y w x (upper_at y w ys i.first g.is_there) (asym w x (no _ h))) f.first

  first_left : (x : Filed L) (xs ys : List (Filed L)) → IsFirst x xs → IsUpperBound latest_first x ys → IsFirst x (xs ++ ys)
  first_left x xs ys f u = record { is_there = in_left x xs ys f.is_there; first = upper_both x xs ys f.first u }

  first_right : (y : Filed L) (xs ys : List (Filed L)) → IsFirst y ys → IsUpperBound latest_first y xs → IsFirst y (xs ++ ys)
  first_right y xs ys f u = record { is_there = in_right y xs ys f.is_there; first = upper_both y xs ys u f.first }

  pub first_of_both : (o p : Option (Filed L)) (xs ys : List (Filed L)) → FirstOf o xs → FirstOf p ys → FirstOf (first_of o p) (xs ++ ys)
  first_of_both None None xs ys f g = rw (f, g) refl
  first_of_both None (Some y) xs ys f g = first_right y xs ys g (upper_nil y xs f)
  first_of_both (Some x) None xs ys f g = first_left x xs ys f (upper_nil x ys g)
  first_of_both (Some x) (Some y) xs ys f g = put (not (is_before y x)) refl
    where
      put : (b : Bool) → not (is_before y x) ≡ b → FirstOf (cond b (Some x) (Some y)) (xs ++ ys)
      put true e = first_left x xs ys f (leading (Some x) (Some y) xs ys f g e x f)
      put false e = first_right y xs ys g (following (Some x) (Some y) xs ys f g e y g)

  pub taken_is_first : (x : Filed L) (xs ys : List (Filed L)) → Takes x xs ys → IsFirst x xs
  taken_is_first x xs ys t = record { is_there = in_permutation xs (x ∷ ys) x t.left (inl refl); first = upper x xs (λ z i. at z (in_permutation (x ∷ ys) xs z (IsPermutation-sym xs (x ∷ ys) t.left) i)) }
    where
      itself : is_before x x ≡ false
      itself = put (is_before x x) refl
        where
          put : (b : Bool) → is_before x x ≡ b → is_before x x ≡ false
          put true e = asym x x e
          put false e = e

      at : (z : Filed L) → In z (x ∷ ys) → is_before z x ≡ false
      at z (inl e) = ap (λ w. is_before w x) e ∙ itself
      at z (inr i) = upper_at x z ys t.first i

  module _ (o p : Option (Filed L)) (xs ys : List (Filed L)) (f : FirstOf o xs) (g : FirstOf p ys) where
    pub takes_left : leads o p ≡ true → (x : Filed L) (zs : List (Filed L)) → Takes x xs zs → Takes x (xs ++ ys) (zs ++ ys)
    takes_left h x zs t = record {
      left = IsPermutation-append_left ys xs (x ∷ zs) t.left;
      first = upper_both x zs ys t.first (leading o p xs ys f g h x (taken_is_first x xs zs t));
    }

    pub takes_right : leads o p ≡ false → (y : Filed L) (zs : List (Filed L)) → Takes y ys zs → Takes y (xs ++ ys) (xs ++ zs)
    takes_right h y zs t = record {
      left = IsPermutation-trans (xs ++ ys) (xs ++ y ∷ zs) (y ∷ (xs ++ zs)) (IsPermutation-append_right xs ys (y ∷ zs) t.left) (IsPermutation-middle xs y zs);
      first = upper_both y xs zs (following o p xs ys f g h y (taken_is_first y ys zs t)) t.first;
    }

  pub puts_left : (x : Filed L) (xs ys zs : List (Filed L)) → IsPermutation (x ∷ xs) zs → IsPermutation (x ∷ (xs ++ ys)) (zs ++ ys)
  puts_left x xs ys zs p = IsPermutation-append_left ys (x ∷ xs) zs p

  pub puts_right : (x : Filed L) (xs ys zs : List (Filed L)) → IsPermutation (x ∷ ys) zs → IsPermutation (x ∷ (xs ++ ys)) (xs ++ zs)
  puts_right x xs ys zs p = IsPermutation-trans (x ∷ (xs ++ ys)) (xs ++ x ∷ ys) (xs ++ zs) (IsPermutation-sym (xs ++ x ∷ ys) (x ∷ (xs ++ ys)) (IsPermutation-middle xs x ys)) (IsPermutation-append_right xs (x ∷ ys) zs p)

  pub puts_behind : (x : Filed L) (xs ys zs : List (Filed L)) → zs ≡ xs ++ x ∷ [] → IsPermutation (x ∷ (xs ++ ys)) (zs ++ ys)
  puts_behind x xs ys zs e = puts_left x xs ys zs (subst (IsPermutation (x ∷ xs)) (sym e) (IsPermutation-sym (xs ++ x ∷ []) (x ∷ xs) (IsPermutation-to_front xs x)))

  -- ---- runs

  nothing : (xs : List (Filed L)) → length xs ≤ 0 → xs ≡ []
  nothing [] h = refl
  nothing (x ∷ xs) h = absurd (omega arith)

  run_first : (x : Filed L) (ys : List (Filed L)) → AllBehind x ys → IsUpperBound latest_first x ys
  run_first x ys b = upper x ys (λ z i. asym x z (behind x z ys b i))

  itself_upper : (x y : Filed L) → x ≡ y → is_lt (latest_first x y) ≡ false
  itself_upper x y e = tells x y ∙ put (is_before y x) refl
    where
      put : (b : Bool) → is_before y x ≡ b → is_before y x ≡ false
      put true h = let k = asym y x h in absurd (false≢true (sym k ∙ subst (λ w. is_before w y ≡ true) (sym e) (subst (λ w. is_before y w ≡ true) e h)))
      put false h = h

  pub top_first_of : (Q : Bor (Filed L) → Type 0) (r : Option (Bor (Filed L))) (xs : List (Filed L)) → IfSome r (λ x. IsUpperBound latest_first x.now xs) → IfSome r (λ x. x.now ≡ get_or xs 0 x.now) → MatchOption r (length xs ≤ 0) (λ x. (0 < length xs) × Q x) → FirstOf (option_copied r) xs
  top_first_of Q None xs u l m = nothing xs m
  top_first_of Q (Some x) [] u l m = absurd (omega (arith, m.0))
  top_first_of Q (Some x) (y ∷ ys) u l m = record { is_there = inl l; first = u }

  pub first_front : (o : Option (Filed L)) (xs : List (Filed L)) → Ascends xs → o ≡ slice_get xs 0 → FirstOf o xs
  first_front None [] a e = refl
  first_front None (x ∷ xs) a e = absurd (cc)
  first_front (Some x) [] a e = absurd (cc)
  first_front (Some x) (y ∷ ys) a e =
      let same : x ≡ y = cc in
      record { is_there = inl same; first = (itself_upper x y same, subst (λ w. IsUpperBound latest_first w ys) (sym same) (run_first y ys a.0)) }

  pub front_taken : (x : Filed L) (xs ys : List (Filed L)) → xs ≡ x ∷ ys → Ascends xs → Takes x xs ys × Ascends ys
  front_taken x [] ys e a = absurd (cc)
  front_taken x (y ∷ zs) ys e a =
      let b : Ascends (x ∷ ys) = subst Ascends e a in
      (record { left = subst (λ ws. IsPermutation ws (x ∷ ys)) (sym e) (IsPermutation-refl (x ∷ ys)); first = run_first x ys b.0 }, b.1)

  behind_push : (y x : Filed L) (ys : List (Filed L)) → is_before y x ≡ true → AllBehind y ys → AllBehind y (ys ++ x ∷ [])
  behind_push y x [] h b = (h, tt)
  behind_push y x (z ∷ zs) h b = (b.0, behind_push y x zs h b.1)

  -- what comes behind the last ascends, too
  pub ascends_behind : (ys : List (Filed L)) (l x : Filed L) → Ascends (ys ++ l ∷ []) → is_before l x ≡ true → Ascends ((ys ++ l ∷ []) ++ x ∷ [])
  ascends_behind [] l x a h = ((h, tt), (tt, tt))
  ascends_behind (y ∷ ys) l x a h =
      (behind_push y x (ys ++ l ∷ []) (trans y l x (behind y l (ys ++ l ∷ []) a.0 (in_right l ys (l ∷ []) (inl refl))) h) a.0, ascends_behind ys l x a.1 h)

  pub last_ascends : (l x : Filed L) (xs : List (Filed L)) → LastOf (Some l) xs → Ascends xs → is_before l x ≡ true → Ascends (xs ++ x ∷ [])
  last_ascends l x xs t a h = subst (λ ws. Ascends (ws ++ x ∷ [])) (sym t.1) (ascends_behind t.0 l x (subst Ascends t.1 a) h)

  pub front_takes : (r : Option (Filed L)) (xs ys : List (Filed L)) → xs ≡ option_to_list r ++ ys → Ascends xs → IfSome r (λ x. Takes x xs ys)
  front_takes None xs ys e a = tt
  front_takes (Some x) xs ys e a = (front_taken x xs ys e a).0

  -- ---- lanes, as which their two lists are seen

  pub lane_first : (r o p : Option (Filed L)) (xs ys all : List (Filed L)) → r ≡ first_of o p → xs ++ ys ≡ all → FirstOf o xs → FirstOf p ys → FirstOf r all
  lane_first r o p xs ys all e v f g = subst (λ q. FirstOf q all) (sym e) (subst (FirstOf (first_of o p)) v (first_of_both o p xs ys f g))

  pub lane_put_behind : (x : Filed L) (xs ys zs all : List (Filed L)) → xs ++ ys ≡ all → zs ≡ xs ++ x ∷ [] → IsPermutation (x ∷ all) (zs ++ ys)
  lane_put_behind x xs ys zs all v e = subst (λ w. IsPermutation (x ∷ w) (zs ++ ys)) v (puts_behind x xs ys zs e)

  pub lane_put : (x : Filed L) (xs ys zs all : List (Filed L)) → xs ++ ys ≡ all → IsPermutation (x ∷ ys) zs → IsPermutation (x ∷ all) (xs ++ zs)
  lane_put x xs ys zs all v p = subst (λ w. IsPermutation (x ∷ w) (xs ++ zs)) v (puts_right x xs ys zs p)

  module _ (r o p : Option (Filed L)) (xs ys zs : List (Filed L)) (f : FirstOf o xs) (g : FirstOf p ys) (b : Bool) (e : b ≡ leads o p) where
    pub lane_take_left : b ≡ true → (all : List (Filed L)) → xs ++ ys ≡ all → IfSome r (λ x. Takes x xs zs) → IfSome r (λ x. Takes x all (zs ++ ys))
    lane_take_left h all v t = IfSome_then r t (λ x u. subst (λ w. Takes x w (zs ++ ys)) v (takes_left o p xs ys f g (sym e ∙ h) x zs u))

    pub lane_take_right : b ≡ false → (all : List (Filed L)) → xs ++ ys ≡ all → IfSome r (λ x. Takes x ys zs) → IfSome r (λ x. Takes x all (xs ++ zs))
    lane_take_right h all v t = IfSome_then r t (λ x u. subst (λ w. Takes x w (xs ++ zs)) v (takes_right o p xs ys f g (sym e ∙ h) x zs u))

  -- what holds of a list holds of what is left of it
  pub kept : (P : List (Filed L) → Type 0) → ((x : Filed L) (old new : List (Filed L)) → Takes x old new → P old → P new) → (r : Option (Filed L)) (old new : List (Filed L)) → IfSome r (λ x. Takes x old new) → IfNone r (new ≡ old) → P old → P new
  kept P keeps None old new t n h = subst P (sym n) h
  kept P keeps (Some x) old new t n h = keeps x old new t h

  -- ---- lists of all

  pub record Copies (all heap : List (Filed L)) : Type 0 where
    pub different : Different heap
    pub same : in_order heap ≡ in_order all

  pub copies : (all none both heap : List (Filed L)) → none ≡ [] → both ≡ none ++ all → IsPermutation both heap → Different all → Copies all heap
  copies all none both heap e h p d =
      let same : both ≡ all = h ∙ ap (λ w. w ++ all) e in
      let q : IsPermutation all heap = subst (λ w. IsPermutation w heap) same p in
      record { different = different_permutation all heap q d; same = ap events (sym (sorted_permutation all heap q d)) }

  pub listed_one : (list more : List (Event L)) (x : Filed L) (old new : List (Filed L)) (all : List (Event L)) → more ≡ list ++ x.event ∷ [] → in_order old ≡ x.event ∷ in_order new → list ++ in_order old ≡ all → more ++ in_order new ≡ all
  listed_one list more x old new all m t h =
      ap (λ w. w ++ in_order new) m ∙ append_assoc list (x.event ∷ []) (in_order new) ∙ ap (λ w. list ++ w) (sym t) ∙ h
