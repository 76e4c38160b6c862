-- Elements that are put into the lists of their parts.
use Rattle.std.proofs.Common.{◌≡◌, ℕ, zero, suc, ◌+◌, ◌≤◌, List, [], ◌∷◌, ◌++◌, Bool, true, false, cond, eqb, Some, ◌⊎◌, refl, sym, ap, ◌∙◌, subst, arith, inl, inr, length, slice_index_or, map}
use Rattle.std.specs.Prelude.{slice_get, slice_index, slice_set, replicate}
use Rattle.std.proofs.lemmas.Bool.{cases_eq, eq-eqb, ne_eqb}
use Rattle.std.proofs.lemmas.List.{get_or-set_same, get_or-set_other, length-set, append-nil}
use Rattle.ss_worker.proofs.Batches.{map_set as set_map}
use Rattle.ss_parts.specs.Parts.{components_of}
use Rattle.ss_run.specs.declared.RunSpec.{RunSpec}
use Rattle.ss_worker.specs.Place.{Place, all_set, first, AllStandAt}
use Rattle.ss_worker.specs.Divided.{AreDivided, put_at, AreFirst}

module _ {S : Type 0} (part_of : ℕ → ℕ) (q : ℕ) (x : S) where
  comp_cons : (b : Bool) (k : ℕ) (y : S) (ys zs : List (ℕ × S)) → cond b ((k, y) ∷ (ys ++ zs)) (ys ++ zs) ≡ cond b ((k, y) ∷ ys) ys ++ zs
  comp_cons true k y ys zs = refl
  comp_cons false k y ys zs = refl

  comp_more : (k n : ℕ) (ys : List S) → n ≡ k + length ys → components_of part_of q k (ys ++ x ∷ []) ≡ components_of part_of q k ys ++ cond (eqb (part_of n) q) ((n, x) ∷ []) []
  comp_more k n [] e = let h : n ≡ k = omega (arith, e) in ap (λ j. cond (eqb (part_of j) q) ((j, x) ∷ []) []) (sym h)
  comp_more k n (y ∷ ys) e =
      let a = comp_more (k + 1) n ys (omega (arith, e)) in
      ap (λ l. cond (eqb (part_of k) q) ((k, y) ∷ l) l) a
      ∙ comp_cons (eqb (part_of k) q) k y (components_of part_of q (k + 1) ys) (cond (eqb (part_of n) q) ((n, x) ∷ []) [])

pub divided_none : {S : Type 0} (list : List ℕ) (parts : ℕ) (bins : List (List (ℕ × S))) → length bins ≡ parts → ((q : ℕ) → slice_index_or bins q [] ≡ []) → AreDivided list parts [] bins
divided_none list parts bins c e = record { count = c; each = λ q lt. e q }

pub divided_more : {S : Type 0} (list : List ℕ) (parts : ℕ) (ys : List S) (x : S) (n to : ℕ) (bins new : List (List (ℕ × S))) → n ≡ length ys → to ≡ slice_index list n → new ≡ put_at bins to (n, x) → AreDivided list parts ys bins → AreDivided list parts (ys ++ x ∷ []) new
divided_more {S} list parts ys x n to bins new en et e d = subst (λ b. AreDivided list parts (ys ++ x ∷ []) b) (sym e) (record {
  count = length-set bins to (slice_index_or bins to [] ++ (n, x) ∷ []) ∙ d.count;
  each = λ q lt. elim (cases_eq q to) [
    | inl same ↦
        ap (λ i. slice_index_or (put_at bins to (n, x)) i []) same ∙ get_or-set_same bins to (slice_index_or bins to [] ++ (n, x) ∷ []) [] (omega (arith, lt, same, d.count))
        ∙ ap (λ i. slice_index_or bins i [] ++ (n, x) ∷ []) (sym same) ∙ ap (λ l. l ++ (n, x) ∷ []) (d.each q lt)
        ∙ ap (λ b. components_of (slice_index list) q 0 ys ++ cond b ((n, x) ∷ []) []) (sym (eq-eqb (slice_index list n) q (sym et ∙ sym same)))
        ∙ sym (comp_more (slice_index list) q x 0 n ys (omega (arith, en)))
    | inr ne ↦
        get_or-set_other bins to q (slice_index_or bins to [] ++ (n, x) ∷ []) [] ne ∙ d.each q lt
        ∙ sym (append-nil (components_of (slice_index list) q 0 ys))
        ∙ ap (λ b. components_of (slice_index list) q 0 ys ++ cond b ((n, x) ∷ []) []) (sym (ne_eqb (slice_index list n) q (λ h. ne (sym (et ∙ h)))))
        ∙ sym (comp_more (slice_index list) q x 0 n ys (omega (arith, en)))
  ];
})

all_true : (n : ℕ) → all_set (replicate n true) ≡ true
all_true zero = refl
all_true (suc n) = all_true n

pub all_stand : (r : RunSpec) (ws : List Place) (n : ℕ) → n ≡ r.partition.parts → AreFirst r n ws → AllStandAt r 0 ws
all_stand r ws n e a = record {
  count = a.count ∙ e;
  each = λ p pl h.
      let is = a.each p pl h in
      record {
        run = ap (λ (x : Place). x.run) is;
        part = ap (λ (x : Place). x.part) is;
        windows = ap (λ (x : Place). x.windows) is;
        whole = record {
          alive = ap (λ (x : Place). x.failed) is;
          handed = ap (λ (x : Place). all_set x.handed) is ∙ all_true r.partition.parts;
          taken = ap (λ (x : Place). all_set x.taken) is ∙ all_true r.partition.parts;
        };
      };
}

pub length_back : {A : Type 0} (xs : List A) (x : A) → length (xs ++ x ∷ []) ≡ length xs + 1
length_back [] x = refl
length_back (y ∷ xs) x = let a = length_back xs x in omega (arith, a)

nothing_there : (r : RunSpec) (q : ℕ) (pl : Place) → slice_get [] q ≡ Some pl → pl ≡ first r q
nothing_there r zero pl h = absurd cc
nothing_there r (suc q) pl h = absurd cc

-- no worker yet
pub first_none : (r : RunSpec) (ws : List Place) → ws ≡ [] → AreFirst r 0 ws
first_none r ws e = subst (λ l. AreFirst r 0 l) (sym e) (record { count = refl; each = nothing_there r })

-- one worker more
get_back : {A : Type 0} (xs : List A) (x : A) (q : ℕ) (y : A) → slice_get (xs ++ x ∷ []) q ≡ Some y → (slice_get xs q ≡ Some y) ⊎ ((q ≡ length xs) × (x ≡ y))
get_back [] x zero y h = let e : x ≡ y = cc in inr (refl, e)
get_back [] x (suc q) y h = absurd cc
get_back (z ∷ xs) x zero y h = inl h
get_back (z ∷ xs) x (suc q) y h = elim (get_back xs x q y h) [
  | inl a ↦ inl a
  | inr b ↦ inr (ap suc b.0, b.1)
]

pub first_more : (r : RunSpec) (n : ℕ) (ws new : List Place) (w : Place) → new ≡ ws ++ w ∷ [] → w ≡ first r n → AreFirst r n ws → AreFirst r (n + 1) new
first_more r n ws new w e is a = subst (λ l. AreFirst r (n + 1) l) (sym e) (record {
  count = length_back ws w ∙ ap (λ k. k + 1) a.count;
  each = λ q pl h. elim (get_back ws w q pl h) [
    | inl x ↦ a.each q pl x
    | inr y ↦ sym y.1 ∙ is ∙ ap (first r) (sym a.count ∙ sym y.0)
  ];
})

pub set_stays : {V X : Type 0} (f : V → List X) (bs : List V) (i q : ℕ) (v : V) → i + 1 ≤ q → slice_index_or (map f (slice_set bs i v)) q [] ≡ slice_index_or (map f bs) q []
set_stays f bs i q v h = ap (λ l. slice_index_or l q []) (set_map f bs i v) ∙ get_or-set_other (map f bs) i q (f v) [] (λ e. omega (arith, e, h))
