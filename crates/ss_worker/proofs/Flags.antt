-- Flags of parts, and what the flagged parts tell together.
use Rattle.std.proofs.Common.{◌≡◌, ℕ, zero, suc, ◌<◌, inl, inr, Bool, true, false, ◌&&◌, ◌||◌, eqb, List, [], ◌∷◌, ◌++◌, length, Option, Some, None, refl, sym, ap, ◌∙◌, arith, append_assoc, min}
use Rattle.std.specs.Prelude.{slice_set, replicate}
use Rattle.std.proofs.lemmas.Bool.{cases_Bool, cases_eq, and_parts, eq-eqb, eqb-true}
use Rattle.std.proofs.lemmas.List.{get_or-set_same, get_or-set_other, append-nil}
use Rattle.ss_theory.specs.Queue.{has, IsOnce, batches, insert, insert_all}
use Rattle.ss_theory.specs.Rounds.{sooner, soonest, all_of}
use Rattle.ss_worker.specs.Place.{all_set, only}
use Rattle.ss_worker.specs.Sound.{heard}

pub heard_all : (fs : List Bool) → all_set fs ≡ true → (j : ℕ) → heard fs j ≡ true
heard_all [] h j = refl
heard_all (b ∷ fs) h zero = (and_parts b (all_set fs) h).0
heard_all (b ∷ fs) h (suc j) = heard_all fs (and_parts b (all_set fs) h).1 j

pub heard_same : (fs : List Bool) (g : ℕ) → g < length fs → heard (slice_set fs g true) g ≡ true
heard_same fs g h = get_or-set_same fs g true true h

pub heard_other : (fs : List Bool) (g j : ℕ) → (j ≡ g → ⊥) → heard (slice_set fs g true) j ≡ heard fs j
heard_other fs g j h = get_or-set_other fs g j true true h

all_true : (n j : ℕ) → heard (replicate n true) j ≡ true
all_true zero j = refl
all_true (suc n) zero = refl
all_true (suc n) (suc j) = all_true n j

pub heard_none : (n j : ℕ) → j < n → heard (replicate n false) j ≡ false
heard_none zero j h = absurd (omega arith)
heard_none (suc n) zero h = refl
heard_none (suc n) (suc j) h = heard_none n j (omega arith)

pub length_flags : (n : ℕ) (b : Bool) → length (replicate n b) ≡ n
length_flags zero b = refl
length_flags (suc n) b = ap suc (length_flags n b)

pub only_own : (n p : ℕ) → p < n → heard (only n p) p ≡ true
only_own n p h = heard_same (replicate n false) p (omega (arith, length_flags n false))

pub only_others : (n p j : ℕ) → j < n → (j ≡ p → ⊥) → heard (only n p) j ≡ false
only_others n p j h ne = heard_other (replicate n false) p j ne ∙ heard_none n j h

pub every_flag : (n j : ℕ) → heard (replicate n true) j ≡ true
every_flag n j = all_true n j

-- ---- the soonest of the flagged

sooner_none : (a : Option ℕ) → sooner a None ≡ a
sooner_none None = refl
sooner_none (Some x) = refl

min_swap : (x y z : ℕ) → min (min x y) z ≡ min (min x z) y
min_swap x y z = grind arith

min_comm : (x y : ℕ) → min x y ≡ min y x
min_comm x y = grind arith

sooner_swap : (a b c : Option ℕ) → sooner (sooner a b) c ≡ sooner (sooner a c) b
sooner_swap None None None = refl
sooner_swap None None (Some z) = refl
sooner_swap None (Some y) None = refl
sooner_swap None (Some y) (Some z) = ap (λ x. Some x) (min_comm y z)
sooner_swap (Some x) None None = refl
sooner_swap (Some x) None (Some z) = refl
sooner_swap (Some x) (Some y) None = refl
sooner_swap (Some x) (Some y) (Some z) = ap (λ x. Some x) (min_swap x y z)

pub soonest_same : (n : ℕ) (f g : ℕ → Option ℕ) → ((j : ℕ) → j < n → f j ≡ g j) → soonest n f ≡ soonest n g
soonest_same zero f g h = refl
soonest_same (suc n) f g h = ap (λ a. sooner a (f n)) (soonest_same n f g (λ j lt. h j (omega arith))) ∙ ap (sooner (soonest n g)) (h n (omega arith))

pub soonest_more : (n p : ℕ) (f g : ℕ → Option ℕ) → p < n → f p ≡ None → ((j : ℕ) → j < n → (j ≡ p → ⊥) → g j ≡ f j) → soonest n g ≡ sooner (soonest n f) (g p)
soonest_more zero p f g h e same = absurd (omega arith)
soonest_more (suc n) p f g h e same =
    elim (cases_eq p n) [
      | inl q ↦
          ap (λ a. sooner a (g n)) (soonest_same n g f (λ j lt. same j (omega arith) (λ x. omega (arith, x, q, lt))))
          ∙ ap (λ j. sooner (soonest n f) (g j)) (sym q)
          ∙ ap (λ a. sooner a (g p)) (sym (sooner_none (soonest n f)) ∙ ap (sooner (soonest n f)) (sym (sym (ap f q) ∙ e)))
      | inr ne ↦
          ap (λ a. sooner a (g n)) (soonest_more n p f g (omega (arith, h, ne)) e (λ j lt x. same j (omega arith) x))
          ∙ sooner_swap (soonest n f) (g p) (g n)
          ∙ ap (λ a. sooner (sooner (soonest n f) a) (g p)) (same n (omega arith) (λ x. ne (sym x)))
    ]

soonest_none : (n : ℕ) → soonest n (λ j. None) ≡ None
soonest_none zero = refl
soonest_none (suc n) = ap (λ a. sooner a None) (soonest_none n)

pub soonest_one : (n p : ℕ) (g : ℕ → Option ℕ) → p < n → ((j : ℕ) → j < n → (j ≡ p → ⊥) → g j ≡ None) → soonest n g ≡ g p
soonest_one n p g h same = soonest_more n p (λ j. None) g h refl same ∙ ap (λ a. sooner a (g p)) (soonest_none n)

-- ---- all of the flagged

and_true : (a : Bool) → (a && true) ≡ a
and_true true = refl
and_true false = refl

and_swap : (a b c : Bool) → ((a && b) && c) ≡ ((a && c) && b)
and_swap true true true = refl
and_swap true true false = refl
and_swap true false true = refl
and_swap true false false = refl
and_swap false true true = refl
and_swap false true false = refl
and_swap false false true = refl
and_swap false false false = refl

pub all_same : (n : ℕ) (f g : ℕ → Bool) → ((j : ℕ) → j < n → f j ≡ g j) → all_of n f ≡ all_of n g
all_same zero f g h = refl
all_same (suc n) f g h = ap (λ a. a && f n) (all_same n f g (λ j lt. h j (omega arith))) ∙ ap (λ a. all_of n g && a) (h n (omega arith))

pub all_more : (n p : ℕ) (f g : ℕ → Bool) → p < n → f p ≡ true → ((j : ℕ) → j < n → (j ≡ p → ⊥) → g j ≡ f j) → all_of n g ≡ (all_of n f && g p)
all_more zero p f g h e same = absurd (omega arith)
all_more (suc n) p f g h e same =
    elim (cases_eq p n) [
      | inl q ↦
          ap (λ a. a && g n) (all_same n g f (λ j lt. same j (omega arith) (λ x. omega (arith, x, q, lt))))
          ∙ ap (λ j. all_of n f && g j) (sym q)
          ∙ ap (λ a. a && g p) (sym (and_true (all_of n f)) ∙ ap (λ a. all_of n f && a) (sym (sym (ap f q) ∙ e)))
      | inr ne ↦
          ap (λ a. a && g n) (all_more n p f g (omega (arith, h, ne)) e (λ j lt x. same j (omega arith) x))
          ∙ and_swap (all_of n f) (g p) (g n)
          ∙ ap (λ a. (all_of n f && a) && g p) (same n (omega arith) (λ x. ne (sym x)))
    ]

all_none : (n : ℕ) → all_of n (λ j. true) ≡ true
all_none zero = refl
all_none (suc n) = ap (λ a. a && true) (all_none n)

pub all_one : (n p : ℕ) (g : ℕ → Bool) → p < n → ((j : ℕ) → j < n → (j ≡ p → ⊥) → g j ≡ true) → all_of n g ≡ g p
all_one n p g h same = all_more n p (λ j. true) g h refl same ∙ ap (λ a. a && g p) (all_none n)

-- ---- one giver more

pub has_more : (js : List ℕ) (g j : ℕ) → has (js ++ g ∷ []) j ≡ (has js j || eqb g j)
has_more [] g j = or_false (eqb g j) where
  or_false : (b : Bool) → (b || false) ≡ b
  or_false true = refl
  or_false false = refl
has_more (i ∷ js) g j = ap (λ b. eqb i j || b) (has_more js g j) ∙ sym (or_assoc (eqb i j) (has js j) (eqb g j)) where
  or_assoc : (a b c : Bool) → ((a || b) || c) ≡ (a || (b || c))
  or_assoc true b c = refl
  or_assoc false b c = refl

pub once_more : (js : List ℕ) (g : ℕ) → IsOnce js → has js g ≡ false → IsOnce (js ++ g ∷ [])
once_more [] g o h = (refl, tt)
once_more (i ∷ js) g o h =
    (has_more js g i ∙ ap (λ b. b || eqb g i) o.0 ∙ apart i g (first (eqb i g) (has js g) h), once_more js g o.1 (second (eqb i g) (has js g) h))
  where
    first : (a b : Bool) → (a || b) ≡ false → a ≡ false
    first true b h = absurd cc
    first false b h = refl

    second : (a b : Bool) → (a || b) ≡ false → b ≡ false
    second true b h = absurd cc
    second false b h = h

    apart : (x y : ℕ) → eqb x y ≡ false → eqb y x ≡ false
    apart x y h = elim (cases_Bool (eqb y x)) [
      | inl t ↦ let e : y ≡ x = eqb-true y x t in let k : true ≡ false = sym (eq-eqb x y (sym e)) ∙ h in absurd cc
      | inr n ↦ n
    ]

pub batches_more : {E : Type 0} (f : ℕ → List E) (js : List ℕ) (g : ℕ) → batches f (js ++ g ∷ []) ≡ batches f js ++ f g
batches_more f [] g = append-nil (f g)
batches_more f (j ∷ js) g = ap (λ xs. f j ++ xs) (batches_more f js g) ∙ sym (append_assoc (f j) (batches f js) (f g))

pub insert_more : {E : Type 0} (lt : E → E → Bool) (us bs xs : List E) → insert_all lt (us ++ bs) xs ≡ insert_all lt bs (insert_all lt us xs)
insert_more lt [] bs xs = refl
insert_more lt (a ∷ us) bs xs = insert_more lt us bs (insert lt a xs)
