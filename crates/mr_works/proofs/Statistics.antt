-- What a value changes of statistics, by their names.
use Rattle.std.proofs.Common.{◌≡◌, ℕ, suc, ◌+◌, ◌<◌, ◌≤◌, Bool, true, false, cond, List, [], ◌∷◌, length, Option, Some, None, refl, sym, ap, ◌∙◌, arith}
use Rattle.std.specs.Prelude.{nat_lt, not, option_map, bytes_eq}
use Rattle.std.specs.List.{position_or_len}
use Rattle.std.proofs.lemmas.Bool.Decides.{nat_tests}
use Rattle.std.proofs.lemmas.Slice.Eq.{bytes_eq-Decides}
use Rattle.ss_stats.specs.Set.{Entry, with_value, place_of}
use Rattle.ss_tally.specs.Tally.{added, tallied}
use Rattle.mr_order.specs.Expected.{told_values}
use Rattle.mr_works.specs.Expected.{stat_in, stat_named}

less_true : (a b : ℕ) → a < b → nat_lt a b ≡ true
less_true a b h = grind (arith, nat_tests)

less_false : (a b : ℕ) → b ≤ a → nat_lt a b ≡ false
less_false a b h = grind (arith, nat_tests)

true_less : (a b : ℕ) → nat_lt a b ≡ true → a < b
true_less a b h = grind (arith, nat_tests)

false_less : (a b : ℕ) → nat_lt a b ≡ false → b ≤ a
false_less a b h = grind (arith, nat_tests)

abbrev place_at : ℕ → ℕ → Option ℕ
place_at m n = cond (nat_lt m n) (Some m) None

-- places behind an entry
place_behind : (m n : ℕ) → place_at (1 + m) (suc n) ≡ option_map suc (place_at m n)
place_behind m n = by_test (nat_lt m n) refl
  where
    by_test : (b : Bool) → nat_lt m n ≡ b → place_at (1 + m) (suc n) ≡ option_map suc (cond b (Some m) None)
    by_test true h =
        let l = true_less m n h in
        ap (λ t. cond {A = Option ℕ} t (Some (1 + m)) None) (less_true (1 + m) (suc n) (omega (arith, l))) ∙ ap (λ k. Some k) {x = 1 + m} {y = suc m} (omega arith)
    by_test false h = let l = false_less m n h in ap (λ t. cond {A = Option ℕ} t (Some (1 + m)) None) (less_false (1 + m) (suc n) (omega (arith, l)))

-- the place of a name is the first entry, or behind it
place_cons : (e : Entry) (set : List Entry) (name : List ℕ) → place_of (e ∷ set) name ≡ cond (bytes_eq e.0 name) (Some 0) (option_map suc (place_of set name))
place_cons e set name = by_test (bytes_eq e.0 name)
  where
    m : ℕ
    m = position_or_len (λ (x : Entry). bytes_eq x.0 name) set

    by_test : (b : Bool) → place_at (cond (not b) (1 + position_or_len (λ (x : Entry). bytes_eq x.0 name) set) 0) (suc (length set)) ≡ cond b (Some 0) (option_map suc (place_of set name))
    by_test true = ap (λ t. cond {A = Option ℕ} t (Some 0) None) (less_true 0 (suc (length set)) (omega arith))
    by_test false = place_behind (position_or_len (λ (x : Entry). bytes_eq x.0 name) set) (length set)

stat_behind : (e : Entry) (set : List Entry) (o : Option ℕ) → stat_in (e ∷ set) (option_map suc o) ≡ stat_in set o
stat_behind e set None = refl
stat_behind e set (Some i) = refl

added_behind : (e : Entry) (set : List Entry) (o : Option ℕ) (v : ℕ) → added (e ∷ set) (option_map suc o) v ≡ e ∷ added set o v
added_behind e set None v = refl
added_behind e set (Some i) v = refl

stat_cons : (e : Entry) (set : List Entry) (name : List ℕ) (b : Bool) → bytes_eq e.0 name ≡ b → stat_named (e ∷ set) name ≡ cond b (Some e.1) (stat_named set name)
stat_cons e set name true h = ap (stat_in (e ∷ set)) (place_cons e set name ∙ ap (λ b. cond b (Some 0) (option_map suc (place_of set name))) h)
stat_cons e set name false h = ap (stat_in (e ∷ set)) (place_cons e set name ∙ ap (λ b. cond b (Some 0) (option_map suc (place_of set name))) h) ∙ stat_behind e set (place_of set name)

tallied_cons : (e : Entry) (set : List Entry) (name : List ℕ) (v : ℕ) (b : Bool) → bytes_eq e.0 name ≡ b → tallied (e ∷ set) name v ≡ cond b ((e.0, with_value e.1 v) ∷ set) (e ∷ tallied set name v)
tallied_cons e set name v true h = ap (λ o. added (e ∷ set) o v) (place_cons e set name ∙ ap (λ b. cond b (Some 0) (option_map suc (place_of set name))) h)
tallied_cons e set name v false h = ap (λ o. added (e ∷ set) o v) (place_cons e set name ∙ ap (λ b. cond b (Some 0) (option_map suc (place_of set name))) h) ∙ added_behind e set (place_of set name) v

-- a statistic of another name stays
tallied_other : (set : List Entry) (a b : List ℕ) (v : ℕ) → bytes_eq a b ≡ false → stat_named (tallied set a v) b ≡ stat_named set b
tallied_other [] a b v apart = refl
tallied_other (e ∷ set) a b v apart = by_test (bytes_eq e.0 a) refl (tallied_other set a b v apart)
  where
    again : (t : Bool) → bytes_eq e.0 b ≡ t → stat_named (tallied set a v) b ≡ stat_named set b → stat_named (e ∷ tallied set a v) b ≡ stat_named (e ∷ set) b
    again t h ih = stat_cons e (tallied set a v) b t h ∙ ap (λ o. cond t (Some e.1) o) ih ∙ sym (stat_cons e set b t h)

    by_test : (t : Bool) → bytes_eq e.0 a ≡ t → stat_named (tallied set a v) b ≡ stat_named set b → stat_named (tallied (e ∷ set) a v) b ≡ stat_named (e ∷ set) b
    by_test true h ih =
        let other : bytes_eq e.0 b ≡ false = ap (λ z. bytes_eq z b) ((bytes_eq-Decides e.0 a).0 h) ∙ apart in
        ap (λ l. stat_named l b) (tallied_cons e set a v true h) ∙ stat_cons (e.0, with_value e.1 v) set b false other ∙ sym (stat_cons e set b false other)
    by_test false h ih = ap (λ l. stat_named l b) (tallied_cons e set a v false h) ∙ again (bytes_eq e.0 b) refl ih

-- and that of the name has the value more
tallied_same : (set : List Entry) (a : List ℕ) (v : ℕ) → stat_named (tallied set a v) a ≡ told_values (stat_named set a) (v ∷ [])
tallied_same [] a v = refl
tallied_same (e ∷ set) a v = by_test (bytes_eq e.0 a) refl (tallied_same set a v)
  where
    by_test : (t : Bool) → bytes_eq e.0 a ≡ t → stat_named (tallied set a v) a ≡ told_values (stat_named set a) (v ∷ []) → stat_named (tallied (e ∷ set) a v) a ≡ told_values (stat_named (e ∷ set) a) (v ∷ [])
    by_test true h ih =
        ap (λ l. stat_named l a) (tallied_cons e set a v true h) ∙ stat_cons (e.0, with_value e.1 v) set a true h ∙ sym (ap (λ o. told_values o (v ∷ [])) (stat_cons e set a true h))
    by_test false h ih =
        ap (λ l. stat_named l a) (tallied_cons e set a v false h) ∙ stat_cons e (tallied set a v) a false h ∙ ih ∙ sym (ap (λ o. told_values o (v ∷ [])) (stat_cons e set a false h))

-- so it is of values that are added at the place of a name
pub added_other : (set : List Entry) (o : Option ℕ) (a b : List ℕ) (v : ℕ) → o ≡ place_of set a → bytes_eq a b ≡ false → stat_named (added set o v) b ≡ stat_named set b
added_other set o a b v here apart = ap (λ p. stat_named (added set p v) b) here ∙ tallied_other set a b v apart

pub added_same : (set : List Entry) (o : Option ℕ) (a : List ℕ) (v : ℕ) → o ≡ place_of set a → stat_named (added set o v) a ≡ told_values (stat_named set a) (v ∷ [])
added_same set o a v here = ap (λ p. stat_named (added set p v) a) here ∙ tallied_same set a v
