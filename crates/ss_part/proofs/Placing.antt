-- The first place at which a test passes, and lists of part numbers that are below the number of parts.
use Rattle.std.proofs.Common.{◌≡◌, ℕ, ◌*◌, ◌/◌, ◌%◌, ◌<◌, ◌≤◌, Bool, true, false, not, cond, List, [], length, map, get_or, refl, arith, Option, Some, None}
use Rattle.std.specs.Prelude.{position, unwrap_or, replicate, nat_lt}
use Rattle.std.specs.List.{position_or_len, range_with_len}
use Rattle.std.proofs.lemmas.Bool.Decides.{nat_tests}
use Rattle.std.proofs.lemmas.List.Sums.{position_or_len_is, fails_before_first}
use Rattle.std.proofs.lemmas.List.{get_or-replicate, length-replicate, length-map}
use Rattle.std.proofs.lemmas.List.FromFn.{get_or-map-range_with_len, length-map-range_with_len}
use Rattle.std.proofs.lemmas.Nat.{div_below}
use Rattle.std.proofs.Math.ListN.{get_or-map}
use Rattle.ss_graph.specs.declared.graph.Part.{Part}
use Rattle.ss_part.specs.Assigned.{is_placed}
use Rattle.ss_part.specs.Division.{AreBelow}

module _ {X : Type 0} (p : X → Bool) (xs : List X) where
  -- the first place at which the test passes
  pub position_here : (i : ℕ) (x : X) → i < length xs → ((k : ℕ) (d : X) → k < i → p (get_or xs k d) ≡ false) → x ≡ get_or xs i x → p x ≡ true → position p xs ≡ Some i
  position_here i x h before is here =
      let e = position_or_len_is p xs i x (omega arith) (λ k. before k x) (λ _. rw (← is) here) in
      let t : nat_lt i (length xs) ≡ true = grind (arith, nat_tests) in
      rw (e, t) refl

  -- no such place
  pub position_nowhere : (d : X) → ((k : ℕ) (d : X) → k < length xs → p (get_or xs k d) ≡ false) → position p xs ≡ None
  position_nowhere d none =
      let e = position_or_len_is p xs (length xs) d (omega arith) (λ k. none k d) (λ h. absurd (omega arith)) in
      let t : nat_lt (length xs) (length xs) ≡ false = grind (arith, nat_tests) in
      rw (e, t) refl

  past : (b : Bool) (n m : ℕ) → b ≡ nat_lt n m → cond b (Some n) None ≡ None → m ≤ n
  past true n m e h = absurd cc
  past false n m e h = grind (arith, nat_tests)

  pub fails_all : position p xs ≡ None → (k : ℕ) (d : X) → k < length xs → p (get_or xs k d) ≡ false
  fails_all none k d h =
      let m = past _ (position_or_len p xs) (length xs) refl none in
      fails_before_first p xs k d (omega arith)

-- a component of which nothing is known
abbrev pub no_part : Part
no_part = record { name = []; kind = []; params = []; stats = []; thread = None; input_latency = 0; output_latency = 0 }

pub linear_below : (n p : ℕ) → 0 < p → AreBelow (map (λ c. c * p / n) (range_with_len 0 n)) p
linear_below n p h = record { below = λ c within. let i : c < n = rw (length-map-range_with_len (λ c. c * p / n) 0 n) at within in rw (get_or-map-range_with_len (λ c. c * p / n) 0 n c c 0 i (omega arith)) (div_below (c * p) n p (omega arith) (grind arith)) }

pub in_turn_below : (n p : ℕ) → 0 < p → AreBelow (map (λ c. c % p) (range_with_len 0 n)) p
in_turn_below n p h = record { below = λ c within. let i : c < n = rw (length-map-range_with_len (λ c. c % p) 0 n) at within in rw (get_or-map-range_with_len (λ c. c % p) 0 n c c 0 i (omega arith)) (omega arith) }

abbrev zero_part : ℕ
zero_part = 0

pub single_below : (n p : ℕ) → 0 < p → AreBelow (replicate n 0) p
single_below n p h = record { below = λ c within. let i : c < n = rw (length-replicate n zero_part) at within in rw (get_or-replicate n c zero_part zero_part i) h }

below_by : (o : Option ℕ) (p : ℕ) → not (Rattle.std.specs.Option.option_map_or (λ t. nat_lt t p) o false) ≡ false → unwrap_or o 0 < p
below_by None p h = absurd cc
below_by (Some t) p h = grind (arith, nat_tests)

pub named_below : (xs : List Part) (p : ℕ) → position (λ c. not (is_placed p c)) xs ≡ None → AreBelow (map (λ c. unwrap_or c.thread 0) xs) p
unfolding is_placed
named_below xs p none = record { below = λ c within. let i : c < length xs = rw (length-map xs (λ c. unwrap_or c.thread 0)) at within in rw (get_or-map (λ c. unwrap_or c.thread 0) xs c no_part) (below_by (get_or xs c no_part).thread p (fails_all (λ c. not (is_placed p c)) xs none c no_part i)) }
