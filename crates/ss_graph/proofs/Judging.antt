-- The first fault of lists that are put together.
use Rattle.std.proofs.Common.{◌≡◌, List, [], ◌∷◌, ◌++◌, Bool, true, false, cond, Option, Some, None, Result, Err, refl}
use Rattle.ss_graph.specs.Checks.{Check, first_fault, Fails, Judged, Passes, or_else}

module _ {F : Type 0} where
  by_test : (b : Bool) (x y o : Option F) (f : F) → x ≡ or_else y o → cond b x (Some f) ≡ or_else (cond b y (Some f)) o
  by_test true x y o f e = e
  by_test false x y o f e = refl

  pub first_fault_append : (xs ys : List (Check F)) → first_fault (xs ++ ys) ≡ or_else (first_fault xs) (first_fault ys)
  unfolding first_fault
  first_fault_append [] ys = refl
  first_fault_append (c ∷ cs) ys = by_test c.holds _ _ _ c.fault (first_fault_append cs ys)

  front_by : (b : Bool) (e : F) (o p : Option F) → o ≡ cond b o (Some e) → or_else o p ≡ cond b (or_else o p) (Some e)
  front_by true e o p h = refl
  front_by false e o p h = rw h refl

  pub fails_front : (m : F → Bool) (e : F) (xs ys : List (Check F)) → Fails m e (first_fault xs) → Fails m e (first_fault (xs ++ ys))
  fails_front m e xs ys h = rw (first_fault_append xs ys) (front_by (m e) e (first_fault xs) (first_fault ys) h)

  pub fails_behind : (m : F → Bool) (e : F) (xs ys : List (Check F)) → first_fault xs ≡ None → Fails m e (first_fault ys) → Fails m e (first_fault (xs ++ ys))
  fails_behind m e xs ys n h = rw (first_fault_append xs ys, n) h

  -- what a `?` hands on
  pub exits : {X Y : Type 0} (m : F → Bool) (view : X → Y) (r : Result X F) (y : Y) (cs : List (Check F)) (e f : F) → r ≡ Err f → f ≡ e → Fails m e (first_fault cs) → Judged m view r cs y
  exits m view r y cs e f p q h = rw (p, q) h

  pub passes_exit : {X : Type 0} (m : F → Bool) (r : Result X F) (cs : List (Check F)) (e f : F) → r ≡ Err f → f ≡ e → Fails m e (first_fault cs) → Passes m r cs
  passes_exit m r cs e f p q h = rw (p, q) h

  pub passes : (xs ys : List (Check F)) → first_fault xs ≡ None → first_fault ys ≡ None → first_fault (xs ++ ys) ≡ None
  passes xs ys h k = rw (first_fault_append xs ys, h) k
