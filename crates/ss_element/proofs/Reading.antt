-- Statistics, read one after another in place.
use Rattle.std.proofs.Common.{◌≡◌, ℕ, zero, suc, ◌+◌, ◌<◌, ◌≤◌, List, [], ◌∷◌, length, take, drop, set, Option, Some, None, Result, Ok, Err, refl, sym, ap, ◌∙◌, arith}
use Rattle.std.specs.Prelude.{slice_get}
use Rattle.ss_wire.specs.Wire.{Cursor}
use Rattle.ss_wire.specs.Form.{Form, each}
use Rattle.ss_wire.proofs.Loops.{with_front, goes_on, ends}
use Rattle.ss_element.specs.declared.fault.RestoreFault.{RestoreFault}
use Rattle.ss_element.specs.Gives.{put_at}

none_past : {X : Type 0} (xs : List X) (i : ℕ) → slice_get xs i ≡ None → length xs ≤ i
none_past [] i e = omega arith
none_past (x ∷ xs) zero e = absurd cc
none_past (x ∷ xs) (suc i) e = let h = none_past xs i e in omega (arith, h)

-- what is within a list has an element there
pub there : {X : Type 0} (xs : List X) (i : ℕ) → i < length xs → (x : X) × (slice_get xs i ≡ Some x)
there xs i h = at_place (slice_get xs i) refl
  where
    at_place : (o : Option _) → slice_get xs i ≡ o → (x : _) × (slice_get xs i ≡ Some x)
    at_place None e = absurd (let past = none_past xs i e in omega arith)
    at_place (Some x) e = (x, e)

put_ok : {X : Type 0} (xs ys : List X) (i : ℕ) (d : Cursor) (r : Result (X × Cursor) RestoreFault) → put_at xs i r ≡ Ok (ys, d) → (x : X) × (r ≡ Ok (x, d)) × (ys ≡ set xs i x)
put_ok xs ys i d (Ok x) h = let e : ◌≡◌ {A = List _ × Cursor} (set xs i x.0, x.1) (ys, d) = cc in (x.0, ap (λ c. Ok (x.0, c)) (ap (λ p. p.1) e), sym (ap (λ p. p.0) e))
put_ok xs ys i d (Err f) h = absurd cc

put_err : {X : Type 0} (xs : List X) (i : ℕ) (f : RestoreFault) (r : Result (X × Cursor) RestoreFault) → put_at xs i r ≡ Err f → r ≡ Err f
put_err xs i f (Ok x) h = absurd cc
put_err xs i f (Err e) h = cc

module _ {X : Type 0} (form : X → Form RestoreFault X) where
  -- one more was read
  pub one_more : (xs ys : List X) (i : ℕ) (c d : Cursor) (total : Result (List X × Cursor) RestoreFault) → i < length xs →
      ((x : X) → slice_get xs i ≡ Some x → put_at xs i ((form x).read c) ≡ Ok (ys, d)) →
      with_front (take i xs) ((each form (drop i xs)).read c) ≡ total →
      with_front (take (i + 1) ys) ((each form (drop (i + 1) ys)).read d) ≡ total
  one_more xs ys i c d total h f so_far =
      let here = there xs i h in
      let was = put_ok xs ys i d ((form here.0).read c) (f here.0 here.1) in
      ap (λ l. with_front (take (i + 1) l) ((each form (drop (i + 1) l)).read d)) was.2
      ∙ sym (goes_on form xs i here.0 was.0 c d here.1 was.1) ∙ so_far

  -- one could not be read
  pub no_more : (xs : List X) (i : ℕ) (c : Cursor) (e : RestoreFault) (total : Result (List X × Cursor) RestoreFault) → i < length xs →
      ((x : X) → slice_get xs i ≡ Some x → put_at xs i ((form x).read c) ≡ Err e) →
      with_front (take i xs) ((each form (drop i xs)).read c) ≡ total → total ≡ Err e
  no_more xs i c e total h f so_far =
      let here = there xs i h in
      sym so_far ∙ ends form xs i here.0 e c here.1 (put_err xs i e ((form here.0).read c) (f here.0 here.1))

  -- where a bin or a statistic was read into its place
  pub one_set : (xs ys : List X) (i : ℕ) (x : X) (c d : Cursor) (total : Result (List X × Cursor) RestoreFault) → i < length xs →
      ((y : X) → (form y).read c ≡ Ok (x, d)) → ys ≡ set xs i x →
      with_front (take i xs) ((each form (drop i xs)).read c) ≡ total →
      with_front (take (i + 1) ys) ((each form (drop (i + 1) ys)).read d) ≡ total
  one_set xs ys i x c d total h f is so_far =
      let here = there xs i h in
      ap (λ l. with_front (take (i + 1) l) ((each form (drop (i + 1) l)).read d)) is
      ∙ sym (goes_on form xs i here.0 x c d here.1 (f here.0)) ∙ so_far

  pub none_read : (xs : List X) (i : ℕ) (c : Cursor) (e : RestoreFault) (total : Result (List X × Cursor) RestoreFault) → i < length xs →
      ((y : X) → (form y).read c ≡ Err e) →
      with_front (take i xs) ((each form (drop i xs)).read c) ≡ total → total ≡ Err e
  none_read xs i c e total h f so_far =
      let here = there xs i h in
      sym so_far ∙ ends form xs i here.0 e c here.1 (f here.0)
