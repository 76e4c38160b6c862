-- Wires that hold still do when they gain an entry that fits.
use Rattle.std.proofs.Common.{◌≡◌, ℕ, zero, suc, ◌+◌, ◌^◌, ◌<◌, ◌≤◌, ◌⊎◌, inl, inr, Bool, true, false, ◌&&◌, cond, eqb, List, [], ◌∷◌, ◌++◌, length, Option, Some, None, refl, sym, ap, ◌∙◌, subst, arith}
use Rattle.std.specs.Prelude.{slice_get}
use Rattle.std.proofs.lemmas.Bool.{eq-eqb}
use Rattle.ss_model.specs.declared.LinkLine.{LinkLine}
use Rattle.ss_model.specs.declared.InnerLine.{InnerLine}
use Rattle.ss_model.specs.declared.InnerLine.TheVariants as inner
use Rattle.ss_model.specs.Wiring.{Wiring, clock_from, LinksFit, InnerFits, InnersFit}
use Rattle.ss_element.specs.Index.{first_of, with_link, with_inner}
use Rattle.ss_element.proofs.Places.{clock_from-append, clock_here}
use Rattle.ss_safe.specs.Safe.{owner, InnersEnd, ClocksApart, WiresHold}
use Rattle.ss_safe.specs.Kept.Found.{some_same, none_some}

-- a place of a list with one element more is one of the list, or the last
last_or : {X : Type 0} (xs : List X) (y : X) (n : ℕ) (x : X) → slice_get (xs ++ y ∷ []) n ≡ Some x → (slice_get xs n ≡ Some x) ⊎ ((n ≡ length xs) × (y ≡ x))
last_or [] y zero x h = inr (refl, some_same h)
last_or [] y (suc n) x h = absurd (none_some h)
last_or (z ∷ xs) y zero x h = inl h
last_or (z ∷ xs) y (suc n) x h = more (last_or xs y n x h)
  where
    more : (slice_get xs n ≡ Some x) ⊎ ((n ≡ length xs) × (y ≡ x)) → (slice_get xs n ≡ Some x) ⊎ ((suc n ≡ length (z ∷ xs)) × (y ≡ x))
    more (inl g) = inl g
    more (inr g) = inr (omega (arith, g.0), g.1)

LinksFit-append : (ls : List LinkLine) (l : LinkLine) → LinksFit ls → 1 ≤ l.latency → l.latency ≤ 2 ^ 40 → LinksFit (ls ++ l ∷ [])
LinksFit-append [] l h low high = (low, high, tt)
LinksFit-append (x ∷ ls) l h low high = (h.0, h.1, LinksFit-append ls l h.2 low high)

InnersFit-append : (ls : List InnerLine) (l : InnerLine) → InnersFit ls → InnerFits l → InnersFit (ls ++ l ∷ [])
InnersFit-append [] l h f = (f, tt)
InnersFit-append (x ∷ ls) l h f = (h.0, InnersFit-append ls l h.1 f)

pub hold_none : (count : ℕ) → WiresHold (record { links = []; inner = [] }) count
hold_none count = record {
  fits = record { links = tt; inner = tt };
  ends = λ n l h. absurd (none_some h);
  owned = λ n l h. absurd (none_some h);
  apart = λ d c i period h. absurd (none_some h);
}

-- a link line to a component
pub hold_link : (w : Wiring) (count : ℕ) (l : LinkLine) → WiresHold w count → l.receiver < count → 1 ≤ l.latency → l.latency ≤ 2 ^ 40 → WiresHold (with_link w l) count
hold_link w count l hold below low high = record {
  fits = record { links = LinksFit-append w.links l hold.fits.links low high; inner = hold.fits.inner };
  ends = λ n k h. at_place n k (last_or w.links l n k h);
  owned = hold.owned;
  apart = hold.apart;
}
  where
    at_place : (n : ℕ) (k : LinkLine) → (slice_get w.links n ≡ Some k) ⊎ ((n ≡ length w.links) × (l ≡ k)) → k.receiver < count
    at_place n k (inl g) = hold.ends n k g
    at_place n k (inr g) = subst (λ (j : LinkLine). j.receiver < count) g.1 below

-- lines of components, and one of a component more
owned_more : (ls : List InnerLine) (l : InnerLine) (count : ℕ) → InnersEnd count ls → owner l < count → InnersEnd count (ls ++ l ∷ [])
owned_more ls l count hold below n k h = at_place (last_or ls l n k h)
  where
    at_place : (slice_get ls n ≡ Some k) ⊎ ((n ≡ length ls) × (l ≡ k)) → owner k < count
    at_place (inl g) = hold n k g
    at_place (inr g) = subst (λ (j : InnerLine). owner j < count) g.1 below

-- what is found stays found, with one line more
kept_found : (ls : List InnerLine) (l : InnerLine) → ClocksApart ls → (d c i period : ℕ) → slice_get ls d ≡ Some (inner.Clock c i period) → clock_from 0 (ls ++ l ∷ []) c i ≡ Some (d, period)
kept_found ls l apart d c i period h = clock_from-append 0 ls l c i ∙ ap (λ o. first_of o (clock_here (0 + length ls) l c i)) (apart d c i period h)

-- a self line
pub hold_own : (w : Wiring) (count d j : ℕ) → WiresHold w count → d < count → WiresHold (with_inner w (inner.Own d j)) count
hold_own w count d j hold below = record {
  fits = record { links = hold.fits.links; inner = InnersFit-append w.inner (inner.Own d j) hold.fits.inner tt };
  ends = hold.ends;
  owned = owned_more w.inner (inner.Own d j) count hold.owned below;
  apart = λ n c i period h. at_place n c i period (last_or w.inner (inner.Own d j) n (inner.Clock c i period) h);
}
  where
    at_place : (n c i period : ℕ) → (slice_get w.inner n ≡ Some (inner.Clock c i period)) ⊎ ((n ≡ length w.inner) × (inner.Own d j ≡ inner.Clock c i period)) → clock_from 0 (w.inner ++ inner.Own d j ∷ []) c i ≡ Some (n, period)
    at_place n c i period (inl g) = kept_found w.inner (inner.Own d j) hold.apart n c i period g
    at_place n c i period (inr g) = let e = g.1 in absurd (cc)

-- a clock of a component and an index that have none
pub hold_clock : (w : Wiring) (count d j period : ℕ) → WiresHold w count → d < count → clock_from 0 w.inner d j ≡ None → 1 ≤ period → period ≤ 2 ^ 40 → WiresHold (with_inner w (inner.Clock d j period)) count
hold_clock w count d j period hold below new low high = record {
  fits = record { links = hold.fits.links; inner = InnersFit-append w.inner (inner.Clock d j period) hold.fits.inner (low, high) };
  ends = hold.ends;
  owned = owned_more w.inner (inner.Clock d j period) count hold.owned below;
  apart = λ n c i p h. at_place n c i p (last_or w.inner (inner.Clock d j period) n (inner.Clock c i p) h);
}
  where
    here : clock_from 0 (w.inner ++ inner.Clock d j period ∷ []) d j ≡ Some (length w.inner, period)
    here =
        clock_from-append 0 w.inner (inner.Clock d j period) d j
        ∙ ap (λ o. first_of o (clock_here (0 + length w.inner) (inner.Clock d j period) d j)) new
        ∙ at_tests (eqb d d) (eqb j j) (eq-eqb d d refl) (eq-eqb j j refl)
      where
        at_tests : (a b : Bool) → a ≡ true → b ≡ true → cond {A = Option (ℕ × ℕ)} (a && b) (Some (0 + length w.inner, period)) None ≡ Some (length w.inner, period)
        at_tests true true x y = ap (λ k. Some (k, period)) {x = 0 + length w.inner} {y = length w.inner} (omega arith)
        at_tests true false x y = absurd (cc)
        at_tests false b x y = absurd (cc)

    at_place : (n c i p : ℕ) → (slice_get w.inner n ≡ Some (inner.Clock c i p)) ⊎ ((n ≡ length w.inner) × (inner.Clock d j period ≡ inner.Clock c i p)) → clock_from 0 (w.inner ++ inner.Clock d j period ∷ []) c i ≡ Some (n, p)
    at_place n c i p (inl g) = kept_found w.inner (inner.Clock d j period) hold.apart n c i p g
    at_place n c i p (inr g) =
        let e = g.1 in
        let a : d ≡ c = cc in
        let b : j ≡ i = cc in
        let r : period ≡ p = cc in
        ap (λ k. clock_from 0 (w.inner ++ inner.Clock d j period ∷ []) k i) (sym a)
        ∙ ap (λ k. clock_from 0 (w.inner ++ inner.Clock d j period ∷ []) d k) (sym b)
        ∙ here
        ∙ ap (λ k. Some (k, period)) (sym g.0)
        ∙ ap (λ q. Some (n, q)) r
