-- Checkpoint times, by what a part knows of its run.
use Rattle.std.proofs.Common.{◌≡◌, ℕ, ◌+◌, ◌<◌, ◌≤◌, ◌⊎◌, inl, inr, List, [], ◌∷◌, ◌++◌, length, Option, Some, None, refl, sym, subst, arith}
use Rattle.std.specs.List.{All, Contains}
use Rattle.std.proofs.lemmas.List.Elements.{All-nil, All-head, All-tail, All-push, All-weaker, Contains-push, Contains-append_left}
use Rattle.ss_window.specs.declared.Cuts.{Cuts}
use Rattle.ss_window.specs.Cuts.{IsSave}
use Rattle.ss_window.specs.Least.{IsLeast}
use Rattle.ss_worker.specs.declared.known.Known.{Known}
use Rattle.ss_worker.specs.Knowing.{bound_of}
use Rattle.ss_worker.specs.Saves.{IsBy, IsDue, IsAscending, AreFirst, IsKnownSave}

-- ---- whether one is due

module _ (c : Cuts) (low : ℕ) where
  pub due_before : (s n : ℕ) → IsLeast (λ t. IsSave c t × (low ≤ t)) s → s ≤ n → IsDue c low (Some n) s
  due_before s n x h = record { save = x.member.0; from = x.member.1; upto = h }

  pub due_ever : (s : ℕ) → IsLeast (λ t. IsSave c t × (low ≤ t)) s → IsDue c low None s
  due_ever s x = record { save = x.member.0; from = x.member.1; upto = tt }

  pub due_late : (s n : ℕ) → IsLeast (λ t. IsSave c t × (low ≤ t)) s → n < s → (t : ℕ) → IsDue c low (Some n) t → ⊥
  due_late s n x h t d = let a = x.least t (d.save, d.from) in let b : t ≤ n = d.upto in absurd (omega (arith, a, b, h))

  pub due_never : (high : Option ℕ) → ((t : ℕ) → IsSave c t × (low ≤ t) → ⊥) → (t : ℕ) → IsDue c low high t → ⊥
  due_never high none t d = none t (d.save, d.from)

-- ---- the first of them

module _ (c : Cuts) (k : Known) (low : ℕ) where
  pub nothing_comes : k.next ≡ None → (t : ℕ) → IsKnownSave c k low t → ⊥
  nothing_comes e t x = subst (λ o. IsBy o t) e x.by

  pub none_asked : ((t : ℕ) → IsSave c t × (low ≤ t) → ⊥) → (t : ℕ) → IsKnownSave c k low t → ⊥
  none_asked none t x = none t (x.save, x.from)

  pub none_in_time : (n s : ℕ) → k.next ≡ Some n → IsLeast (λ t. IsSave c t × (low ≤ t)) s → n < s → (t : ℕ) → IsKnownSave c k low t → ⊥
  none_in_time n s e l h t x =
      let a = l.least t (x.save, x.from) in
      let b : t ≤ n = subst (λ o. IsBy o t) e x.by in
      absurd (omega (arith, a, b, h))

  pub none_below : (s : ℕ) → IsLeast (λ t. IsSave c t × (low ≤ t)) s → bound_of c k ≤ s → (t : ℕ) → IsKnownSave c k low t → ⊥
  none_below s l h t x = let a = l.least t (x.save, x.from) in let b = x.below in absurd (omega (arith, a, b, h))

  pub first_found : (n s : ℕ) → k.next ≡ Some n → IsLeast (λ t. IsSave c t × (low ≤ t)) s → s ≤ n → s < bound_of c k → IsLeast (IsKnownSave c k low) s
  first_found n s e l h b = record {
    member = record { save = l.member.0; from = l.member.1; by = subst (λ o. IsBy o s) (sym e) h; below = b };
    least = λ t x. l.least t (x.save, x.from);
  }

-- ---- one after another

ascending_more : (ts : List ℕ) (x : ℕ) → IsAscending ts → All (λ u. u < x) ts → IsAscending (ts ++ x ∷ [])
ascending_more [] x a h = (All-nil (λ u. x < u), tt)
ascending_more (t ∷ ts) x a h = (All-push (λ u. t < u) ts x a.0 (All-head (λ u. u < x) t ts h), ascending_more ts x a.1 (All-tail (λ u. u < x) t ts h))

pub length_more : (ts : List ℕ) (x : ℕ) → length (ts ++ x ∷ []) ≡ length ts + 1
length_more [] x = refl
length_more (t ∷ ts) x = let a = length_more ts x in omega (arith, a)

-- of the times from one on, those below another
pub record AreBelow (P : ℕ → Type 0) (at : ℕ) (ts : List ℕ) : Type 0 where
  pub each : All P ts
  pub ascending : IsAscending ts
  pub below : All (λ u. u < at) ts
  pub all : (t : ℕ) → P t → t < at → Contains ts t

module _ (c : Cuts) (k : Known) (low : ℕ) where
  pub none_yet : AreBelow (IsKnownSave c k low) low []
  none_yet = record {
    each = All-nil (IsKnownSave c k low);
    ascending = tt;
    below = All-nil (λ u. u < low);
    all = λ t x h. let a = x.from in absurd (omega (arith, a, h));
  }

  known_from : (at t : ℕ) → low ≤ at → IsKnownSave c k at t → IsKnownSave c k low t
  known_from at t le x = record { save = x.save; from = (let a = x.from in omega (arith, a, le)); by = x.by; below = x.below }

  known_at : (at t : ℕ) → at ≤ t → IsKnownSave c k low t → IsKnownSave c k at t
  known_at at t le x = record { save = x.save; from = le; by = x.by; below = x.below }

  pub one_more : (at s : ℕ) (ts : List ℕ) → low ≤ at → IsLeast (IsKnownSave c k at) s → AreBelow (IsKnownSave c k low) at ts → AreBelow (IsKnownSave c k low) (s + 1) (ts ++ s ∷ [])
  one_more at s ts le l b =
      let after : at ≤ s = l.member.from in
      let under : All (λ u. u < s) ts = All-weaker (λ u. u < at) (λ u. u < s) (λ u h. omega (arith, h, after)) ts b.below in
      record {
        each = All-push (IsKnownSave c k low) ts s b.each (known_from at s le l.member);
        ascending = ascending_more ts s b.ascending under;
        below = All-push (λ u. u < s + 1) ts s (All-weaker (λ u. u < s) (λ u. u < s + 1) (λ u h. omega (arith, h)) ts under) (omega arith);
        all = λ t x h. cases t x h (order t at);
      }
    where
      order : (x y : ℕ) → (x < y) ⊎ (y ≤ x)
      order x y = grind arith

      cases : (t : ℕ) → IsKnownSave c k low t → t < s + 1 → (t < at) ⊎ (at ≤ t) → Contains (ts ++ s ∷ []) t
      cases t x h (inl below) = Contains-append_left ts (s ∷ []) t (b.all t x below)
      cases t x h (inr above) =
          let least : s ≤ t = l.least t (known_at at t above x) in
          let same : s ≡ t = omega (arith, least, h) in
          subst (λ y. Contains (ts ++ s ∷ []) y) same (Contains-push ts s)

  above : (at t : ℕ) → (t < at) ⊎ (at ≤ t)
  above at t = grind arith

  -- where there are no more, they are all
  pub all_found : (at : ℕ) (ts : List ℕ) → length ts ≤ 1025 → ((t : ℕ) → IsKnownSave c k at t → ⊥) → AreBelow (IsKnownSave c k low) at ts → AreFirst (IsKnownSave c k low) 1025 ts
  all_found at ts few none b = record { each = b.each; ascending = b.ascending; few = few; all = λ t x. cases t x (above at t) } where
    cases : (t : ℕ) → IsKnownSave c k low t → (t < at) ⊎ (at ≤ t) → Contains ts t ⊎ ((length ts ≡ 1025) × All (λ u. u < t) ts)
    cases t x (inl h) = inl (b.all t x h)
    cases t x (inr h) = absurd (none t (known_at at t h x))

  pub many_found : (at : ℕ) (ts : List ℕ) → length ts ≡ 1025 → AreBelow (IsKnownSave c k low) at ts → AreFirst (IsKnownSave c k low) 1025 ts
  many_found at ts many b = record { each = b.each; ascending = b.ascending; few = omega (arith, many); all = λ t x. cases t x (above at t) } where
    cases : (t : ℕ) → IsKnownSave c k low t → (t < at) ⊎ (at ≤ t) → Contains ts t ⊎ ((length ts ≡ 1025) × All (λ u. u < t) ts)
    cases t x (inl h) = inl (b.all t x h)
    cases t x (inr h) = inr (many, All-weaker (λ u. u < at) (λ u. u < t) (λ u q. omega (arith, q, h)) ts b.below)
