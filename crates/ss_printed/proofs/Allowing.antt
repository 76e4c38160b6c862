-- Of checkpoints that come one after another, with none left out, those that the limits allow are the run's.
use Rattle.std.proofs.Common.{◌≡◌, ℕ, zero, suc, ◌+◌, ◌<◌, ◌⊎◌, inl, inr, Bool, true, false, List, [], ◌∷◌, length, Option, Some, None, refl, sym, ap, ◌∙◌, subst, arith}
use Rattle.std.specs.Prelude.{if◌then◌else◌, nat_lt}
use Rattle.std.proofs.lemmas.Bool.{ltb-true}
use Rattle.ss_model.specs.End.{Outcome}
use Rattle.ss_element.specs.Kind.{Kind}
use Rattle.ss_element.specs.Saving.{Saving}
use Rattle.ss_graph.specs.declared.fault.LimitKind.{LimitKind}
use Rattle.ss_run.specs.Meaning.{Meaning}
use Rattle.ss_course.specs.Course.{Course, IsDueAt}
use Rattle.ss_course.specs.Kept.{Kept, Mark, mark_after, mark_of, passed, most_bytes, most_kept, IsNext, AreKept, NoneLeft}
use Rattle.ss_printed.specs.Printed.{allowed, allowed_by, stop, stop_by}
use Rattle.ss_printed.proofs.Following.{Follow}

-- ---- where a time stands among checkpoints

-- it is the time of one
abbrev pub Has : List Kept → ℕ → Type 0
Has [] u = ⊥
Has (k ∷ ks) u = (k.time ≡ u) ⊎ Has ks u

-- so many of the first are earlier
abbrev pub Behind : ℕ → List Kept → ℕ → Type 0
Behind zero ks u = Unit {0}
Behind (suc n) [] u = ⊥
Behind (suc n) (k ∷ ks) u = (k.time < u) × Behind n ks u

-- all are earlier
abbrev pub AreBefore : List Kept → ℕ → Type 0
AreBefore [] u = Unit {0}
AreBefore (k ∷ ks) u = (k.time < u) × AreBefore ks u

-- a time is one of theirs, or so many are earlier, or all are, where that may be
abbrev pub Covered : Type 0 → ℕ → List Kept → ℕ → Type 0
Covered Q room ks u = Has ks u ⊎ (Behind room ks u ⊎ (AreBefore ks u × Q))

-- a checkpoint that comes first is no later than any time that is covered
not_before : (Q : Type 0) (room : ℕ) (k : Kept) (ks : List Kept) (u : ℕ) → (Has ks u → k.time < u) → Covered Q (suc room) (k ∷ ks) u → u < k.time → ⊥
not_before Q room k ks u later (inl (inl e)) lt = omega (arith, e, lt)
not_before Q room k ks u later (inl (inr h)) lt = let a = later h in omega (arith, a, lt)
not_before Q room k ks u later (inr (inl b)) lt = let a = b.0 in omega (arith, a, lt)
not_before Q room k ks u later (inr (inr b)) lt = let a = b.0.0 in omega (arith, a, lt)

still_covered : (Q : Type 0) (room : ℕ) (k : Kept) (ks : List Kept) (u : ℕ) → k.time < u → Covered Q (suc room) (k ∷ ks) u → Covered Q room ks u
still_covered Q room k ks u lt (inl (inl e)) = absurd (omega (arith, e, lt))
still_covered Q room k ks u lt (inl (inr h)) = inl h
still_covered Q room k ks u lt (inr (inl b)) = inr (inl b.1)
still_covered Q room k ks u lt (inr (inr b)) = inr (inr (b.0.1, b.1))

-- ---- limits

some_none : {A : Type 0} (x : A) → Some x ≡ None → ⊥
some_none x e = cc

none_some : {A : Type 0} (x : A) → None ≡ Some x → ⊥
none_some x e = cc

same_parts : {A B : Type 0} (p q : A × B) → Some p ≡ Some q → (p.0 ≡ q.0) × (p.1 ≡ q.1)
same_parts {A} {B} p q e = (ap (λ (o : Option (A × B)). or_first o) e, ap (λ (o : Option (A × B)). or_second o) e) where
  or_first : Option (A × B) → A
  or_first None = p.0
  or_first (Some x) = x.0

  or_second : Option (A × B) → B
  or_second None = p.1
  or_second (Some x) = x.1

few_by : {A : Type 0} (a b : Bool) (x y : A) → (if a then Some x else (if b then None else Some y)) ≡ None → b ≡ true
few_by true b x y e = absurd (some_none x e)
few_by false true x y e = refl
few_by false false x y e = absurd (some_none y e)

-- behind fewer than 1,024 others
few : (count size : ℕ) → passed count size ≡ None → count < 1024
few count size e = ltb-true count 1024 (few_by (nat_lt most_bytes size) (nat_lt count most_kept) _ _ e)

module _ {S L : Type 0} (kind : Kind S L) (saving : Saving S L) (m : Meaning S L) (c : Course) (o : Outcome) where
  has_later : (at : Mark) (ks : List Kept) (u : ℕ) → Follow kind saving m c o at ks → Has ks u → at.time < u
  has_later at [] u f h = absurd h
  has_later at (k ∷ ks) u f (inl e) = let a = f.0.later in omega (arith, a, e)
  has_later at (k ∷ ks) u f (inr h) = let a = f.0.later in let b : k.time < u = has_later (mark_after at k) ks u f.1 h in omega (arith, a, b)

  -- of all checkpoints these are allowed, and this one passes a limit, if one does; where none does none is left, but for times
  -- behind them all where those may be
  pub record AreAllowed (Q : Type 0) (at : Mark) (ks all : List Kept) (stopped : Option (Kept × (LimitKind × ℕ))) : Type 0 where
    pub kept : AreKept kind saving m c o at all
    pub stops : (next : Kept) (what : LimitKind) (n : ℕ) → stopped ≡ Some (next, (what, n)) → IsNext kind saving m c o (mark_of at all) next × (passed (mark_of at all).count (length next.bytes) ≡ Some (what, n))
    pub whole : stopped ≡ None → all ≡ ks
    pub none : stopped ≡ None → (Q → ⊥) → NoneLeft kind saving m c o (mark_of at ks)

  pub all_allowed : (Q : Type 0) (room : ℕ) (at : Mark) (ks : List Kept) → at.count + room ≡ 1024 → Follow kind saving m c o at ks → ((u n : ℕ) → at.time < u → IsDueAt kind m c o u n → Covered Q (suc room) ks u) →
      AreAllowed Q at ks (allowed at.count ks) (stop at.count ks)
  all_allowed Q room at [] e f covered = record {
    kept = tt;
    stops = λ next what n none. absurd (none_some (next, (what, n)) none);
    whole = λ none. refl;
    none = λ none never u n lt due. last u (covered u n lt due) never;
  } where
    last : (u : ℕ) → Covered Q (suc room) [] u → (Q → ⊥) → ⊥
    last u (inl h) never = h
    last u (inr (inl b)) never = b
    last u (inr (inr b)) never = never b.1
  all_allowed Q room at (k ∷ ks) e f covered =
      go (λ r same lt. all_allowed Q r (mark_after at k) ks (omega (arith, same, e)) f.1
      (λ u n after due. still_covered Q (suc r) k ks u after (subst (λ (i : ℕ). Covered Q (suc i) (k ∷ ks) u) same (covered u n (let a = f.0.later in omega (arith, a, after)) due))))
      (passed at.count (length k.bytes)) refl where
        next_is : IsNext kind saving m c o at k
        next_is = record {
          steps = f.0.steps;
          due = f.0.due;
          later = f.0.later;
          first = λ u n lt before due. not_before Q room k ks u (λ h. has_later (mark_after at k) ks u f.1 h) (covered u n lt due) before;
          lines = f.0.lines;
          bytes = f.0.bytes;
        }

        go_on : ((r : ℕ) → room ≡ suc r → at.count < 1024 → AreAllowed Q (mark_after at k) ks (allowed (suc at.count) ks) (stop (suc at.count) ks)) → (r : ℕ) → room ≡ r → at.count < 1024 → AreAllowed Q (mark_after at k) ks (allowed (suc at.count) ks) (stop (suc at.count) ks)
        go_on next zero same lt = absurd (omega (arith, same, lt, e))
        go_on next (suc r) same lt = next r same lt

        go : ((r : ℕ) → room ≡ suc r → at.count < 1024 → AreAllowed Q (mark_after at k) ks (allowed (suc at.count) ks) (stop (suc at.count) ks)) → (p : Option (LimitKind × ℕ)) → passed at.count (length k.bytes) ≡ p → AreAllowed Q at (k ∷ ks) (allowed_by p k (allowed (suc at.count) ks)) (stop_by p k (stop (suc at.count) ks))
        go next None is =
            let rest = go_on next room refl (few at.count (length k.bytes) is) in
            record {
              kept = (next_is, is, rest.kept);
              stops = λ next what n some. rest.stops next what n some;
              whole = λ none. ap (λ l. k ∷ l) (rest.whole none);
              none = λ none never. rest.none none never;
            }
        go next (Some l) is = record {
          kept = tt;
          stops = λ next what n some.
              let same = same_parts (k, l) (next, (what, n)) some in
              (subst (IsNext kind saving m c o at) same.0 next_is, ap (λ (x : Kept). passed at.count (length x.bytes)) (sym same.0) ∙ (is ∙ ap Some same.1));
          whole = λ none. absurd (some_none (k, l) none);
          none = λ none never. absurd (some_none (k, l) none);
        }
