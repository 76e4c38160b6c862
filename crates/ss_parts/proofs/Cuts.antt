-- The cuts of a run are the least of their sets.
use Rattle.std.proofs.Common.{◌≡◌, ℕ, ◌+◌, ◌*◌, ◌/◌, ◌%◌, ◌^◌, ◌<◌, ◌≤◌, min, max, Bool, cond, Option, Some, None, refl, sym, subst, arith, inl, inr, ◌⊎◌}
use Rattle.std.proofs.lemmas.Bool.{cases_lt, lt-ltb, le-ltb}
use Rattle.std.proofs.lemmas.Nat.{div-add-mod'}
use Rattle.std.proofs.Math.Nat.{add-mul, mul-le-mul_right, lt_of_mul-lt-mul_right, mod-lt}
use Rattle.ss_model.specs.Step.{next_multiple}
use Rattle.ss_window.specs.declared.Cuts.{Cuts}
use Rattle.ss_window.specs.Least.{IsLeast, IsFirst, IsMultiple, OnPeriod, IsIn, Above}
use Rattle.ss_window.specs.Cuts.{IsNamed, MayEnd, ahead, bounded, asked, saved, MayStop, IsSpan, SpanFits, CutsFit}
use Rattle.ss_window.specs.Earlier.{earlier_of}
use Rattle.ss_theory.specs.Rounds.{CuttingLaws, Asking, AskingLaws}
use Rattle.ss_parts.specs.Cutting.{multiple_above, named_above, lesser_of, save_above, cut_of, known_of, cutting}

-- ---- least numbers

-- a set has one least number
pub one_least : (P : ℕ → Type 0) (a b : ℕ) → IsLeast P a → IsLeast P b → a ≡ b
one_least P a b x y = let p : a ≤ b = x.least b y.member in let q : b ≤ a = y.least a x.member in omega arith

least_map : (P Q : ℕ → Type 0) (n : ℕ) → ((t : ℕ) → P t → Q t) → ((t : ℕ) → Q t → P t) → IsLeast P n → IsLeast Q n
least_map P Q n f g x = record { member = f n x.member; least = λ m q. x.least m (g m q) }

first_map : (P Q : ℕ → Type 0) (o : Option ℕ) → ((t : ℕ) → P t → Q t) → ((t : ℕ) → Q t → P t) → IsFirst P o → IsFirst Q o
first_map P Q None f g x = λ m q. x m (g m q)
first_map P Q (Some n) f g x = least_map P Q n f g x

module _ (P Q : ℕ → Type 0) where
  abbrev Or : ℕ → Type 0
  Or t = P t ⊎ Q t

  least_or : (n m : ℕ) → IsLeast P n → IsLeast Q m → IsLeast Or (min n m)
  least_or n m x y =
      elim (cases_lt m n) [
        | inl lt ↦ let e : m ≡ min n m = omega arith in
            subst (IsLeast Or) e (record { member = inr y.member; least = λ t h. elim h [ inl p ↦ let a : n ≤ t = x.least t p in omega arith | inr q ↦ y.least t q ] })
        | inr le ↦ let e : n ≡ min n m = omega arith in
            subst (IsLeast Or) e (record { member = inl x.member; least = λ t h. elim h [ inl p ↦ x.least t p | inr q ↦ let a : m ≤ t = y.least t q in omega arith ] })
      ]

  lesser_or : (n : ℕ) (o : Option ℕ) → IsLeast P n → IsFirst Q o → IsLeast Or (lesser_of n o)
  lesser_or n None x y = record { member = inl x.member; least = λ t h. elim h [ inl p ↦ x.least t p | inr q ↦ absurd (y t q) ] }
  lesser_or n (Some m) x y = least_or n m x y

  first_or : (a b : Option ℕ) → IsFirst P a → IsFirst Q b → IsFirst Or (earlier_of a b)
  first_or None None x y = λ t h. elim h [ inl p ↦ x t p | inr q ↦ y t q ]
  first_or None (Some m) x y = record { member = inr y.member; least = λ t h. elim h [ inl p ↦ absurd (x t p) | inr q ↦ y.least t q ] }
  first_or (Some n) None x y = record { member = inl x.member; least = λ t h. elim h [ inl p ↦ x.least t p | inr q ↦ absurd (y t q) ] }
  first_or (Some n) (Some m) x y = least_or n m x y

-- the least multiple above a time
multiple_least : (period t : ℕ) → 1 ≤ period → IsLeast (Above (IsMultiple period) t) (next_multiple t period)
multiple_least period t one =
    let d : t / period * period + t % period ≡ t = div-add-mod' t period in
    let r : t % period < period = mod-lt t (omega arith) in
    let s : (t / period + 1) * period ≡ t / period * period + 1 * period = add-mul (t / period) 1 period in
    let u : 1 * period ≡ period = omega arith in
    record {
      member = (record { times = t / period + 1; is = omega arith }, omega arith);
      least = λ m h.
          let k = h.0.times in
          let e : m ≡ k * period = h.0.is in
          let above : t < m = h.1 in
          let less : t / period * period < k * period = omega arith in
          let more : t / period < k = lt_of_mul-lt-mul_right period less in
          let le : (t / period + 1) * period ≤ k * period = mul-le-mul_right period (omega arith) in
          omega arith;
    }

pub multiple_first : (o : Option ℕ) (t : ℕ) → SpanFits o → IsFirst (Above (OnPeriod o) t) (multiple_above o t)
multiple_first None t f = λ m h. h.0
multiple_first (Some period) t f = multiple_least period t f.0

named_first : (o : Option ℕ) (t : ℕ) → IsFirst (Above (IsIn o) t) (named_above o t)
named_first None t = λ m h. h.0
named_first (Some at) t =
    let F : Bool → Type 0 = λ b. IsFirst (Above (IsIn (Some at)) t) (cond b (Some at) None) in
    elim (cases_lt t at) [
      | inl lt ↦ subst F (sym (lt-ltb t at lt)) (record { member = (refl, lt); least = λ m h. let e : m ≡ at = h.0 in omega arith })
      | inr le ↦ subst F (sym (le-ltb t at le)) (λ m h. let e : m ≡ at = h.0 in let b : t < m = h.1 in omega arith)
    ]

module _ (c : Cuts) (f : CutsFit c) where
  save_first : (t : ℕ) → IsFirst (Above (IsNamed c) t) (save_above c t)
  save_first t =
      first_map (Or (Above (IsIn c.save_at) t) (Above (OnPeriod c.save_every) t)) (Above (IsNamed c) t) (save_above c t)
      (λ m h. elim h [ inl p ↦ (inl p.0, p.1) | inr q ↦ (inr q.0, q.1) ])
      (λ m h. elim h.0 [ inl p ↦ inl (p, h.1) | inr q ↦ inr (q, h.1) ])
      (first_or (Above (IsIn c.save_at) t) (Above (OnPeriod c.save_every) t) (named_above c.save_at t) (multiple_above c.save_every t) (named_first c.save_at t) (multiple_first c.save_every t f.save_every))

  equals_least : (a : ℕ) → IsLeast (λ t. t ≡ a) a
  equals_least a = record { member = refl; least = λ m h. omega arith }

  -- the end of a window
  pub cut_least : (look least bound : ℕ) → IsLeast (MayEnd least look bound c) (cut_of look c least bound)
  cut_least look least bound =
      let A : ℕ → Type 0 = λ t. t ≡ least + look in
      let B : ℕ → Type 0 = λ t. t ≡ bound in
      let C : ℕ → Type 0 = Above (OnPeriod c.exit) least in
      let D : ℕ → Type 0 = Above (IsNamed c) (max least c.origin) in
      let there : (t : ℕ) → Or (Or A B) (Or C D) t → MayEnd least look bound c t
      = λ t h. elim h [
        | inl near ↦ elim near [ inl p ↦ ahead p | inr p ↦ bounded p ]
        | inr far ↦ elim far [ inl p ↦ asked p | inr p ↦ let lt : max least c.origin < t = p.1 in saved ((p.0, omega arith), omega arith) ]
      ] in
      let back : (t : ℕ) → MayEnd least look bound c t → Or (Or A B) (Or C D) t
      = λ t h. elim h [
        | ahead p ↦ inl (inl p)
        | bounded p ↦ inl (inr p)
        | asked p ↦ inr (inl p)
        | saved p ↦ let o : c.origin < t = p.0.1 in let l : least < t = p.1 in inr (inr (p.0.0, omega arith))
      ] in
      least_map (Or (Or A B) (Or C D)) (MayEnd least look bound c) (cut_of look c least bound) there back
      (lesser_or (Or A B) (Or C D) (min (least + look) bound) (earlier_of (multiple_above c.exit least) (save_above c (max least c.origin)))
      (least_or A B (least + look) bound (equals_least (least + look)) (equals_least bound))
      (first_or C D (multiple_above c.exit least) (save_above c (max least c.origin)) (multiple_first c.exit least f.exit) (save_first (max least c.origin))))

  -- the bound as known
  pub known_least : (at : ℕ) → IsLeast (MayStop at c) (known_of c (Some at))
  known_least at = lesser_or (λ t. t ≡ c.stop) (Above (OnPeriod c.exit) at) c.stop (multiple_above c.exit at) (equals_least c.stop) (multiple_first c.exit at f.exit)

  known_stop : (o : Option ℕ) → known_of c o ≤ c.stop
  known_stop None = omega arith
  known_stop (Some at) = (known_least at).least c.stop (inl refl)

  pub cutting_laws : (look : ℕ) → IsSpan look → c.stop ≤ 2 ^ 62 → CuttingLaws (cutting look c) look (2 ^ 62)
  cutting_laws look s le = record {
    near = λ t b. (cut_least look t b).least (t + look) (ahead refl);
    within = λ t b. (cut_least look t b).least b (bounded refl);
    later = λ t b lt. later t b lt (cut_of look c t b) (cut_least look t b).member;
    least = λ r t b rt rb. above r t b rt rb (cut_of look c t b) (cut_least look t b).member;
    early = λ o. let k : known_of c o ≤ c.stop = known_stop o in omega arith;
    falls = λ t. elim (known_least t).member [
      | inl e ↦ let w : cut_of look c t c.stop ≤ c.stop = (cut_least look t c.stop).least c.stop (bounded refl) in omega arith
      | inr p ↦ (cut_least look t c.stop).least (known_of c (Some t)) (asked p)
    ];
  }
    where
      later : (t b : ℕ) → t < b → (u : ℕ) → MayEnd t look b c u → t < u
      later t b lt u (ahead p) = let o : 1 ≤ look = s.0 in omega arith
      later t b lt u (bounded p) = omega arith
      later t b lt u (asked p) = p.1
      later t b lt u (saved p) = p.1

      above : (r t b : ℕ) → r ≤ t → r ≤ b → (u : ℕ) → MayEnd t look b c u → r ≤ u
      above r t b rt rb u (ahead p) = omega arith
      above r t b rt rb u (bounded p) = omega arith
      above r t b rt rb u (asked p) = let k : t < u = p.1 in omega arith
      above r t b rt rb u (saved p) = let k : t < u = p.1 in omega arith

  abbrev pub asking : Asking
  asking = record { asked = OnPeriod c.exit; origin = c.origin; stop = c.stop }

  pub asking_laws : (look : ℕ) → AskingLaws (record { asked = OnPeriod c.exit; origin = c.origin; stop = c.stop }) (cutting look c)
  asking_laws look = record {
    cut = λ t b q a lt. (cut_least look t b).least q (asked (a, lt));
    running = refl;
    stops = λ t. known_stop (Some t);
    asks = λ t lt. elim (known_least t).member [ inl e ↦ absurd (omega arith) | inr p ↦ p ];
    first = λ t q a lt. (known_least t).least q (inr (a, lt));
  }
