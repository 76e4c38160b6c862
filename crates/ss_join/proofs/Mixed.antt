-- Workers that exchange what they sent, one batch after another.
use Rattle.std.proofs.Common.{◌≡◌, ◌≢◌, ℕ, zero, suc, ◌+◌, ◌<◌, ◌≤◌, ◌⊎◌, inl, inr, Bool, true, false, ◌&&◌, ◌||◌, ◌==◌, nat_lt, List, [], ◌∷◌, length, get_or, refl, sym, ap, ◌∙◌, subst, arith, get_or-set_other, get_or-set_same, length-set, Some, None, Result, Ok, Err, OnOk}
use Rattle.std.specs.Prelude.{slice_set, slice_get, slice_index_or, replicate}
use Rattle.std.specs.List.{list_any}
use Rattle.std.proofs.lemmas.Bool.{cases_Bool, cases_eq, eq-eqb, ne_eqb, lt-ltb, le-ltb}
use Rattle.std.proofs.lemmas.Bool.Decides.{nat_tests}
use Rattle.std.proofs.lemmas.Option.{slice_get_cases}
use Rattle.ss_run.specs.declared.RunSpec.{RunSpec}
use Rattle.ss_worker.specs.Place.{Place, IsWhole, StandsAt, AllStandAt, all_set, only, after_window, after_out, after_in, after_gathering}
use Rattle.ss_join.specs.Between.{Point, HasRun, AllRun, gave, IsBetween, AllBetween}

-- ---- who gave to whom

gave_apart : (g t u p q : ℕ) → (p ≡ g → ⊥) → gave g t p q ≡ gave g u p q
gave_apart g t u p q ne = rw (ne_eqb p g ne) refl

same_tests : (q t : ℕ) → (q ≡ t → ⊥) → nat_lt q t ≡ nat_lt q (t + 1)
same_tests q t ne = let k : q ≢ t = λ e. ne e in grind (arith, nat_tests)

gave_other : (g t p q : ℕ) → (q ≡ t → ⊥) → gave g t p q ≡ gave g (t + 1) p q
gave_other g t p q ne = ap (λ b. nat_lt p g || ((p == g) && b)) (same_tests q t ne)

or_true : (b : Bool) → (b || true) ≡ true
or_true true = refl
or_true false = refl

gave_now : (g t : ℕ) → gave g (t + 1) g t ≡ true
gave_now g t = ap (λ b. nat_lt g g || (b && nat_lt t (t + 1))) (eq-eqb g g refl) ∙ ap (λ b. nat_lt g g || b) (lt-ltb t (t + 1) (omega arith)) ∙ or_true (nat_lt g g)

pub gave_not : (g t : ℕ) → gave g t g t ≡ false
gave_not g t = ap (λ b. b || ((g == g) && nat_lt t t)) (le-ltb g g (omega arith)) ∙ ap (λ b. b && nat_lt t t) (eq-eqb g g refl) ∙ le-ltb t t (omega arith)

gave_none : (p q : ℕ) → gave 0 0 p q ≡ false
gave_none p q = ap (λ b. b || ((p == 0) && nat_lt q 0)) (le-ltb p 0 (omega arith)) ∙ ap (λ b. (p == 0) && b) (le-ltb q 0 (omega arith)) ∙ and_false (p == 0) where
  and_false : (b : Bool) → (b && false) ≡ false
  and_false true = refl
  and_false false = refl

gave_next : (g n p q : ℕ) → q < n → gave g n p q ≡ gave (g + 1) 0 p q
gave_next g n p q h =
    ap (λ b. nat_lt p g || ((p == g) && b)) (lt-ltb q n h)
    ∙ tests
    ∙ ap (λ b. nat_lt p (g + 1) || ((p == (g + 1)) && b)) (sym (le-ltb q 0 (omega arith)))
  where
    tests : (nat_lt p g || ((p == g) && true)) ≡ (nat_lt p (g + 1) || ((p == (g + 1)) && false))
    tests = grind (arith, nat_tests)

gave_all : (n p q : ℕ) → p < n → gave n 0 p q ≡ true
gave_all n p q h = ap (λ b. b || ((p == n) && nat_lt q 0)) (lt-ltb p n h)

skip_to : (g p q : ℕ) → ((q == p) || gave g g p q) ≡ ((q == p) || gave g (g + 1) p q)
skip_to g p q = elim (cases_eq q g) [
  | inl e ↦ elim (cases_eq p g) [
    | inl d ↦ ap (λ b. b || gave g g p q) (eq-eqb q p (e ∙ sym d)) ∙ sym (ap (λ b. b || gave g (g + 1) p q) (eq-eqb q p (e ∙ sym d)))
    | inr ne ↦ ap (λ b. (q == p) || b) (gave_apart g g (g + 1) p q ne)
  ]
  | inr ne ↦ ap (λ b. (q == p) || b) (gave_other g g p q ne)
]

skip_from : (g p q : ℕ) → ((q == p) || gave g g q p) ≡ ((q == p) || gave g (g + 1) q p)
skip_from g p q = elim (cases_eq p g) [
  | inl d ↦ elim (cases_eq q g) [
    | inl e ↦ ap (λ b. b || gave g g q p) (eq-eqb q p (e ∙ sym d)) ∙ sym (ap (λ b. b || gave g (g + 1) q p) (eq-eqb q p (e ∙ sym d)))
    | inr ne ↦ ap (λ b. (q == p) || b) (gave_apart g g (g + 1) q p ne)
  ]
  | inr ne ↦ ap (λ b. (q == p) || b) (gave_other g g q p ne)
]

-- ---- one worker

module _ (at : Point) where
  -- what isn't told apart
  again : (g t h u p : ℕ) (pl : Place) → ((q : ℕ) → q < at.run.partition.parts → ((q == p) || gave g t p q) ≡ ((q == p) || gave h u p q)) → ((q : ℕ) → q < at.run.partition.parts → ((q == p) || gave g t q p) ≡ ((q == p) || gave h u q p)) →
      IsBetween at g t p pl → IsBetween at h u p pl
  again g t h u p pl to from b = record {
    run = b.run;
    part = b.part;
    windows = b.windows;
    alive = b.alive;
    fresh = b.fresh;
    handed_count = b.handed_count;
    taken_count = b.taken_count;
    handed = λ q lt. b.handed q lt ∙ to q lt;
    taken = λ q lt. b.taken q lt ∙ from q lt;
  }

  neither : (g t p : ℕ) (pl : Place) → (p ≡ g → ⊥) → (p ≡ t → ⊥) → IsBetween at g t p pl → IsBetween at g (t + 1) p pl
  neither g t p pl a b = again g t g (t + 1) p pl (λ q lt. ap (λ x. (q == p) || x) (gave_apart g t (t + 1) p q a)) (λ q lt. ap (λ x. (q == p) || x) (gave_other g t q p b))

  giver_gives : (g t : ℕ) (pl : Place) → t < at.run.partition.parts → (t ≡ g → ⊥) → IsBetween at g t g pl → IsBetween at g (t + 1) g (after_out pl t)
  giver_gives g t pl lt ne b = record {
    run = b.run;
    part = b.part;
    windows = b.windows;
    alive = b.alive;
    fresh = b.fresh;
    handed_count = length-set pl.handed t true ∙ b.handed_count;
    taken_count = b.taken_count;
    handed = λ q h. elim (cases_eq q t) [
      | inl e ↦
          ap (λ n. get_or (slice_set pl.handed t true) n true) e ∙ get_or-set_same pl.handed t true true (subst (λ n. t < n) (sym b.handed_count) lt)
          ∙ sym (ap (λ n. (q == g) || gave g (t + 1) g n) e ∙ ap (λ x. (q == g) || x) (gave_now g t) ∙ or_true (q == g))
      | inr na ↦ get_or-set_other pl.handed t q true true na ∙ b.handed q h ∙ ap (λ x. (q == g) || x) (gave_other g t g q na)
    ];
    taken = λ q h. b.taken q h ∙ ap (λ x. (q == g) || x) (gave_other g t q g (λ e. ne (sym e)));
  }

  taker_takes : (g t : ℕ) (pl : Place) → g < at.run.partition.parts → (t ≡ g → ⊥) → IsBetween at g t t pl → IsBetween at g (t + 1) t (after_in pl g)
  taker_takes g t pl lt ne b = record {
    run = b.run;
    part = b.part;
    windows = b.windows;
    alive = b.alive;
    fresh = b.fresh;
    handed_count = b.handed_count;
    taken_count = length-set pl.taken g true ∙ b.taken_count;
    handed = λ q h. b.handed q h ∙ ap (λ x. (q == t) || x) (gave_apart g t (t + 1) t q ne);
    taken = λ q h. elim (cases_eq q g) [
      | inl e ↦
          ap (λ n. get_or (slice_set pl.taken g true) n true) e ∙ get_or-set_same pl.taken g true true (subst (λ n. g < n) (sym b.taken_count) lt)
          ∙ sym (ap (λ n. (q == t) || gave g (t + 1) n t) e ∙ ap (λ x. (q == t) || x) (gave_now g t) ∙ or_true (q == t))
      | inr na ↦ get_or-set_other pl.taken g q true true na ∙ b.taken q h ∙ ap (λ x. (q == t) || x) (gave_apart g t (t + 1) q t na)
    ];
  }

  -- ---- all workers

  pub skipped : (g : ℕ) (ws : List Place) → AllBetween at g g ws → AllBetween at g (g + 1) ws
  skipped g ws a = record { count = a.count; each = λ p d lt. again g g g (g + 1) p (slice_index_or ws p d) (λ q h. skip_to g p q) (λ q h. skip_from g p q) (a.each p d lt) }

  pub next_giver : (g n : ℕ) (ws : List Place) → n ≡ at.run.partition.parts → AllBetween at g n ws → AllBetween at (g + 1) 0 ws
  next_giver g n ws e a = record {
    count = a.count;
    each = λ p d lt. again g n (g + 1) 0 p (slice_index_or ws p d) (λ q h. ap (λ x. (q == p) || x) (gave_next g n p q (subst (λ k. q < k) (sym e) h)))
        (λ q h. ap (λ x. (q == p) || x) (gave_next g n q p (let c = a.count in omega (arith, lt, c, e)))) (a.each p d lt);
  }

  one_slot : (ws : List Place) (i : ℕ) (a b : Place) → i < length ws → get_or ws i a ≡ get_or ws i b
  one_slot [] i a b lt = absurd (omega arith)
  one_slot (x ∷ xs) zero a b lt = refl
  one_slot (x ∷ xs) (suc i) a b lt = one_slot xs i a b (omega arith)

  -- what is at a place, that is x
  pub found : (g t p : ℕ) (ws : List Place) (x : Place) → AllBetween at g t ws → p < at.run.partition.parts → x ≡ get_or ws p x → IsBetween at g t p x
  found g t p ws x a lt e = subst (λ y. IsBetween at g t p y) (sym e) (a.each p x (subst (λ n. p < n) (sym a.count) lt))

  pub given_one : (g t : ℕ) (ws : List Place) (x y : Place) → g < at.run.partition.parts → t < at.run.partition.parts → (t ≡ g → ⊥) → AllBetween at g t ws → x ≡ get_or ws g x → y ≡ get_or (slice_set ws g (after_out x t)) t y →
      AllBetween at g (t + 1) (slice_set (slice_set ws g (after_out x t)) t (after_in y g))
  given_one g t ws x y lg lt ne a ex ey =
      let ws1 = slice_set ws g (after_out x t) in
      let c1 : length ws1 ≡ length ws = length-set ws g (after_out x t) in
      let ig : g < length ws = subst (λ n. g < n) (sym a.count) lg in
      let it : t < length ws1 = subst (λ n. t < n) (sym (c1 ∙ a.count)) lt in
      let fy : y ≡ get_or ws t y = ey ∙ get_or-set_other ws g t (after_out x t) y ne in
      record {
        count = length-set ws1 t (after_in y g) ∙ c1 ∙ a.count;
        each = λ p d h. elim (cases_eq p t) [
          | inl e ↦
              subst (λ n. IsBetween at g (t + 1) n (get_or (slice_set ws1 t (after_in y g)) n d)) (sym e)
              (subst (λ z. IsBetween at g (t + 1) t z) (sym (get_or-set_same ws1 t (after_in y g) d it)) (taker_takes g t y lg ne (found g t t ws y a lt fy)))
          | inr np ↦
              subst (λ z. IsBetween at g (t + 1) p z) (sym (get_or-set_other ws1 t p (after_in y g) d np))
              (elim (cases_eq p g) [
                | inl e ↦
                    subst (λ n. IsBetween at g (t + 1) n (get_or ws1 n d)) (sym e)
                    (subst (λ z. IsBetween at g (t + 1) g z) (sym (get_or-set_same ws g (after_out x t) d ig)) (giver_gives g t x lt ne (found g t g ws x a lg ex)))
                | inr ng ↦
                    subst (λ z. IsBetween at g (t + 1) p z) (sym (get_or-set_other ws g p (after_out x t) d ng))
                    (neither g t p (get_or ws p d) ng np (a.each p d (let l = length-set ws1 t (after_in y g) in omega (arith, h, l, c1))))
              ])
        ];
      }

-- ---- a window, whole

flags_none : (n j : ℕ) → j < n → get_or (replicate n false) j true ≡ false
flags_none zero j h = absurd (omega arith)
flags_none (suc n) zero h = refl
flags_none (suc n) (suc j) h = flags_none n j (omega arith)

length_flags : (n : ℕ) (b : Bool) → length (replicate n b) ≡ n
length_flags zero b = refl
length_flags (suc n) b = ap suc (length_flags n b)

or_false : (b : Bool) → (b || false) ≡ b
or_false true = refl
or_false false = refl

only_is : (n p q : ℕ) → p < n → q < n → get_or (only n p) q true ≡ ((q == p) || false)
only_is n p q hp hq = elim (cases_eq q p) [
  | inl e ↦ ap (λ k. get_or (slice_set (replicate n false) p true) k true) e ∙ get_or-set_same (replicate n false) p true true (subst (λ k. p < k) (sym (length_flags n false)) hp) ∙ sym (ap (λ b. b || false) (eq-eqb q p e))
  | inr ne ↦ get_or-set_other (replicate n false) p q true true ne ∙ flags_none n q hq ∙ sym (ap (λ b. b || false) (ne_eqb q p ne))
]

length_only : (n p : ℕ) → length (only n p) ≡ n
length_only n p = length-set (replicate n false) p true ∙ length_flags n false

ran_one : (r : RunSpec) (k p : ℕ) (pl : Place) → p < r.partition.parts → StandsAt r p k pl → IsBetween (record { run = r; windows = k + 1 }) 0 0 p (after_window pl)
ran_one r k p pl lt s =
    let n : pl.run.partition.parts ≡ r.partition.parts = ap (λ (x : RunSpec). x.partition.parts) s.run in
    let same : only pl.run.partition.parts pl.part ≡ only r.partition.parts p = ap (λ x. only x pl.part) n ∙ ap (only r.partition.parts) s.part in
    let flags : (q : ℕ) → q < r.partition.parts → get_or (only pl.run.partition.parts pl.part) q true ≡ ((q == p) || false) = λ q h. ap (λ fs. get_or fs q true) same ∙ only_is r.partition.parts p q lt h in
    record {
      run = s.run;
      part = s.part;
      windows = ap (λ x. x + 1) s.windows;
      alive = s.whole.alive;
      fresh = refl;
      handed_count = ap length same ∙ length_only r.partition.parts p;
      taken_count = ap length same ∙ length_only r.partition.parts p;
      handed = λ q h. flags q h ∙ ap (λ b. (q == p) || b) (sym (gave_none p q));
      taken = λ q h. flags q h ∙ ap (λ b. (q == p) || b) (sym (gave_none q p));
    }

none_failed : (ws : List Place) (p : ℕ) (d : Place) → list_any (λ pl. pl.failed) ws ≡ false → p < length ws → (get_or ws p d).failed ≡ false
none_failed [] p d h lt = absurd (omega arith)
none_failed (x ∷ xs) zero d h lt = elim (cases_Bool x.failed) [
  | inl t ↦ let k : true ≡ false = sym (ap (λ b. b || list_any (λ (pl : Place). pl.failed) xs) t) ∙ h in absurd cc
  | inr n ↦ n
]
none_failed (x ∷ xs) (suc p) d h lt = elim (cases_Bool x.failed) [
  | inl t ↦ let k : true ≡ false = sym (ap (λ b. b || list_any (λ (pl : Place). pl.failed) xs) t) ∙ h in absurd cc
  | inr n ↦ none_failed xs p d (sym (ap (λ b. b || list_any (λ (pl : Place). pl.failed) xs) n) ∙ h) (omega arith)
]

pub stands_of : (r : RunSpec) (k : ℕ) (ws : List Place) → AllStandAt r k ws → (p : ℕ) (d : Place) → p < length ws → StandsAt r p k (get_or ws p d)
stands_of r k ws a p d lt = go (slice_get_cases ws p).1 where
  one : (xs : List Place) (i : ℕ) (b c : Place) → i < length xs → get_or xs i b ≡ get_or xs i c
  one [] i b c h = absurd (omega arith)
  one (x ∷ xs) zero b c h = refl
  one (x ∷ xs) (suc i) b c h = one xs i b c (omega arith)

  go : ((x : Place) × (p < length ws) × (slice_get ws p ≡ Some x) × (get_or ws p x ≡ x)) ⊎ ((length ws ≤ p) × (slice_get ws p ≡ None)) → StandsAt r p k (get_or ws p d)
  go (inl (x, w, f, v)) = subst (λ y. StandsAt r p k y) (sym (one ws p d x lt ∙ v)) (a.each p x f)
  go (inr (w, f)) = absurd (omega (arith, w, lt))

pub all_ran : (r : RunSpec) (k : ℕ) (old new : List Place) → AllStandAt r k old → AllRun old new → list_any (λ pl. pl.failed) new ≡ false → AllBetween (record { run = r; windows = k + 1 }) 0 0 new
all_ran r k old new a ran none = record {
  count = ran.count ∙ a.count;
  each = λ p d lt.
      let h : p < length old = subst (λ n. p < n) ran.count lt in
      go p d lt h (ran.each p d h);
} where
  go : (p : ℕ) (d : Place) → p < length new → p < length old → HasRun (get_or old p d) (get_or new p d) → IsBetween (record { run = r; windows = k + 1 }) 0 0 p (get_or new p d)
  go p d lt h (inl e) = subst (λ y. IsBetween (record { run = r; windows = k + 1 }) 0 0 p y) (sym e) (ran_one r k p (get_or old p d) (subst (λ n. p < n) a.count h) (stands_of r k old a p d h))
  go p d lt h (inr e) = let f : true ≡ false = sym (ap (λ (pl : Place). pl.failed) e) ∙ none_failed new p d none lt in absurd cc

every : (fs : List Bool) → ((q : ℕ) → q < length fs → get_or fs q true ≡ true) → all_set fs ≡ true
every [] h = refl
every (b ∷ fs) h = ap (λ x. x && all_set fs) (h 0 (omega arith)) ∙ every fs (λ q lt. h (suc q) (omega arith))

-- all is exchanged
pub between_whole : (at : Point) (p : ℕ) (pl : Place) → p < at.run.partition.parts → IsBetween at at.run.partition.parts 0 p pl → IsWhole pl
between_whole at p pl lt b = record {
  alive = b.alive;
  handed = every pl.handed (λ q h. b.handed q (subst (λ n. q < n) b.handed_count h) ∙ ap (λ x. (q == p) || x) (gave_all at.run.partition.parts p q lt) ∙ or_true (q == p));
  taken = every pl.taken (λ q h. let l : q < at.run.partition.parts = subst (λ n. q < n) b.taken_count h in b.taken q l ∙ ap (λ x. (q == p) || x) (gave_all at.run.partition.parts q p l) ∙ or_true (q == p));
}

-- and the lines of the first are gathered
pub all_stand : (at : Point) (ws : List Place) (x : Place) → 1 ≤ at.run.partition.parts → AllBetween at at.run.partition.parts 0 ws → x ≡ get_or ws 0 x → AllStandAt at.run at.windows (slice_set ws 0 (after_gathering x))
all_stand at ws x some a ex = record {
  count = length-set ws 0 (after_gathering x) ∙ a.count;
  each = λ p pl h. go p pl (slice_get_cases (slice_set ws 0 (after_gathering x)) p).1 h;
} where
  stands : (p : ℕ) (pl : Place) → p < at.run.partition.parts → IsBetween at at.run.partition.parts 0 p pl → StandsAt at.run p at.windows pl
  stands p pl lt b = record { run = b.run; part = b.part; windows = b.windows; whole = between_whole at p pl lt b }

  gathered : StandsAt at.run 0 at.windows (after_gathering x)
  gathered =
      let s = stands 0 x some (found at at.run.partition.parts 0 0 ws x a some ex) in
      record { run = s.run; part = s.part; windows = s.windows; whole = record { alive = s.whole.alive; handed = s.whole.handed; taken = s.whole.taken } }

  got : (p : ℕ) (d : Place) → p < length ws → StandsAt at.run p at.windows (get_or (slice_set ws 0 (after_gathering x)) p d)
  got p d lt = elim (cases_eq p 0) [
    | inl e ↦ subst (λ n. StandsAt at.run n at.windows (get_or (slice_set ws 0 (after_gathering x)) n d)) (sym e) (subst (λ y. StandsAt at.run 0 at.windows y) (sym (get_or-set_same ws 0 (after_gathering x) d (subst (λ n. n < length ws) e lt))) gathered)
    | inr ne ↦ subst (λ y. StandsAt at.run p at.windows y) (sym (get_or-set_other ws 0 p (after_gathering x) d ne)) (stands p (get_or ws p d) (subst (λ n. p < n) a.count lt) (a.each p d lt))
  ]

  go : (p : ℕ) (pl : Place) → ((y : Place) × (p < length (slice_set ws 0 (after_gathering x))) × (slice_get (slice_set ws 0 (after_gathering x)) p ≡ Some y) × (get_or (slice_set ws 0 (after_gathering x)) p y ≡ y)) ⊎ ((length (slice_set ws 0 (after_gathering x)) ≤ p) × (slice_get (slice_set ws 0 (after_gathering x)) p ≡ None)) → slice_get (slice_set ws 0 (after_gathering x)) p ≡ Some pl → StandsAt at.run p at.windows pl
  go p pl (inl (y, w, f, v)) h =
      let e : y ≡ pl = let k = sym f ∙ h in cc in
      subst (λ z. StandsAt at.run p at.windows z) (v ∙ e) (got p y (subst (λ n. p < n) (length-set ws 0 (after_gathering x)) w))
  go p pl (inr (w, f)) h = let k = sym f ∙ h in absurd cc

-- ---- as calls leave them

pub first_stands : (r : RunSpec) (k : ℕ) (ws : List Place) (x : Place) → 1 ≤ r.partition.parts → AllStandAt r k ws → x ≡ get_or ws 0 x → StandsAt r 0 k x
first_stands r k ws x some a e = subst (λ y. StandsAt r 0 k y) (sym e) (stands_of r k ws a 0 x (subst (λ n. 0 < n) (sym a.count) some))

pub taker_misses : (at : Point) (g t b : ℕ) (ws : List Place) (n1 y : Place) → g < at.run.partition.parts → t < at.run.partition.parts → (t ≡ g → ⊥) → AllBetween at g t ws → y ≡ get_or (slice_set ws g n1) t y → b ≡ g → slice_index_or y.taken b true ≡ false
taker_misses at g t b ws n1 y lg lt ne a ey eb =
    let f = found at g t t ws y a lt (ey ∙ get_or-set_other ws g t n1 y ne) in
    ap (λ n. get_or y.taken n true) eb ∙ f.taken g lg ∙ ap (λ x. x || gave g t g t) (ne_eqb g t (λ e. ne (sym e))) ∙ gave_not g t

pub given_by : (at : Point) (g t b : ℕ) (ws : List Place) (x y n1 n2 : Place) → g < at.run.partition.parts → t < at.run.partition.parts → (t ≡ g → ⊥) → AllBetween at g t ws → x ≡ get_or ws g x → n1 ≡ after_out x t → y ≡ get_or (slice_set ws g n1) t y → n2 ≡ after_in y b → b ≡ g →
    AllBetween at g (t + 1) (slice_set (slice_set ws g n1) t n2)
given_by at g t b ws x y n1 n2 lg lt ne a ex e1 ey e2 eb =
    let ey2 : y ≡ get_or (slice_set ws g (after_out x t)) t y = ey ∙ ap (λ n. get_or (slice_set ws g n) t y) e1 in
    subst (λ z. AllBetween at g (t + 1) (slice_set (slice_set ws g n1) t z)) (sym (e2 ∙ ap (after_in y) eb))
    (subst (λ z. AllBetween at g (t + 1) (slice_set (slice_set ws g z) t (after_in y g))) (sym e1) (given_one at g t ws x y lg lt ne a ex ey2))

pub skipped_at : (at : Point) (g t : ℕ) (ws : List Place) → t ≡ g → AllBetween at g t ws → AllBetween at g (t + 1) ws
skipped_at at g t ws e a = subst (λ n. AllBetween at g (n + 1) ws) (sym e) (skipped at g ws (subst (λ n. AllBetween at g n ws) e a))

pub on_ok : {A E : Type 0} (r : Result A E) (P : Type 0) → P → OnOk r P
on_ok (Ok x) P p = p
on_ok (Err e) P p = tt
