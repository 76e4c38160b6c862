-- Elements and events by their places.
use Rattle.std.proofs.Common.{◌≡◌, ℕ, zero, suc, ◌+◌, ◌<◌, ◌≤◌, ◌&&◌, Bool, true, false, List, [], ◌∷◌, length, get_or, take, eqb, Some, None, refl, sym, ap, ◌∙◌, subst, arith, add-one}
use Rattle.std.specs.Prelude.{slice_get}
use Rattle.std.proofs.lemmas.Bool.{false≢true, eqb-true, eq-eqb}
use Rattle.ss_model.specs.declared.Key.{Key}
use Rattle.ss_model.specs.declared.Event.{Event}
use Rattle.ss_model.specs.Order.{key_before, NoneBefore, IsSorted}
use Rattle.ss_model.proofs.Keys.{before_irrefl}
use Rattle.ss_safe.specs.Safe.{Each, total, one, tick_at}
use Rattle.ss_safe.specs.Kept.Found.{some_same, none_some}

pub at_index : {X : Type 0} (xs : List X) (i : ℕ) (x : X) → i < length xs → x ≡ get_or xs i x → slice_get xs i ≡ Some x
at_index [] i x l e = absurd (omega arith)
at_index (y ∷ ys) zero x l e = ap Some (sym e)
at_index (y ∷ ys) (suc i) x l e = at_index ys i x (omega arith) e

pub get_past : {X : Type 0} (xs : List X) (i : ℕ) → length xs ≤ i → slice_get xs i ≡ None
get_past [] i h = refl
get_past (y ∷ ys) zero h = absurd (omega arith)
get_past (y ∷ ys) (suc i) h = get_past ys i (omega arith)

pub take_whole : {X : Type 0} (xs : List X) → take (length xs) xs ≡ xs
take_whole [] = refl
take_whole (x ∷ xs) = ap (λ l. x ∷ l) (take_whole xs)

module _ {L : Type 0} where
  pub each_get : (P : Event L → Type 0) (es : List (Event L)) (i : ℕ) (e : Event L) → Each P es → slice_get es i ≡ Some e → P e
  each_get P [] i e h g = absurd (none_some g)
  each_get P (d ∷ es) zero e h g = subst P (some_same g) h.0
  each_get P (d ∷ es) (suc i) e h g = each_get P es i e h.1 g

  none_at : (k : Key) (es : List (Event L)) (j : ℕ) (e : Event L) → NoneBefore k es → slice_get es j ≡ Some e → key_before e.key k ≡ false
  none_at k [] j e h g = absurd (none_some g)
  none_at k (d ∷ es) zero e h g = subst (λ (x : Event L). key_before x.key k ≡ false) (some_same g) h.0
  none_at k (d ∷ es) (suc j) e h g = none_at k es j e h.1 g

  -- of two events in order the second doesn't come before the first
  pub sorted_at : (es : List (Event L)) (i j : ℕ) (d e : Event L) → IsSorted es → i ≤ j → slice_get es i ≡ Some d → slice_get es j ≡ Some e → key_before e.key d.key ≡ false
  sorted_at [] i j d e s h g k = absurd (none_some g)
  sorted_at (x ∷ es) zero zero d e s h g k = let same : d ≡ e = some_same (sym g ∙ k) in subst (λ (y : Event L). key_before y.key d.key ≡ false) same (before_irrefl d.key)
  sorted_at (x ∷ es) zero (suc j) d e s h g k = subst (λ (y : Event L). key_before e.key y.key ≡ false) (some_same g) (none_at x.key es j e s.0 k)
  sorted_at (x ∷ es) (suc i) zero d e s h g k = absurd (omega arith)
  sorted_at (x ∷ es) (suc i) (suc j) d e s h g k = sorted_at es i j d e s.1 (omega arith) g k

  -- an event is a tick of clock n, or none
  pub tick_is : (n : ℕ) (e : Event L) → e.key.class ≡ 1 → e.key.line ≡ n → tick_at n e ≡ 1
  tick_is n e k l = both (eqb e.key.class 1) (eqb e.key.line n) (eq-eqb e.key.class 1 k) (eq-eqb e.key.line n l)
    where
      both : (a b : Bool) → a ≡ true → b ≡ true → one (a && b) ≡ 1
      both true true x y = refl
      both true false x y = absurd (false≢true y)
      both false b x y = absurd (false≢true x)

  is_tick : (n : ℕ) (e : Event L) → 1 ≤ tick_at n e → (e.key.class ≡ 1) × (e.key.line ≡ n)
  is_tick n e h = both (eqb e.key.class 1) refl (eqb e.key.line n) refl h
    where
      both : (a : Bool) → eqb e.key.class 1 ≡ a → (b : Bool) → eqb e.key.line n ≡ b → 1 ≤ one (a && b) → (e.key.class ≡ 1) × (e.key.line ≡ n)
      both true x true y k = (eqb-true e.key.class 1 x, eqb-true e.key.line n y)
      both true x false y k = absurd (omega (arith, k))
      both false x b y k = absurd (omega (arith, k))

  -- a tick of clock n among events, by its place
  pub record TickAmong (n : ℕ) (es : List (Event L)) : Type 0 where
    pub place : ℕ
    pub event : Event L
    pub is : slice_get es place ≡ Some event
    pub class : event.key.class ≡ 1
    pub line : event.key.line ≡ n

  pub tick_among : (n : ℕ) (es : List (Event L)) → 1 ≤ total (tick_at n) es → TickAmong n es
  tick_among n [] h = absurd (omega (arith, h))
  tick_among n (e ∷ es) h = by_first (tick_at n e) refl (λ k. tick_among n es k)
    where
      by_first : (m : ℕ) → tick_at n e ≡ m → (1 ≤ total (tick_at n) es → TickAmong n es) → TickAmong n (e ∷ es)
      by_first zero same rest = let t = rest (omega (arith, h, same)) in record { place = suc t.place; event = t.event; is = t.is; class = t.class; line = t.line }
      by_first (suc m) same rest = let t = is_tick n e (omega (arith, same)) in record { place = 0; event = e; is = refl; class = t.0; line = t.1 }

  pub some_tick : (n : ℕ) (es : List (Event L)) (i : ℕ) (e : Event L) → slice_get es i ≡ Some e → e.key.class ≡ 1 → e.key.line ≡ n → 1 ≤ total (tick_at n) es
  some_tick n [] i e g k l = absurd (none_some g)
  some_tick n (d ∷ es) zero e g k l = let here = tick_is n d (ap (λ (x : Event L). x.key.class) (some_same g) ∙ k) (ap (λ (x : Event L). x.key.line) (some_same g) ∙ l) in omega (arith, here)
  some_tick n (d ∷ es) (suc i) e g k l = let rest = some_tick n es i e g k l in omega (arith, rest)

  -- the events in front of a place are events
  pub get_take : (es : List (Event L)) (i j : ℕ) (e : Event L) → slice_get (take i es) j ≡ Some e → (j < i) × (slice_get es j ≡ Some e)
  get_take [] zero j e g = absurd (none_some g)
  get_take [] (suc i) j e g = absurd (none_some g)
  get_take (d ∷ es) zero j e g = absurd (none_some g)
  get_take (d ∷ es) (suc i) zero e g = (omega arith, g)
  get_take (d ∷ es) (suc i) (suc j) e g = let h = get_take es i j e g in (omega (arith, h.0), h.1)

  pub take_get : (es : List (Event L)) (i j : ℕ) (e : Event L) → j < i → slice_get es j ≡ Some e → slice_get (take i es) j ≡ Some e
  take_get [] i j e h g = absurd (none_some g)
  take_get (d ∷ es) zero j e h g = absurd (omega (arith, h))
  take_get (d ∷ es) (suc i) zero e h g = g
  take_get (d ∷ es) (suc i) (suc j) e h g = take_get es i j e (omega (arith, h)) g

  total_front : (m : Event L → ℕ) (es : List (Event L)) (i : ℕ) (e : Event L) → slice_get es i ≡ Some e → total m (take (suc i) es) ≡ total m (take i es) + m e
  total_front m [] i e g = absurd (none_some g)
  total_front m (d ∷ es) zero e g = let same = ap m (some_same g) in omega (arith, same)
  total_front m (d ∷ es) (suc i) e g = let ih = total_front m es i e g in omega (arith, ih)

  pub total_next : (m : Event L → ℕ) (es : List (Event L)) (i : ℕ) (e : Event L) → slice_get es i ≡ Some e → total m (take (i + 1) es) ≡ total m (take i es) + m e
  total_next m es i e g = ap (λ n. total m (take n es)) (add-one i) ∙ total_front m es i e g

  -- what was found so far of the place of a key among events in order: those before low come before it, and those from high on don't
  pub record Searched (es : List (Event L)) (key : Key) (low high : ℕ) : Type 0 where
    pub within : high ≤ length es
    pub order : low ≤ high
    pub below : (i : ℕ) (e : Event L) → i < low → slice_get es i ≡ Some e → key_before e.key key ≡ true
    pub above : (i : ℕ) (e : Event L) → high ≤ i → slice_get es i ≡ Some e → key_before e.key key ≡ false
