-- Clocks that are on, their next ticks, and the ticks among events in order.
use Rattle.std.proofs.Common.{◌≡◌, ℕ, zero, suc, ◌+◌, ◌-◌, ◌<◌, ◌≤◌, ◌^◌, ◌&&◌, ◌||◌, Bool, true, false, cond, eqb, ltb, List, [], ◌∷◌, length, take, Option, Some, None, is_some, refl, sym, ap, ◌∙◌, arith, inl, inr}
use Rattle.std.specs.Prelude.{slice_get, count_by}
use Rattle.std.proofs.lemmas.Bool.{false≢true, cases_lt, eqb-true, eq-eqb}
use Rattle.std.proofs.lemmas.Bool.Decides.{nat_tests}
use Rattle.std.proofs.lemmas.List.Sums.{sum_by-cons}
use Rattle.ss_model.specs.declared.Key.{Key}
use Rattle.ss_model.specs.declared.Event.{Event}
use Rattle.ss_model.specs.declared.InnerLine.{InnerLine}
use Rattle.ss_model.specs.declared.InnerLine.TheVariants as inner
use Rattle.ss_model.specs.Order.{key_before, IsSorted}
use Rattle.ss_model.specs.Wiring.{Wiring, inner_at, of_clock, clock_at, target, target_of}
use Rattle.ss_model.specs.Step.{State}
use Rattle.ss_model.proofs.Keys.{before_irrefl, before_upto}
use Rattle.ss_parts.proofs.Laws.{exact_key}
use Rattle.ss_element.specs.Index.{entries, is_own, is_clock, counts}
use Rattle.ss_element.specs.Kind.{Kind}
use Rattle.ss_safe.specs.Safe.{total, tick_at}
use Rattle.ss_safe.specs.Sound.{IsSaved, multiple_from, Timed, TimeSound, TickSound}
use Rattle.ss_safe.specs.Kept.Found.{some_same, none_some, get_below, get_some, clock_of, apart_numbers}
use Rattle.ss_safe.specs.Kept.Times.{clock_period}
use Rattle.ss_restart.specs.Ready.{IsReady, MustTick, NoTick, Repeats, HasKey}
use Rattle.ss_restart.proofs.Places.{each_get, sorted_at, Searched, TickAmong, tick_among, some_tick, get_take, take_get}

abbrev before3 : ℕ → ℕ → ℕ → ℕ → ℕ → ℕ → Bool
before3 a b c x y z = ltb a x || (eqb a x && (ltb b y || (eqb b y && ltb c z)))

-- a ≤ b < c
upto3 : (a b c x y z u v w : ℕ) → before3 x y z a b c ≡ false → before3 x y z u v w ≡ true → before3 a b c u v w ≡ true
upto3 a b c x y z u v w = grind (arith, nat_tests)

before_upto_it : (a b c : Key) → key_before b a ≡ false → key_before b c ≡ true → key_before a c ≡ true
before_upto_it a b c = upto3 a.time a.class a.line b.time b.class b.line c.time c.class c.line

key_is : (a b : Key) → a.time ≡ b.time → a.class ≡ b.class → a.line ≡ b.line → a ≡ b
key_is a b t c l = λ i. record { time = t i; class = c i; line = l i }

-- what stands at a number is one
one_component : (a b c d p q : ℕ) → ◌≡◌ {A = Option InnerLine} (Some (inner.Clock a c p)) (Some (inner.Clock b d q)) → a ≡ b
one_component a b c d p q h = let e = some_same h in cc

one_index : (a b c d p q : ℕ) → ◌≡◌ {A = Option InnerLine} (Some (inner.Clock a c p)) (Some (inner.Clock b d q)) → c ≡ d
one_index a b c d p q h = let e = some_same h in cc

one_period : (a b c d p q : ℕ) → ◌≡◌ {A = Option InnerLine} (Some (inner.Clock a c p)) (Some (inner.Clock b d q)) → p ≡ q
one_period a b c d p q h = let e = some_same h in cc

-- the place of an inner line behind the links
inner_place : (w : Wiring) (n : ℕ) (l : InnerLine) → inner_at w n ≡ Some l → slice_get w.inner (n - length w.links) ≡ Some l
inner_place w n l h = by_test _ h
  where
    by_test : (b : Bool) → cond b None (slice_get w.inner (n - length w.links)) ≡ Some l → slice_get w.inner (n - length w.links) ≡ Some l
    by_test true e = absurd (none_some e)
    by_test false e = e

module _ {S L : Type 0} (kind : Kind S L) (w : Wiring) (at : ℕ) (s : State S L) where
  -- ---- when a clock has to tick

  pub no_clock : (n : ℕ) → None ≡ of_clock (inner_at w n) → NoTick kind w at s n
  no_clock n none t m = none_some (none ∙ ap of_clock m.clock)

  -- what has to tick is the clock at its number
  pub clock_is : (n c j t : ℕ) → Some (c, j) ≡ of_clock (inner_at w n) → (m : MustTick kind w at s n t) → (m.component ≡ c) × (m.index ≡ j)
  clock_is n c j t is m =
      let pair : ◌≡◌ {A = ℕ × ℕ} (m.component, m.index) (c, j) = some_same (sym (ap of_clock m.clock) ∙ sym is) in
      (ap (λ (q : ℕ × ℕ). q.0) pair, ap (λ (q : ℕ × ℕ). q.1) pair)

  pub no_element : (n c j : ℕ) → Some (c, j) ≡ of_clock (inner_at w n) → slice_get s.components c ≡ None → NoTick kind w at s n
  no_element n c j is none t m = none_some (sym none ∙ ap (slice_get s.components) (sym (clock_is n c j t is m).0) ∙ m.there)

  pub is_off : (n c j : ℕ) (x : S) → Some (c, j) ≡ of_clock (inner_at w n) → slice_get s.components c ≡ Some x → kind.ticks x j ≡ false → NoTick kind w at s n
  is_off n c j x is g off t m =
      let k = clock_is n c j t is m in
      let same : m.state ≡ x = some_same (sym m.there ∙ ap (slice_get s.components) k.0 ∙ g) in
      false≢true (sym off ∙ ap (kind.ticks x) (sym k.1) ∙ ap (λ y. kind.ticks y m.index) (sym same) ∙ m.on)

  pub no_period : (n c j : ℕ) → IsReady kind w at s → Some (c, j) ≡ of_clock (inner_at w n) → None ≡ clock_at w c j → NoTick kind w at s n
  no_period n c j ready is none t m =
      let k = clock_of w n c j (sym is) in
      none_some (none ∙ apart_numbers w ready.wires.apart n c j k.0 k.1)

  pub clock_fits : (n c j m period : ℕ) → IsReady kind w at s → Some (m, period) ≡ clock_at w c j → (1 ≤ period) × (period ≤ 2 ^ 40)
  clock_fits n c j m period ready is = clock_period w c j m period ready.wires.fits (sym is)

  pub must_tick : (n c j m period t : ℕ) (x : S) → IsReady kind w at s → Some (c, j) ≡ of_clock (inner_at w n) → slice_get s.components c ≡ Some x → kind.ticks x j ≡ true → Some (m, period) ≡ clock_at w c j → t ≡ multiple_from at period → MustTick kind w at s n t
  must_tick n c j m period t x ready is g on found time =
      let k = clock_of w n c j (sym is) in
      let both : ◌≡◌ {A = ℕ × ℕ} (m, period) (n, k.0) = some_same (found ∙ apart_numbers w ready.wires.apart n c j k.0 k.1) in
      let same : k.0 ≡ period = sym (ap (λ (q : ℕ × ℕ). q.1) both) in
      record { component = c; index = j; period = period; state = x; clock = k.1 ∙ ap (λ p. Some (inner.Clock c j p)) same; there = g; on = on; multiple = time }

  pub one_time : (n t u : ℕ) → MustTick kind w at s n t → MustTick kind w at s n u → t ≡ u
  one_time n t u a b =
      let same : a.period ≡ b.period = one_period a.component b.component a.index b.index a.period b.period (sym a.clock ∙ b.clock) in
      a.multiple ∙ ap (multiple_from at) same ∙ sym b.multiple

  -- ---- ticks in their times

  module _ (ready : IsReady kind w at s) where
    -- a tick that isn't repeated is the first of its clock, where those before it stand in their times
    first_tick : (i : ℕ) (e : Event L) (c j period : ℕ) (x : S) → slice_get s.pending i ≡ Some e → e.key.class ≡ 1 → inner_at w e.key.line ≡ Some (inner.Clock c j period) → slice_get s.components c ≡ Some x → e.key.time ≡ multiple_from at period → (Repeats s.pending i → ⊥) → ((k : ℕ) → k < i → TimeSound kind w at s k) → total (tick_at e.key.line) (take i s.pending) ≡ 0
    first_tick i e c j period x g class there gx multiple new before = by_count (total (tick_at e.key.line) (take i s.pending)) refl
      where
        earlier : TickAmong e.key.line (take i s.pending) → ⊥
        earlier t = at_front i refl
          where
            d : Event L
            d = t.event

            front : (t.place < i) × (slice_get s.pending t.place ≡ Some t.event)
            front = get_take s.pending i t.place t.event t.is

            same_key : t.event.key ≡ e.key
            same_key =
                let timed = (before t.place front.0 t.event front.1).tick c j period x t.class (ap (inner_at w) t.line ∙ there) gx in
                key_is t.event.key e.key (timed.multiple ∙ sym multiple) (t.class ∙ sym class) t.line

            at_front : (m : ℕ) → i ≡ m → ⊥
            at_front zero is = absurd (let h = front.0 in omega (arith, h, is))
            at_front (suc m) is =
                let within = get_below s.pending i e g in
                let f = get_some s.pending m (omega (arith, within, is)) in
                let lower : key_before f.0.key t.event.key ≡ false = sorted_at s.pending t.place m t.event f.0 ready.sorted (let h = front.0 in omega (arith, h, is)) front.1 f.1 in
                let upper : key_before e.key f.0.key ≡ false = sorted_at s.pending m i f.0 e ready.sorted (omega (arith, is)) f.1 g in
                let equal : f.0.key ≡ e.key = exact_key f.0.key e.key (ap (key_before f.0.key) (sym same_key) ∙ lower) upper in
                new (record { place = m; next = is ∙ omega arith; front = f.0; event = e; front_is = f.1; event_is = g; same = equal })

        by_count : (n : ℕ) → total (tick_at e.key.line) (take i s.pending) ≡ n → total (tick_at e.key.line) (take i s.pending) ≡ 0
        by_count zero is = is
        by_count (suc n) is = absurd (earlier (tick_among e.key.line (take i s.pending) (omega (arith, is))))

    -- a tick stands in its time
    pub tick_timed : (i : ℕ) (e : Event L) → slice_get s.pending i ≡ Some e → at ≤ e.key.time → e.key.time < at + 2 ^ 41 → e.key.class ≡ 1 → (Repeats s.pending i → ⊥) → MustTick kind w at s e.key.line e.key.time → ((k : ℕ) → k < i → TimeSound kind w at s k) → Timed kind w at s i e
    tick_timed i e g from below class new must before = record {
      from = from;
      below = below;
      tick = λ c j period x k there gx.
          let in_c : must.component ≡ c = one_component must.component c must.index j must.period period (sym must.clock ∙ there) in
          let in_j : must.index ≡ j = one_index must.component c must.index j must.period period (sym must.clock ∙ there) in
          let in_p : must.period ≡ period = one_period must.component c must.index j must.period period (sym must.clock ∙ there) in
          let same : must.state ≡ x = some_same (sym must.there ∙ ap (slice_get s.components) in_c ∙ gx) in
          let time : e.key.time ≡ multiple_from at period = must.multiple ∙ ap (multiple_from at) in_p in
          record {
            on = ap (kind.ticks x) (sym in_j) ∙ ap (λ y. kind.ticks y must.index) (sym same) ∙ must.on;
            only = first_tick i e c j period x g class there gx time new before;
            multiple = time;
          };
    }

    -- any other event does within the bounds
    pub other_timed : (i : ℕ) (e : Event L) → at ≤ e.key.time → e.key.time < at + 2 ^ 41 → (e.key.class ≡ 1 → ⊥) → Timed kind w at s i e
    other_timed i e from below other = record { from = from; below = below; tick = λ c j period x k there gx. absurd (other k) }

    -- a tick that stands in its time isn't repeated, and is the next of a clock that is on
    pub timed_tick : (i : ℕ) (e : Event L) → slice_get s.pending i ≡ Some e → e.key.class ≡ 1 → Timed kind w at s i e → (Repeats s.pending i → ⊥) × MustTick kind w at s e.key.line e.key.time
    timed_tick i e g class timed = (λ r. again r, must)
      where
        reached : (o : Option InnerLine) → inner_at w e.key.line ≡ o → is_some (of_clock o) ≡ true → (c : ℕ) × (j : ℕ) × (period : ℕ) × (inner_at w e.key.line ≡ Some (inner.Clock c j period))
        reached None is h = absurd (false≢true h)
        reached (Some (inner.Own c j)) is h = absurd (false≢true h)
        reached (Some (inner.Clock c j period)) is h = (c, j, period, is)

        clock : (c : ℕ) × (j : ℕ) × (period : ℕ) × (inner_at w e.key.line ≡ Some (inner.Clock c j period))
        clock =
            let real : is_some (target w e.key) ≡ true = (each_get (IsSaved w) s.pending i e ready.saved g).real in
            reached (inner_at w e.key.line) refl (ap (λ k. is_some (target_of w k e.key.line)) (sym class) ∙ real)

        there : (x : S) × (slice_get s.components clock.0 ≡ Some x)
        there = get_some s.components clock.0 (ready.wires.owned (e.key.line - length w.links) (inner.Clock clock.0 clock.1 clock.2) (inner_place w e.key.line (inner.Clock clock.0 clock.1 clock.2) clock.3))

        must : MustTick kind w at s e.key.line e.key.time
        must =
            let tick = timed.tick clock.0 clock.1 clock.2 there.0 class clock.3 there.1 in
            record { component = clock.0; index = clock.1; period = clock.2; state = there.0; clock = clock.3; there = there.1; on = tick.on; multiple = tick.multiple }

        again : Repeats s.pending i → ⊥
        again r =
            let tick = timed.tick clock.0 clock.1 clock.2 there.0 class clock.3 there.1 in
            let only = tick.only in
            let next = r.next in
            let same : r.event ≡ e = some_same (sym r.event_is ∙ g) in
            let key : r.front.key ≡ e.key = r.same ∙ ap (λ (x : Event L). x.key) same in
            let some = some_tick e.key.line (take i s.pending) r.place r.front (take_get s.pending i r.place r.front (omega (arith, next)) r.front_is) (ap (λ (k : Key). k.class) key ∙ class) (ap (λ (k : Key). k.line) key) in
            omega (arith, only, some)

    -- ---- clocks that have a tick

    pub none_needed : (n : ℕ) → NoTick kind w at s n → TickSound kind w at s n
    none_needed n none c j period x clock there on = absurd (none (multiple_from at period) (record { component = c; index = j; period = period; state = x; clock = clock; there = there; on = on; multiple = refl }))

    pub has_one : (n t : ℕ) → HasKey s.pending (record { time = t; class = 1; line = n }) → TickSound kind w at s n
    has_one n t has c j period x clock there on = some_tick n s.pending has.place has.event has.is (ap (λ (k : Key). k.class) has.same) (ap (λ (k : Key). k.line) has.same)

    pub one_has : (n t : ℕ) → ((i : ℕ) → TimeSound kind w at s i) → MustTick kind w at s n t → TickSound kind w at s n → HasKey s.pending (record { time = t; class = 1; line = n })
    one_has n t times must sound =
        let a = tick_among n s.pending (sound must.component must.index must.period must.state must.clock must.there must.on) in
        let timed = (times a.place a.event a.is).tick must.component must.index must.period must.state a.class (ap (inner_at w) a.line ∙ must.clock) must.there in
        record { place = a.place; event = a.event; is = a.is; same = key_is a.event.key (record { time = t; class = 1; line = n }) (timed.multiple ∙ sym must.multiple) a.class a.line }

  -- ---- lines past the last

  pub past_lines : (n : ℕ) → entries w ≤ n → TickSound kind w at s n
  past_lines n past c j period x clock there on =
      absurd (let below = get_below w.inner (n - length w.links) (inner.Clock c j period) (inner_place w n (inner.Clock c j period) clock) in omega (arith, below, past))

-- each inner line is a self line or a clock
counted_inner : (ls : List InnerLine) → count_by is_own ls + count_by is_clock ls ≡ length ls
counted_inner [] = refl
counted_inner (inner.Own c i ∷ ls) =
    let own = sum_by-cons (λ l. cond (is_own l) 1 0) (inner.Own c i) ls in
    let clock = sum_by-cons (λ l. cond (is_clock l) 1 0) (inner.Own c i) ls in
    let rest = counted_inner ls in
    omega (arith, own, clock, rest)
counted_inner (inner.Clock c i period ∷ ls) =
    let own = sum_by-cons (λ l. cond (is_own l) 1 0) (inner.Clock c i period) ls in
    let clock = sum_by-cons (λ l. cond (is_clock l) 1 0) (inner.Clock c i period) ls in
    let rest = counted_inner ls in
    omega (arith, own, clock, rest)

pub all_counted : (w : Wiring) → (counts w).0 + (counts w).1 + (counts w).2 ≡ entries w
all_counted w = let inner = counted_inner w.inner in omega (arith, inner)

-- ---- a key among events in order

-- what the test of two keys tells
pub key_tested : (a b : Key) (r : Bool) → r ≡ (eqb a.time b.time && (eqb a.class b.class && eqb a.line b.line)) → (r ≡ true → a ≡ b) × (a ≡ b → r ≡ true)
key_tested a b r is = (
  λ h. by_tests (eqb a.time b.time) refl (eqb a.class b.class) refl (eqb a.line b.line) refl (sym is ∙ h),
  λ h. is ∙ ap (λ k. eqb a.time k.time && (eqb a.class k.class && eqb a.line k.line)) (sym h) ∙ both (eqb a.time a.time) (eqb a.class a.class) (eqb a.line a.line) (eq-eqb a.time a.time refl) (eq-eqb a.class a.class refl) (eq-eqb a.line a.line refl),
)
  where
    by_tests : (x : Bool) → eqb a.time b.time ≡ x → (y : Bool) → eqb a.class b.class ≡ y → (z : Bool) → eqb a.line b.line ≡ z → (x && (y && z)) ≡ true → a ≡ b
    by_tests true e true f true g h = key_is a b (eqb-true a.time b.time e) (eqb-true a.class b.class f) (eqb-true a.line b.line g)
    by_tests true e true f false g h = absurd (false≢true h)
    by_tests true e false f z g h = absurd (false≢true h)
    by_tests false e y f z g h = absurd (false≢true h)

    both : (x y z : Bool) → x ≡ true → y ≡ true → z ≡ true → (x && (y && z)) ≡ true
    both x y z e f g = cc

module _ {L : Type 0} (es : List (Event L)) (key : Key) where
  before_it : (low i : ℕ) (e : Event L) → ((k : ℕ) (x : Event L) → k < low → slice_get es k ≡ Some x → key_before x.key key ≡ true) → slice_get es i ≡ Some e → e.key ≡ key → low ≤ i
  before_it low i e below ge is = elim (cases_lt i low) [
    | inl h ↦ absurd (false≢true (sym (ap (λ k. key_before k key) is ∙ before_irrefl key) ∙ below i e h ge))
    | inr h ↦ h
  ]

  -- the first of the events that don't come before the key has it, if one does
  pub key_among : (low high i : ℕ) (d e : Event L) → IsSorted es → Searched es key low high → high ≤ low → slice_get es low ≡ Some d → slice_get es i ≡ Some e → e.key ≡ key → d.key ≡ key
  key_among low high i d e sorted searched met gd ge is =
      exact_key d.key key (searched.above low d met gd) (ap (λ k. key_before k d.key) (sym is) ∙ sorted_at es low i d e sorted (before_it low i e searched.below ge is) gd ge)

  pub key_lost : (low high : ℕ) → Searched es key low high → high ≤ low → length es ≤ low → HasKey es key → ⊥
  key_lost low high searched met past has =
      let from = before_it low has.place has.event searched.below has.is has.same in
      let within = get_below es has.place has.event has.is in
      omega (arith, from, within, past)

  pub key_found : (low high : ℕ) (d : Event L) → IsSorted es → Searched es key low high → high ≤ low → slice_get es low ≡ Some d → (b : Bool) → (b ≡ true → d.key ≡ key) → (d.key ≡ key → b ≡ true) → (b ≡ true → HasKey es key) × (HasKey es key → b ≡ true)
  key_found low high d sorted searched met gd b same back = (
    λ h. record { place = low; event = d; is = gd; same = same h },
    λ has. back (key_among low high has.place d has.event sorted searched met gd has.is has.same),
  )

  pub search_up : (low high middle : ℕ) (e : Event L) → IsSorted es → Searched es key low high → low ≤ middle → middle < high → slice_get es middle ≡ Some e → key_before e.key key ≡ true → Searched es key (middle + 1) high
  search_up low high middle e sorted s from below ge before = record {
    within = s.within;
    order = omega (arith, below);
    below = λ i d h g. before_upto_it d.key e.key key (sorted_at es i middle d e sorted (omega (arith, h)) g ge) before;
    above = s.above;
  }

  pub search_down : (low high middle : ℕ) (e : Event L) → IsSorted es → Searched es key low high → low ≤ middle → middle < high → slice_get es middle ≡ Some e → key_before e.key key ≡ false → Searched es key low middle
  search_down low high middle e sorted s from below ge after = record {
    within = (let h = s.within in omega (arith, h, below));
    order = from;
    below = s.below;
    above = λ i d h g. before_upto key e.key d.key after (sorted_at es middle i e d sorted h ge g);
  }
