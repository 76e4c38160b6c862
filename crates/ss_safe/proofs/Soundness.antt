-- A sound state is safe just before its time, and what a run leaves at a time is sound at it and can be saved.
use Rattle.std.proofs.Common.{◌≡◌, ℕ, zero, suc, ◌+◌, ◌-◌, ◌*◌, ◌/◌, ◌%◌, ◌^◌, ◌<◌, ◌≤◌, ◌&&◌, Bool, true, false, cond, eqb, ltb, List, [], ◌∷◌, length, take, Option, Some, None, is_some, refl, sym, ap, ◌∙◌, subst, arith}
use Rattle.std.specs.Prelude.{slice_get}
use Rattle.std.proofs.lemmas.Bool.{false≢true, eqb-true, eq-eqb, ltb-false, le-ltb}
use Rattle.std.proofs.lemmas.List.{take_all}
use Rattle.std.proofs.Math.Nat.{lt_of_mul-lt-mul_left}
use Rattle.ss_model.specs.declared.Key.{Key}
use Rattle.ss_model.specs.declared.Event.{Event}
use Rattle.ss_model.specs.declared.Cause.TheVariants as cause
use Rattle.ss_model.specs.declared.LinkLine.{LinkLine}
use Rattle.ss_model.specs.declared.InnerLine.{InnerLine}
use Rattle.ss_model.specs.declared.InnerLine.TheVariants as inner
use Rattle.ss_model.specs.Order.{begins_before}
use Rattle.ss_model.specs.Wiring.{Wiring, inner_at, of_link, of_own, of_clock, of_line, target}
use Rattle.ss_model.specs.Step.{State, next_multiple, after, IsUntil}
use Rattle.ss_element.specs.Kind.{Kind}
use Rattle.ss_element.specs.Saving.{Saving}
use Rattle.ss_safe.specs.Laws.{meters_of, Allowed, KindLaws, KindSaves}
use Rattle.ss_safe.specs.Safe.{Each, total, one, start_at, tick_at, WiresHold, IsTimely, Reaches, IsReal, IsInPhase, TicksMatch, IsHeard, Safe, Stands}
use Rattle.ss_safe.specs.Sound.{Timed, Sound, IsSaved, AllAlike, Restored, IsRead}
use Rattle.ss_safe.specs.Kept.Found.{some_same, none_some, get_below, get_some, apart_numbers}
use Rattle.ss_safe.specs.Kept.Times.{clock_period, next_mod}
use Rattle.ss_safe.specs.Kept.Starts.{no_start}
use Rattle.ss_safe.specs.Kept.Loads.{named_as}
use Rattle.ss_safe.specs.Worlds.{until_safe, until_alike, none_sooner_than, all_begun}

-- ---- events by their places

module _ {L : Type 0} where
  each_at : (P : Event L → Type 0) (es : List (Event L)) → ((i : ℕ) (e : Event L) → slice_get es i ≡ Some e → P e) → Each P es
  each_at P [] f = tt
  each_at P (e ∷ es) f = (f 0 e refl, each_at P es (λ i d g. f (suc i) d g))

  each_get : (P : Event L → Type 0) (es : List (Event L)) (i : ℕ) (e : Event L) → Each P es → slice_get es i ≡ Some e → P e
  each_get P [] i e h g = absurd (none_some g)
  each_get P (d ∷ es) zero e h g = subst P (some_same g) h.0
  each_get P (d ∷ es) (suc i) e h g = each_get P es i e h.1 g

  total_front : (m : Event L → ℕ) (es : List (Event L)) (i : ℕ) (e : Event L) → slice_get es i ≡ Some e → total m (take (suc i) es) ≡ total m (take i es) + m e
  total_front m [] i e g = absurd (none_some g)
  total_front m (d ∷ es) zero e g = let same = ap m (some_same g) in omega (arith, same)
  total_front m (d ∷ es) (suc i) e g = let ih = total_front m es i e g in omega (arith, ih)

  total_past : (m : Event L → ℕ) (es : List (Event L)) (i : ℕ) → slice_get es i ≡ None → total m (take (suc i) es) ≡ total m (take i es)
  total_past m [] zero g = refl
  total_past m [] (suc i) g = refl
  total_past m (d ∷ es) zero g = absurd (none_some (sym g))
  total_past m (d ∷ es) (suc i) g = let ih = total_past m es i g in omega (arith, ih)

  total_take : (m : Event L → ℕ) (es : List (Event L)) (i : ℕ) → total m (take i es) ≤ total m es
  total_take m [] zero = omega arith
  total_take m [] (suc i) = omega arith
  total_take m (d ∷ es) zero = omega arith
  total_take m (d ∷ es) (suc i) = let ih = total_take m es i in omega (arith, ih)

  -- an event is a tick of clock n, or none
  tick_is : (n : ℕ) (e : Event L) → e.key.class ≡ 1 → e.key.line ≡ n → tick_at n e ≡ 1
  tick_is n e k l = both (eqb e.key.class 1) (eqb e.key.line n) (eq-eqb e.key.class 1 k) (eq-eqb e.key.line n l)
    where
      both : (a b : Bool) → a ≡ true → b ≡ true → one (a && b) ≡ 1
      both true true x y = refl
      both true false x y = absurd (false≢true y)
      both false b x y = absurd (false≢true x)

  -- where each tick of clock n is its first, and it is on, there are no more ticks than one where it is on
  few : (n : ℕ) (on : Bool) (es : List (Event L)) → ((i : ℕ) (e : Event L) → slice_get es i ≡ Some e → e.key.class ≡ 1 → e.key.line ≡ n → (on ≡ true) × (total (tick_at n) (take i es) ≡ 0)) → (i : ℕ) → total (tick_at n) (take i es) ≤ one on
  few n on es f zero = omega arith
  few n on es f (suc i) = at_place (few n on es f i) (slice_get es i) refl
    where
      by_tests : total (tick_at n) (take i es) ≤ one on → (e : Event L) → slice_get es i ≡ Some e → (a : Bool) → eqb e.key.class 1 ≡ a → (b : Bool) → eqb e.key.line n ≡ b → total (tick_at n) (take i es) + one (a && b) ≤ one on
      by_tests so_far e g true x true y =
          let k = f i e g (eqb-true e.key.class 1 x) (eqb-true e.key.line n y) in
          let is_on : one on ≡ 1 = ap one k.0 in
          omega (arith, is_on, k.1)
      by_tests so_far e g true x false y = omega (arith, so_far)
      by_tests so_far e g false x b y = omega (arith, so_far)

      at_place : total (tick_at n) (take i es) ≤ one on → (o : Option (Event L)) → slice_get es i ≡ o → total (tick_at n) (take (suc i) es) ≤ one on
      at_place so_far None g = let same = total_past (tick_at n) es i g in omega (arith, same, so_far)
      at_place so_far (Some e) g = let same = total_front (tick_at n) es i e g in let more = by_tests so_far e g (eqb e.key.class 1) refl (eqb e.key.line n) refl in omega (arith, same, more)

-- ---- keys

inner_place : (w : Wiring) (n : ℕ) (l : InnerLine) → inner_at w n ≡ Some l → slice_get w.inner (n - length w.links) ≡ Some l
inner_place w n l h = by_test (ltb n (length w.links)) h
  where
    by_test : (b : Bool) → cond b None (slice_get w.inner (n - length w.links)) ≡ Some l → slice_get w.inner (n - length w.links) ≡ Some l
    by_test true e = absurd (none_some e)
    by_test false e = e

-- whom a key reaches is a component
target_below : (w : Wiring) (count : ℕ) (k : Key) → WiresHold w count → 1 ≤ k.class → is_some (target w k) ≡ true → Reaches count (target w k)
target_below w count k hold no_start there = by_class (eqb k.class 0) refl (eqb k.class 1) (eqb k.class 2) there
  where
    of_inner : (o : Option InnerLine) → inner_at w k.line ≡ o → is_some (of_clock o) ≡ true → Reaches count (of_clock o)
    of_inner None e h = absurd (false≢true h)
    of_inner (Some (inner.Own c i)) e h = absurd (false≢true h)
    of_inner (Some (inner.Clock c i period)) e h = hold.owned (k.line - length w.links) (inner.Clock c i period) (inner_place w k.line (inner.Clock c i period) e)

    of_self : (o : Option InnerLine) → inner_at w k.line ≡ o → is_some (of_own o) ≡ true → Reaches count (of_own o)
    of_self None e h = absurd (false≢true h)
    of_self (Some (inner.Own c i)) e h = hold.owned (k.line - length w.links) (inner.Own c i) (inner_place w k.line (inner.Own c i) e)
    of_self (Some (inner.Clock c i period)) e h = absurd (false≢true h)

    of_out : (o : Option LinkLine) → slice_get w.links k.line ≡ o → is_some (of_link o) ≡ true → Reaches count (of_link o)
    of_out None e h = absurd (false≢true h)
    of_out (Some l) e h = hold.ends k.line l e

    by_place : (b : Bool) → is_some (cond b (of_link (slice_get w.links k.line)) (of_own (inner_at w k.line))) ≡ true → Reaches count (cond b (of_link (slice_get w.links k.line)) (of_own (inner_at w k.line)))
    by_place true h = of_out (slice_get w.links k.line) refl h
    by_place false h = of_self (inner_at w k.line) refl h

    by_class : (a : Bool) → eqb k.class 0 ≡ a → (b d : Bool) → is_some (cond a (Some (k.line, 0)) (cond b (of_clock (inner_at w k.line)) (cond d (of_line w k.line) None))) ≡ true → Reaches count (cond a (Some (k.line, 0)) (cond b (of_clock (inner_at w k.line)) (cond d (of_line w k.line) None)))
    by_class true e b d h = absurd (let zero = eqb-true k.class 0 e in omega (arith, zero))
    by_class false e true d h = of_inner (inner_at w k.line) refl h
    by_class false e false true h = by_place (ltb k.line (length w.links)) h
    by_class false e false false h = absurd (false≢true h)

-- what does not begin before a time does not before an earlier one
not_sooner : {L : Type 0} (now : ℕ) (es : List (Event L)) → begins_before (now + 1) es ≡ false → begins_before 1 es ≡ false
not_sooner now [] h = refl
not_sooner now (e ∷ es) h = let from = ltb-false e.key.time (now + 1) h in le-ltb e.key.time 1 (omega (arith, from))

-- ---- multiples

-- two multiples with a number between them, and no more than a period from it
one_apart : (p q a time now r : ℕ) → 1 ≤ p → p * q ≡ time → p * a + r ≡ now → r < p → now + 1 ≤ time → time ≤ now + p → p * q ≡ p * a + p
one_apart p q a time now r some t n rest above within =
    let low : a < q = lt_of_mul-lt-mul_left p (omega (arith, t, n, above)) in
    let next : p * (a + 1) ≡ p * a + p = grind arith in
    let after_next : p * (a + 2) ≡ p * a + p + p = grind arith in
    let high : q < a + 2 = lt_of_mul-lt-mul_left p (omega (arith, t, n, rest, within, after_next)) in
    let is : q ≡ a + 1 = omega (arith, low, high) in
    ap (λ m. p * m) is ∙ next

-- the one multiple of a period within a period above a time
one_multiple : (now time period : ℕ) → 1 ≤ period → time % period ≡ 0 → now + 1 ≤ time → time ≤ now + period → time ≡ next_multiple now period
one_multiple now time period some whole above within =
    let q = time / period in
    let a = now / period in
    let r = now % period in
    let time_is : period * q ≡ time = let parts : period * (time / period) + time % period ≡ time = omega arith in omega (arith, parts, whole) in
    let now_is : period * a + r ≡ now = omega arith in
    let rest : r < period = omega arith in
    omega (arith, time_is, now_is, rest, one_apart period q a time now r some time_is now_is rest above within)

module _ {S L : Type 0} (kind : Kind S L) (allowed : Allowed S L) (saving : Saving S L) (laws : KindLaws kind allowed) (saves : KindSaves kind allowed saving) where
  -- ---- elements that were restored

  module _ (w : Wiring) (firsts xs : List S) (restored : Restored saving firsts xs) (made : Stands kind allowed w firsts) where
    record Was (c : ℕ) (x : S) : Type 0 where
      first : S
      there : slice_get firsts c ≡ Some first
      is_of : saving.IsOf first x
      alike : kind.Alike first x

    was : (c : ℕ) (x : S) → slice_get xs c ≡ Some x → Was c x
    was c x g =
        let below = get_below xs c x g in
        let f = get_some firsts c (let same = restored.long in omega (arith, below, same)) in
        let is = restored.each c f.0 x f.1 g in
        record { first = f.0; there = f.1; is_of = is; alike = saves.read_alike f.0 x is }

    stands_again : Stands kind allowed w xs
    stands_again = record {
      wires = subst (WiresHold w) (sym restored.long) made.wires;
      agrees = λ n l x y link gx gy load at may.
          let a = was l.sender x gx in
          let b = was l.receiver y gy in
          laws.hears_alike b.first y (cause.Link l.in_port load) at b.alike (made.agrees n l a.first b.first link a.there b.there load at (laws.gives_alike a.first x l.out_port load at a.alike may));
      named = λ c x g. let a = was c x g in named_as kind allowed laws w c a.first x (laws.names_alike a.first x a.alike) (made.named c a.first a.there);
      holds = λ c x g. let a = was c x g in saves.read_holds a.first x a.is_of (made.holds c a.first a.there);
      paired = λ l ch link y is gy in_range.
          let b = was link.receiver y gy in
          let over = laws.same_room b.first y b.alike in
          let below : ch < (meters_of kind).channels b.first link.in_port = (let same = over.channels link.in_port in omega (arith, in_range, same)) in
          let back = made.paired l ch link b.first is b.there below in
          record {
            way = back.way;
            pair = back.pair;
            same = λ x gx.
                let a = was link.sender x gx in
                (laws.same_room a.first x a.alike).channels link.out_port ∙ back.same a.first a.there ∙ sym (over.channels link.in_port);
            limit = λ x gx.
                let a = was link.sender x gx in
                let same = back.same a.first a.there in
                (laws.same_room a.first x a.alike).limit link.out_port ch (omega (arith, below, same)) ∙ back.limit a.first a.there ∙ sym (over.capacity link.in_port ch below);
          };
    }

  -- ---- a sound state is safe

  module _ (w : Wiring) (firsts : List S) (now : ℕ) (s : State S L) (made : Stands kind allowed w firsts) (read : IsRead saving w firsts s) (early : now < 2 ^ 62) (sound : Sound kind w (now + 1) s) where
    stands : Stands kind allowed w s.components
    stands = stands_again w firsts s.components read.restored made

    no_starts : (c : ℕ) (es : List (Event L)) → Each (IsSaved w) es → total (start_at c) es ≡ 0
    no_starts c [] h = refl
    no_starts c (e ∷ es) h =
        let here = no_start c e (λ k l. absurd (let some = h.0.no_start in omega (arith, some, k))) in
        omega (arith, here, no_starts c es h.1)

    ticks_match : TicksMatch kind w s.components s.pending
    ticks_match n c i period x here g = by_on (kind.ticks x i) refl
      where
        first_each : (on : Bool) → kind.ticks x i ≡ on → (k : ℕ) (e : Event L) → slice_get s.pending k ≡ Some e → e.key.class ≡ 1 → e.key.line ≡ n → (on ≡ true) × (total (tick_at n) (take k s.pending) ≡ 0)
        first_each on is k e ge class line =
            let there : inner_at w e.key.line ≡ Some (inner.Clock c i period) = ap (inner_at w) line ∙ here in
            let timed = (sound.times k e ge).tick c i period x class there g in
            (sym is ∙ timed.on, subst (λ m. total (tick_at m) (take k s.pending) ≡ 0) line timed.only)

        all : (on : Bool) → kind.ticks x i ≡ on → total (tick_at n) s.pending ≤ one on
        all on is = subst (λ es. total (tick_at n) es ≤ one on) (take_all (length s.pending) s.pending (omega arith)) (few n on s.pending (first_each on is) (length s.pending))

        by_on : (on : Bool) → kind.ticks x i ≡ on → total (tick_at n) s.pending ≡ one (kind.ticks x i)
        by_on true is = let most = all true is in let least = sound.ticks n c i period x here g is in let same = ap one is in omega (arith, most, least, same)
        by_on false is = let most = all false is in let same = ap one is in omega (arith, most, same)

    pub sound_safe : Safe kind allowed w now s
    sound_safe = record {
      early = early;
      wires = stands.wires;
      agrees = stands.agrees;
      named = stands.named;
      holds = stands.holds;
      elements = sound.elements;
      sorted = read.sorted;
      timely = each_at (IsTimely now) s.pending (λ i e g.
          let timed = sound.times i e g in
          let from = timed.from in
          let some = (each_get (IsSaved w) s.pending i e read.saved g).no_start in
          record { from = omega (arith, from); below = timed.below; start = λ k. absurd (omega (arith, some, k)) });
      real = each_at (IsReal w (length s.components)) s.pending (λ i e g.
          let saved = each_get (IsSaved w) s.pending i e read.saved g in
          record { reaches = target_below w (length s.components) e.key stands.wires saved.no_start saved.real; loaded = saved.loaded });
      heard = each_at (IsHeard kind allowed w s.components (now + 1)) s.pending (λ i e g c why x t gx. sound.payloads i e c why x g t gx);
      in_phase = each_at (IsInPhase w now) s.pending (λ i e g c j period k there.
          let below = stands.wires.owned (e.key.line - length w.links) (inner.Clock c j period) (inner_place w e.key.line (inner.Clock c j period) there) in
          let x = get_some s.components c below in
          let timed = (sound.times i e g).tick c j period x.0 k there x.1 in
          let bounds = clock_period w c j e.key.line period stands.wires.fits (apart_numbers w stands.wires.apart e.key.line c j period there) in
          let is : e.key.time ≡ next_multiple now period = timed.multiple ∙ ap (λ n. next_multiple n period) {x = now + 1 - 1} {y = now} (omega arith) in
          (ap (λ n. n % period) is ∙ next_mod now period bounds.0, omega (arith, is)));
      ticks = ticks_match;
      starts = λ c x g.
          let none = no_starts c s.pending read.saved in
          record {
            few = omega (arith, none);
            begun = λ h. (let a = was w firsts s.components read.restored made c x g in saves.begun a.first x a.is_of);
            first = λ h. absurd (omega (arith, none, h));
            off = λ h i. absurd (omega (arith, none, h));
          };
      paired = stands.paired;
      balanced = sound.flows;
    }

  -- ---- a safe state before whose time nothing is pending is sound, and can be saved

  module _ (w : Wiring) (now : ℕ) (s : State S L) (safe : Safe kind allowed w now s) (handled : begins_before (now + 1) s.pending ≡ false) where
    ahead : Each (λ e. now + 1 ≤ e.key.time) s.pending
    ahead = none_sooner_than kind allowed laws (now + 1) s.pending safe.sorted handled

    timed : (i : ℕ) (e : Event L) → slice_get s.pending i ≡ Some e → Timed kind w (now + 1) s i e
    timed i e g =
        let from = each_get (λ e. now + 1 ≤ e.key.time) s.pending i e ahead g in
        record {
          from = from;
          below = (each_get (IsTimely now) s.pending i e safe.timely g).below;
          tick = λ c j period x k there gx.
              let n = e.key.line in
              let many = safe.ticks n c j period x there gx in
              let here : tick_at n e ≡ 1 = tick_is n e k refl in
              let front = total_front (tick_at n) s.pending i e g in
              let part = total_take (tick_at n) s.pending (suc i) in
              let phase = each_get (IsInPhase w now) s.pending i e safe.in_phase g c j period k there in
              let bounds = clock_period w c j n period safe.wires.fits (apart_numbers w safe.wires.apart n c j period there) in
              record {
                on = on_of (kind.ticks x j) (omega (arith, many, here, front, part));
                only = none_of (kind.ticks x j) (total (tick_at n) (take i s.pending)) (omega (arith, many, here, front, part));
                multiple = one_multiple now e.key.time period bounds.0 phase.0 from phase.1 ∙ ap (λ m. next_multiple m period) {x = now} {y = now + 1 - 1} (omega arith);
              };
        }
      where
        on_of : (b : Bool) → 1 ≤ one b → b ≡ true
        on_of true h = refl
        on_of false h = absurd (omega (arith, h))

        none_of : (b : Bool) (n : ℕ) → n + 1 ≤ one b → n ≡ 0
        none_of true n h = omega (arith, h)
        none_of false n h = absurd (omega (arith, h))

    pub safe_sound : Sound kind w (now + 1) s
    safe_sound = record {
      elements = safe.elements;
      payloads = λ i e c why x g t gx. each_get (IsHeard kind allowed w s.components (now + 1)) s.pending i e safe.heard g c why x t gx;
      times = timed;
      ticks = λ n c j period x there gx on. (let many = safe.ticks n c j period x there gx in let same = ap one on in omega (arith, many, same));
      flows = safe.balanced;
    }

    pub safe_read : (firsts : List S) → AllAlike kind firsts s.components → IsRead saving w firsts s
    safe_read firsts alike = record {
      restored = record {
        long = alike.long;
        each = λ c first x gf gx.
            saves.alike_read first x (alike.each c first x gf gx)
            (saves.states_saved x (now + 1) (let soon = safe.early in omega (arith, soon)) (safe.holds c x gx) (all_begun kind allowed laws w now s c x safe none_at_0 gx) (safe.elements c x gx));
      };
      sorted = safe.sorted;
      saved = each_at (IsSaved w) s.pending (λ i e g.
          let from = each_get (λ e. now + 1 ≤ e.key.time) s.pending i e ahead g in
          let start = (each_get (IsTimely now) s.pending i e safe.timely g).start in
          let real = each_get (IsReal w (length s.components)) s.pending i e safe.real g in
          record { no_start = later e.key.class e.key.time from start; real = reached (target w e.key) real.reaches; loaded = real.loaded });
    }
      where
        later : (class time : ℕ) → now + 1 ≤ time → (class ≡ 0 → time ≡ 0) → 1 ≤ class
        later zero time from start = absurd (let z = start refl in omega (arith, from, z))
        later (suc class) time from start = omega arith

        reached : (o : Option (ℕ × ℕ)) → Reaches (length s.components) o → is_some o ≡ true
        reached None r = absurd r
        reached (Some t) r = refl

        none_at_0 : begins_before 1 s.pending ≡ false
        none_at_0 = not_sooner now s.pending handled

  -- ---- at a time above 0

  pub sound_is_safe : (w : Wiring) (firsts : List S) (at : ℕ) (s : State S L) → Stands kind allowed w firsts → IsRead saving w firsts s → 1 ≤ at → at ≤ 2 ^ 62 → Sound kind w at s → Safe kind allowed w (at - 1) s
  sound_is_safe w firsts at s made read some early sound =
      sound_safe w firsts (at - 1) s made read (omega (arith, some, early)) (subst (λ t. Sound kind w t s) {x = at} {y = at - 1 + 1} (omega (arith, some)) sound)

  module _ (w : Wiring) (now t n : ℕ) (s : State S L) (safe : Safe kind allowed w now s) (above : now < t) (early : t ≤ 2 ^ 62) (until : IsUntil kind.handled w t n s) where
    then_safe : Safe kind allowed w (t - 1) (after kind.handled w n s)
    then_safe = until_safe kind allowed laws w now t n s safe above early until

    is_time : t - 1 + 1 ≡ t
    is_time = omega (arith, above)

    none_left : begins_before (t - 1 + 1) (after kind.handled w n s).pending ≡ false
    none_left = ap (λ m. begins_before m (after kind.handled w n s).pending) is_time ∙ until.done

    pub run_is_sound : Sound kind w t (after kind.handled w n s)
    run_is_sound = subst (λ m. Sound kind w m (after kind.handled w n s)) is_time (safe_sound w (t - 1) (after kind.handled w n s) then_safe none_left)

    pub run_is_read : (firsts : List S) → AllAlike kind firsts s.components → IsRead saving w firsts (after kind.handled w n s)
    run_is_read firsts alike = safe_read w (t - 1) (after kind.handled w n s) then_safe none_left firsts (until_alike kind allowed laws saves.alike_through firsts w now t n s safe above early until alike)
