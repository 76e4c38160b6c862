-- A kind that keeps the local laws has a world, and what it begins with is safe.
use Rattle.std.proofs.Common.{◌≡◌, ℕ, zero, suc, ◌+◌, ◌-◌, ◌^◌, ◌<◌, ◌≤◌, Bool, true, false, List, [], ◌∷◌, length, Option, Some, refl, sym, ap, ◌∙◌, subst, arith}
use Rattle.std.specs.Prelude.{slice_get, slice_set}
use Rattle.std.proofs.lemmas.Bool.{ltb-true, ltb-false}
use Rattle.std.proofs.lemmas.Bool.Decides.{nat_tests}
use Rattle.ss_model.specs.declared.Key.{Key}
use Rattle.ss_model.specs.declared.Event.{Event}
use Rattle.ss_model.specs.declared.Cause.{Cause}
use Rattle.ss_model.specs.declared.Cause.TheVariants as cause
use Rattle.ss_model.specs.declared.Action.{Action}
use Rattle.ss_model.specs.Order.{insert_all, NoneBefore, IsSorted, begins_before}
use Rattle.ss_model.specs.Wiring.{Wiring, told}
use Rattle.ss_model.specs.Step.{State, made_all, again, reacted, step, start_of, starts, opening, after, IsUntil}
use Rattle.ss_model.proofs.Keys.{before_time, IsSorted-insert_all}
use Rattle.ss_element.specs.Kind.{Kind, ActionsFit, ActionFits}
use Rattle.ss_element.specs.World.{World, AllReach}
use Rattle.ss_element.specs.Saving.{Saving, SavingLaws, AllAreOf}
use Rattle.ss_safe.specs.Laws.{meters_of, packet_on, credit_on, Allowed, MayHear, IsDue, MayTell, SendFits, SendsFit, Keeps, KindLaws, KindSaves}
use Rattle.ss_safe.specs.Safe.{IsPair, Balanced, weight_at, Each, total, one, start_at, tick_at, WiresHold, IsTimely, IsReal, IsInPhase, TicksMatch, AllFit, IsHeard, StartsMatch, Safe, Opens}
use Rattle.ss_safe.specs.Kept.Events.{AllActions, made_all_each, again_each, Each-insert_all, Each-behind, Each-both}
use Rattle.ss_safe.specs.Kept.Found.{get_below, get_some, ToldAs, told_as, clock_of, real_told, apart_numbers}
use Rattle.ss_safe.specs.Sound.{AllAlike}
use Rattle.ss_safe.specs.Kept.Steps.{After, reacts, stays, after as became, step_reacts, length_set}
use Rattle.ss_safe.specs.Kept.Times.{timely_later, made_timely, again_timely, made_real, again_real, phase_later, made_phase, again_phase}
use Rattle.ss_safe.specs.Kept.Clocks.{ticks_kept, is_tick}
use Rattle.ss_safe.specs.Kept.Starts.{no_start, is_start, none_behind, starts_kept}
use Rattle.ss_safe.specs.Kept.Flow.{has_room, paired_kept, balanced_kept}
use Rattle.ss_safe.specs.Kept.Loads.{holds_kept, elements_kept, named_kept, acts_named, agrees_kept, heard_kept, made_heard, again_heard}

one_true : (b : Bool) (n : ℕ) → 1 + n ≡ one b → b ≡ true
one_true true n h = refl
one_true false n h = absurd (omega arith)

begins_with : {L : Type 0} (t : ℕ) (p : List (Event L)) → begins_before t p ≡ true → (e : Event L) × (rest : List (Event L)) × (p ≡ e ∷ rest) × (e.key.time < t)
begins_with t [] b = absurd (cc)
begins_with t (e ∷ rest) b = (e, rest, refl, ltb-true e.key.time t b)

-- what is sorted and does not begin before a time has nothing before it
behind_all : {L : Type 0} (t : ℕ) (k : Key) (es : List (Event L)) → t ≤ k.time → NoneBefore k es → Each (λ e. t - 1 ≤ e.key.time) es
behind_all t k [] h n = tt
behind_all t k (e ∷ es) h n = (let b = before_time k e.key n.0 in omega (arith, b), behind_all t k es h n.1)

none_sooner : {L : Type 0} (t : ℕ) (es : List (Event L)) → IsSorted es → begins_before t es ≡ false → Each (λ e. t - 1 ≤ e.key.time) es
none_sooner t [] s b = tt
none_sooner t (e ∷ es) s b = let h = ltb-false e.key.time t b in (omega (arith, h), behind_all t e.key es h s.0)

fit_all : {L : Type 0} (acts : List (Action L)) → ActionsFit acts → AllActions ActionFits acts
fit_all [] h = tt
fit_all (a ∷ acts) h = (h.0, fit_all acts h.1)

send_all : {S L : Type 0} (kind : Kind S L) (allowed : Allowed S L) (x : S) (now : ℕ) (acts : List (Action L)) → SendsFit kind allowed x now acts → AllActions (SendFits kind allowed x now) acts
send_all kind allowed x now [] h = tt
send_all kind allowed x now (a ∷ acts) h = (h.0, send_all kind allowed x now acts h.1)

any_all : {L : Type 0} (acts : List (Action L)) → AllActions (λ a. Unit {0}) acts
any_all [] = tt
any_all (a ∷ acts) = (tt, any_all acts)

module _ {S L : Type 0} (kind : Kind S L) (allowed : Allowed S L) (laws : KindLaws kind allowed) where
  hear_later : (x : S) (at later : ℕ) (why : Cause L) → at ≤ later → later ≤ 2 ^ 62 → MayHear kind x at why → MayHear kind x later why
  hear_later x at later cause.Start up early h = tt
  hear_later x at later (cause.Link p y) up early h = laws.loads_later x (cause.Link p y) at later up early h
  hear_later x at later (cause.Own i y) up early h = laws.loads_later x (cause.Own i y) at later up early h
  hear_later x at later (cause.Tick i) up early h = tt

  -- the next event of a safe state is e
  module _ (w : Wiring) (old : ℕ) (s : State S L) (e : Event L) (rest : List (Event L)) (safe : Safe kind allowed w old s) (is : s.pending ≡ e ∷ rest) (early : e.key.time < 2 ^ 62) where
    now : ℕ
    now = e.key.time

    timely : Each (IsTimely old) (e ∷ rest)
    timely = subst (Each (IsTimely old)) is safe.timely

    real : Each (IsReal w (length s.components)) (e ∷ rest)
    real = subst (Each (IsReal w (length s.components))) is safe.real

    heard : Each (IsHeard kind allowed w s.components (old + 1)) (e ∷ rest)
    heard = subst (Each (IsHeard kind allowed w s.components (old + 1))) is safe.heard

    in_phase : Each (IsInPhase w old) (e ∷ rest)
    in_phase = subst (Each (IsInPhase w old)) is safe.in_phase

    ticks : TicksMatch kind w s.components (e ∷ rest)
    ticks = subst (TicksMatch kind w s.components) is safe.ticks

    starts_are : StartsMatch kind allowed s.components (e ∷ rest)
    starts_are = subst (StartsMatch kind allowed s.components) is safe.starts

    balanced : Balanced (meters_of kind) w s.components (e ∷ rest)
    balanced = subst (Balanced (meters_of kind) w s.components) is safe.balanced

    sorted : IsSorted (e ∷ rest)
    sorted = subst IsSorted is safe.sorted

    up : old ≤ e.key.time
    up = timely.0.from

    fit_now : AllFit kind allowed (e.key.time + 1) s.components
    fit_now c x g = laws.fits_later x (old + 1) (e.key.time + 1) (omega (arith, up)) (omega (arith, early)) (safe.elements c x g)

    hear_now : (x : S) (why : Cause L) → MayHear kind x (old + 1) why → MayHear kind x (e.key.time + 1) why
    hear_now x why h = hear_later x (old + 1) (e.key.time + 1) why (omega (arith, up)) (omega (arith, early)) h

    -- what is behind it, seen from its time
    rest_heard : Each (IsHeard kind allowed w s.components (e.key.time + 1)) rest
    rest_heard = Each-behind (IsHeard kind allowed w s.components (old + 1)) (IsHeard kind allowed w s.components (e.key.time + 1)) e.key.time (λ f l h d other z t g. hear_now z other (h d other z t g)) e.key refl rest sorted.0 heard.1

    module _ (c : ℕ) (x : S) (g : slice_get s.components c ≡ Some x) where
      -- a component that is told of something else than its start has begun
      has_begun : 1 ≤ e.key.class → (total (start_at c) rest ≡ 0) × (kind.begun x ≡ true)
      has_begun k =
          let none = none_behind c old e.key rest k sorted.0 timely.1 in
          let not_here = no_start c e (λ z l. absurd (omega (arith, k, z))) in
          (none, (starts_are c x g).begun (omega (arith, none, not_here)))

      no_more : (why : Cause L) → ToldAs w e.key.class e.key.line e.load c why → total (start_at c) rest ≡ 0
      no_more cause.Start k = let here = is_start c e k.0 k.1 in let few = (starts_are c x g).few in omega (arith, here, few)
      no_more (cause.Link p y) k = (has_begun (omega (arith, k.0))).0
      no_more (cause.Own i y) k = (has_begun (omega (arith, k.0))).0
      no_more (cause.Tick i) k = (has_begun (omega (arith, k.0))).0

      is_due : (why : Cause L) → told w e ≡ Some (c, why) → ToldAs w e.key.class e.key.line e.load c why → IsDue kind allowed x e.key.time why
      is_due cause.Start t k =
          let here = is_start c e k.0 k.1 in
          let few = (starts_are c x g).few in
          let once : total (start_at c) (e ∷ rest) ≡ 1 = omega (arith, here, few) in
          (timely.0.start k.0, (starts_are c x g).first once, (starts_are c x g).off once)
      is_due (cause.Link p y) t k = (has_begun (omega (arith, k.0))).1
      is_due (cause.Own i y) t k = (has_begun (omega (arith, k.0))).1
      is_due (cause.Tick i) t k =
          let clock = clock_of w e.key.line c i k.1 in
          let here = is_tick L w (apart_numbers w safe.wires.apart) e.key.line c i clock.0 clock.1 e t in
          let many = ticks e.key.line c i clock.0 x clock.1 g in
          ((has_begun (omega (arith, k.0))).1, one_true (kind.ticks x i) (total (tick_at e.key.line) rest) (omega (arith, here, many)))

    module _ (c : ℕ) (why : Cause L) (x : S) (t : told w e ≡ Some (c, why)) (g : slice_get s.components c ≡ Some x) where
      pub may_tell : MayTell kind allowed x e.key.time why
      may_tell = record {
        holds = safe.holds c x g;
        fit = fit_now c x g;
        early = early;
        heard = hear_now x why (heard.0 c why x t g);
        due = is_due c x g why t (told_as w e c why t);
        room = has_room (meters_of kind) w s.components e rest c why x t g safe.paired balanced safe.wires.ends;
      }

      keeps : Keeps kind allowed x e.key.time why (kind.handled x e.key.time why)
      keeps = laws.keeps x e.key.time why may_tell

      new : S
      new = (kind.handled x e.key.time why).state

      -- what has a property of what is made and of what was left
      each_news : (P : Event L → Type 0) (acts : List (Action L)) → Each P (again w c e.key.time why acts) → Each P (made_all w c e.key.time acts) → Each P rest → Each P (insert_all (again w c e.key.time why acts) (insert_all (made_all w c e.key.time acts) rest))
      each_news P acts a m r = Each-insert_all P (again w c e.key.time why acts) (insert_all (made_all w c e.key.time acts) rest) a (Each-insert_all P (made_all w c e.key.time acts) rest m r)

      within : c < length s.components
      within = get_below s.components c x g

      reacted_safe : Safe kind allowed w e.key.time (reacted w s.components rest e.key.time c why (kind.handled x e.key.time why))
      reacted_safe =
          let r = kind.handled x e.key.time why in
          let acts = r.actions in
          let fits = safe.wires.fits in
          let same : length s.components ≡ length (slice_set s.components c r.state) = sym (length_set s.components c r.state) in
          record {
            early = early;
            wires = subst (WiresHold w) same safe.wires;
            holds = holds_kept kind allowed laws w s.components c e.key.time why x r g keeps safe.holds;
            agrees = agrees_kept kind allowed laws w s.components c e.key.time why x r g keeps safe.agrees;
            named = named_kept kind allowed laws w s.components c e.key.time why x r g keeps safe.named;
            elements = elements_kept kind allowed laws w s.components c e.key.time why x r g keeps fit_now;
            sorted = IsSorted-insert_all (again w c e.key.time why acts) (insert_all (made_all w c e.key.time acts) rest) (IsSorted-insert_all (made_all w c e.key.time acts) rest sorted.1);
            timely = each_news (IsTimely e.key.time) acts
                (again_each (IsTimely e.key.time) w c e.key.time why acts (λ i n period y f. again_timely w c e.key.time i n period fits f))
                (made_all_each (IsTimely e.key.time) w c e.key.time ActionFits (made_timely w c e.key.time fits) acts (fit_all acts keeps.acts))
                (Each-behind (IsTimely old) (IsTimely e.key.time) e.key.time (timely_later old e.key.time up) e.key refl rest sorted.0 timely.1);
            real = subst (λ n. Each (IsReal w n) (insert_all (again w c e.key.time why acts) (insert_all (made_all w c e.key.time acts) rest))) same (
                each_news (IsReal w (length s.components)) acts
                (again_each (IsReal w (length s.components)) w c e.key.time why acts (λ i n period y f. again_real w (length s.components) safe.wires c e.key.time within i n period f))
                (made_all_each (IsReal w (length s.components)) w c e.key.time (λ a. Unit {0}) (made_real w (length s.components) safe.wires c e.key.time within) acts (any_all acts))
                real.1);
            heard = each_news (IsHeard kind allowed w (slice_set s.components c r.state) (e.key.time + 1)) acts
                (again_each (IsHeard kind allowed w (slice_set s.components c r.state) (e.key.time + 1)) w c e.key.time why acts (λ i n period y f. again_heard kind allowed laws w s.components c e.key.time why x r g keeps (e.key.time + period) n))
                (made_all_each (IsHeard kind allowed w (slice_set s.components c r.state) (e.key.time + 1)) w c e.key.time (SendFits kind allowed x e.key.time) (made_heard kind allowed laws w s.components c e.key.time why x r g keeps safe.agrees) acts (send_all kind allowed x e.key.time acts keeps.sends))
                (Each-behind (IsHeard kind allowed w s.components (e.key.time + 1)) (IsHeard kind allowed w (slice_set s.components c r.state) (e.key.time + 1)) e.key.time (λ f l h. heard_kept kind allowed laws w s.components c e.key.time why x r g keeps f h) e.key refl rest sorted.0 rest_heard);
            in_phase = each_news (IsInPhase w e.key.time) acts
                (again_each (IsInPhase w e.key.time) w c e.key.time why acts (again_phase L w e old e.key.time c why (apart_numbers w safe.wires.apart) refl t in_phase.0))
                (made_all_each (IsInPhase w e.key.time) w c e.key.time (λ a. Unit {0}) (made_phase L w c e.key.time fits) acts (any_all acts))
                (Each-behind (IsInPhase w old) (IsInPhase w e.key.time) e.key.time (phase_later L w old e.key.time up) e.key refl rest sorted.0 in_phase.1);
            ticks = ticks_kept kind w s.components e rest c why x r.state acts (apart_numbers w safe.wires.apart) t g keeps.clocks ticks;
            starts = starts_kept kind allowed w s.components e rest c why x r.state acts t g (no_more c x g why (told_as w e c why t)) keeps.begun starts_are;
            paired = paired_kept (meters_of kind) w s.components e rest c why x t g r keeps.flow (laws.same_room x r.state keeps.alike) safe.paired;
            balanced = balanced_kept (meters_of kind) w s.components e rest c why x t g r keeps.flow (laws.same_room x r.state keeps.alike) balanced;
          }

    step_safe : Safe kind allowed w e.key.time (step kind.handled w s)
    step_safe =
        let who = real_told w (length s.components) e real.0 in
        let there = get_some s.components who.0 who.3 in
        subst (Safe kind allowed w e.key.time) (sym (step_reacts kind.handled w s e rest who.0 who.1 there.0 is who.2 there.1)) (reacted_safe who.0 who.1 there.0 who.2 there.1)

    -- a step leaves each component alike
    step_alike : ((x y z : S) → kind.Alike x y → kind.Alike y z → kind.Alike x z) → (firsts : List S) → AllAlike kind firsts s.components → AllAlike kind firsts (step kind.handled w s).components
    step_alike through firsts old_alike =
        let who = real_told w (length s.components) e real.0 in
        let there = get_some s.components who.0 who.3 in
        let r = kind.handled there.0 e.key.time who.1 in
        subst (λ (z : State S L). AllAlike kind firsts z.components) (sym (step_reacts kind.handled w s e rest who.0 who.1 there.0 is who.2 there.1)) (record {
          long = length_set s.components who.0 r.state ∙ old_alike.long;
          each = λ c first x gf gx. by_component who.0 there.0 r.state (keeps who.0 who.1 there.0 who.2 there.1).alike there.1 c first x gf (became s.components who.0 there.0 r.state c x there.1 gx);
        })
      where
        by_component : (d : ℕ) (was is_now : S) → kind.Alike was is_now → slice_get s.components d ≡ Some was → (c : ℕ) (first x : S) → slice_get firsts c ≡ Some first → After s.components d is_now c x → kind.Alike first x
        by_component d was is_now k g c first x gf (reacts same is_new) =
            let mine : kind.Alike first was = old_alike.each c first was gf (ap (slice_get s.components) (sym same) ∙ g) in
            subst (kind.Alike first) is_new (through first was is_now mine k)
        by_component d was is_now k g c first x gf (stays other is_old) = old_alike.each c first x gf is_old

  -- a state that is safe at a time is so at each later one before which nothing is pending
  pub safe_later : (w : Wiring) (now later : ℕ) (s : State S L) → Safe kind allowed w now s → now ≤ later → later < 2 ^ 62 → Each (λ e. later ≤ e.key.time) s.pending → Safe kind allowed w later s
  safe_later w now later s safe up early ahead = record {
    early = early;
    wires = safe.wires;
    agrees = safe.agrees;
    named = safe.named;
    holds = safe.holds;
    elements = λ c x g. laws.fits_later x (now + 1) (later + 1) (omega (arith, up)) (omega (arith, early)) (safe.elements c x g);
    sorted = safe.sorted;
    timely = Each-both (λ e. later ≤ e.key.time) (IsTimely now) (IsTimely later) (timely_later now later up) s.pending ahead safe.timely;
    real = safe.real;
    heard = Each-both (λ e. later ≤ e.key.time) (IsHeard kind allowed w s.components (now + 1)) (IsHeard kind allowed w s.components (later + 1)) (λ e l h c why x t g. hear_later x (now + 1) (later + 1) why (omega (arith, up)) (omega (arith, early)) (h c why x t g)) s.pending ahead safe.heard;
    in_phase = Each-both (λ e. later ≤ e.key.time) (IsInPhase w now) (IsInPhase w later) (phase_later L w now later up) s.pending ahead safe.in_phase;
    ticks = safe.ticks;
    starts = safe.starts;
    paired = safe.paired;
    balanced = safe.balanced;
  }

  -- a run is safe at each of its steps
  pub record SafeBefore (w : Wiring) (t : ℕ) (s : State S L) : Type 0 where
    pub now : ℕ
    pub before : now < t
    pub safe : Safe kind allowed w now s

  after_safe : (w : Wiring) (now t n : ℕ) (s : State S L) → now < t → t ≤ 2 ^ 62 → Safe kind allowed w now s → ((k : ℕ) → k < n → begins_before t (after kind.handled w k s).pending ≡ true) → SafeBefore w t (after kind.handled w n s)
  after_safe w now t zero s h early safe each = record { now = now; before = h; safe = safe }
  after_safe w now t (suc n) s h early safe each =
      let there = after_safe w now t n s h early safe (λ k l. each k (omega arith)) in
      let first = begins_with t (after kind.handled w n s).pending (each n (omega arith)) in
      record {
        now = first.0.key.time;
        before = first.3;
        safe = step_safe w there.now (after kind.handled w n s) first.0 first.1 there.safe first.2 (omega (arith, first.3));
      }

  -- and so is what it leaves when all events before a time are handled, just before that time
  pub until_safe : (w : Wiring) (now t n : ℕ) (s : State S L) → Safe kind allowed w now s → now < t → t ≤ 2 ^ 62 → IsUntil kind.handled w t n s → Safe kind allowed w (t - 1) (after kind.handled w n s)
  until_safe w now t n s safe h early until =
      let there = after_safe w now t n s h early safe until.each in
      let before = there.before in
      safe_later w there.now (t - 1) (after kind.handled w n s) there.safe (omega arith) (omega arith) (none_sooner t (after kind.handled w n s).pending there.safe.sorted until.done)

  -- and so does a run
  after_alike : ((x y z : S) → kind.Alike x y → kind.Alike y z → kind.Alike x z) → (firsts : List S) (w : Wiring) (now t n : ℕ) (s : State S L) → now < t → t ≤ 2 ^ 62 → Safe kind allowed w now s → ((k : ℕ) → k < n → begins_before t (after kind.handled w k s).pending ≡ true) → AllAlike kind firsts s.components → AllAlike kind firsts (after kind.handled w n s).components
  after_alike through firsts w now t zero s h early safe each alike = alike
  after_alike through firsts w now t (suc n) s h early safe each alike =
      let there = after_safe w now t n s h early safe (λ k l. each k (omega arith)) in
      let first = begins_with t (after kind.handled w n s).pending (each n (omega arith)) in
      step_alike w there.now (after kind.handled w n s) first.0 first.1 there.safe first.2 (omega (arith, first.3)) through firsts
      (after_alike through firsts w now t n s h early safe (λ k l. each k (omega arith)) alike)

  pub until_alike : ((x y z : S) → kind.Alike x y → kind.Alike y z → kind.Alike x z) → (firsts : List S) (w : Wiring) (now t n : ℕ) (s : State S L) → Safe kind allowed w now s → now < t → t ≤ 2 ^ 62 → IsUntil kind.handled w t n s → AllAlike kind firsts s.components → AllAlike kind firsts (after kind.handled w n s).components
  until_alike through firsts w now t n s safe h early until alike = after_alike through firsts w now t n s h early safe until.each alike

  -- each event of a safe state tells a component
  reaches : (w : Wiring) (xs : List S) (es : List (Event L)) → Each (IsReal w (length xs)) es → AllReach w xs es
  reaches w xs [] h = tt
  reaches w xs (e ∷ es) h =
      let who = real_told w (length xs) e h.0 in
      let there = get_some xs who.0 who.3 in
      (record { component = who.0; why = who.1; state = there.0; told = who.2; there = there.1 }, reaches w xs es h.1)

  -- where nothing is pending before time 1, no start is
  no_starts : (now c : ℕ) (es : List (Event L)) → Each (λ e. 1 ≤ e.key.time) es → Each (IsTimely now) es → total (start_at c) es ≡ 0
  no_starts now c [] h t = refl
  no_starts now c (e ∷ es) h t =
      let here = no_start c e (λ k l. absurd (let zero = t.0.start k in omega (arith, h.0, zero))) in
      omega (arith, here, no_starts now c es h.1 t.1)

  ahead : (t : ℕ) (k : Key) (es : List (Event L)) → t ≤ k.time → NoneBefore k es → Each (λ e. t ≤ e.key.time) es
  ahead t k [] h n = tt
  ahead t k (e ∷ es) h n = (let b = before_time k e.key n.0 in omega (arith, b), ahead t k es h n.1)

  pub none_sooner_than : (t : ℕ) (es : List (Event L)) → IsSorted es → begins_before t es ≡ false → Each (λ e. t ≤ e.key.time) es
  none_sooner_than t [] s b = tt
  none_sooner_than t (e ∷ es) s b = let h = ltb-false e.key.time t b in (h, ahead t e.key es h s.0)

  pub all_begun : (w : Wiring) (now : ℕ) (s : State S L) (c : ℕ) (x : S) → Safe kind allowed w now s → begins_before 1 s.pending ≡ false → slice_get s.components c ≡ Some x → kind.begun x ≡ true
  all_begun w now s c x safe b g = (safe.starts c x g).begun (no_starts now c s.pending (none_sooner_than 1 s.pending safe.sorted b) safe.timely)

  pub world_of : World kind (Safe kind allowed)
  world_of = record {
    wires = λ w now s safe. safe.wires.fits;
    sorted = λ w now s safe. safe.sorted;
    not_before = λ w now s e rest safe is. (subst (Each (IsTimely now)) is safe.timely).0.from;
    reach = λ w now s safe. reaches w s.components s.pending safe.real;
    meets = λ w now s e c why x safe next. laws.meets x e.key.time why (may_tell w now s e next.rest safe next.pending next.early c why x next.told next.component);
    acts = λ w now s e c why x safe next. (laws.keeps x e.key.time why (may_tell w now s e next.rest safe next.pending next.early c why x next.told next.component)).acts;
    named = λ w now s e c why x safe next.
        let kept = laws.keeps x e.key.time why (may_tell w now s e next.rest safe next.pending next.early c why x next.told next.component) in
        acts_named kind allowed laws w c x (safe.named c x next.component) (kind.handled x e.key.time why).actions kept.names;
    steps = λ w now s e rest safe is early. step_safe w now s e rest safe is early;
    begun = λ w now s c x safe b g. all_begun w now s c x safe b g;
    primary_stays = laws.primary_stays;
    done_stays = laws.done_stays;
    fits_later = laws.fits_later;
    loads_later = laws.loads_later;
  }

  module _ (saving : Saving S L) (saves : KindSaves kind allowed saving) where
    all_of : (w : Wiring) (xs : List S) (at : ℕ) (early : at ≤ 2 ^ 62) (hold : (c : ℕ) (x : S) → slice_get xs c ≡ Some x → allowed.holds x) (es : List (Event L)) → Each (IsHeard kind allowed w xs at) es → AllAreOf saving w xs es
    all_of w xs at early hold [] h = tt
    all_of w xs at early hold (e ∷ es) h = (λ c why x t g. saves.loads_saved x why at early (hold c x g) (h.0 c why x t g), all_of w xs at early hold es h.1)

    pub saved_of : (weighs : L → Option (Bool × ℕ × ℕ)) (spells : L → List ℕ) → ((y : L) → kind.weight y ≡ weighs y) → ((y : L) → saving.spell_load y ≡ spells y) → SavingLaws kind saving (Safe kind allowed) weighs spells
    saved_of weighs spells weights spellings = record {
      states = saves.states;
      loads = saves.loads;
      begun = saves.begun;
      read_alike = saves.read_alike;
      alike_same = saves.alike_same;
      alike_through = saves.alike_through;
      handled_alike = saves.handled_alike;
      alike_read = saves.alike_read;
      states_saved = λ w now s c x safe g b. saves.states_saved x (now + 1) (let soon = safe.early in omega (arith, soon)) (safe.holds c x g) b (safe.elements c x g);
      loads_saved = λ w now s safe. all_of w s.components (now + 1) (let soon = safe.early in omega (arith, soon)) safe.holds s.pending safe.heard;
      weights = weights;
      spellings = spellings;
    }

-- ---- the opening

none_before : {S : Type 0} (L : Type 0) (m n : ℕ) (xs : List S) → m ≤ n → NoneBefore {L = L} (start_of {L = L} m).key (starts n xs)
none_before L m n [] h = tt
none_before L m n (x ∷ xs) h = (grind (arith, nat_tests), none_before L m (n + 1) xs (omega arith))

starts_sorted : {S : Type 0} (L : Type 0) (n : ℕ) (xs : List S) → IsSorted {L = L} (starts n xs)
starts_sorted L n [] = tt
starts_sorted L n (x ∷ xs) = (none_before L n (n + 1) xs (omega arith), starts_sorted L (n + 1) xs)

-- the starts from number n on
starts_each : {S L : Type 0} (P : Event L → Type 0) (count : ℕ) → ((c : ℕ) → c < count → P (start_of c)) → (n : ℕ) (xs : List S) → n + length xs ≤ count → Each P (starts n xs)
starts_each P count f n [] h = tt
starts_each P count f n (x ∷ xs) h = (f n (omega arith), starts_each P count f (n + 1) xs (omega arith))

-- a component has one start among them
starts_before : {S : Type 0} (L : Type 0) (c n : ℕ) (xs : List S) → c < n → total {L = L} (start_at c) (starts n xs) ≡ 0
starts_before L c n [] h = refl
starts_before L c n (x ∷ xs) h = let here = no_start {L = L} c (start_of n) (λ k l. absurd (omega (arith, h, l))) in omega (arith, here, starts_before L c (n + 1) xs (omega arith))

starts_once : {S : Type 0} (L : Type 0) (c n d : ℕ) (xs : List S) → c ≡ n + d → d < length xs → total {L = L} (start_at c) (starts n xs) ≡ 1
starts_once L c n d [] e h = absurd (omega arith)
starts_once L c n zero (x ∷ xs) e h = let here = is_start {L = L} c (start_of n) refl (omega (arith, e)) in omega (arith, here, starts_before L c (n + 1) xs (omega arith))
starts_once L c n (suc d) (x ∷ xs) e h = let here = no_start {L = L} c (start_of n) (λ k l. absurd (omega (arith, e, l))) in omega (arith, here, starts_once L c (n + 1) d xs (omega arith) (omega arith))

module _ {S L : Type 0} (kind : Kind S L) (allowed : Allowed S L) where
  -- a simulation that is about to begin is safe at time 0
  pub opening_safe : (w : Wiring) (xs : List S) → Opens kind allowed w xs → Safe kind allowed w 0 (opening xs)
  opening_safe w xs opens = record {
    early = omega arith;
    wires = opens.stands.wires;
    agrees = opens.stands.agrees;
    named = opens.stands.named;
    holds = opens.stands.holds;
    elements = opens.elements;
    sorted = starts_sorted L 0 xs;
    timely = starts_each (IsTimely 0) (length xs) (λ c h. record { from = omega arith; below = omega arith; start = λ k. refl }) 0 xs (omega arith);
    real = starts_each (IsReal w (length xs)) (length xs) (λ c h. record { reaches = h; loaded = refl }) 0 xs (omega arith);
    heard = starts_each (IsHeard kind allowed w xs 1) (length xs) (λ c h d why x t g. start_heard c d why x t) 0 xs (omega arith);
    in_phase = starts_each (IsInPhase w 0) (length xs) (λ c h d i p k g. absurd (cc)) 0 xs (omega arith);
    ticks = λ n c i period x here g. no_ticks n 0 xs ∙ sym (ap one (opens.off c x i g));
    starts = λ c x g.
        let once : total {L = L} (start_at c) (starts 0 xs) ≡ 1 = starts_once L c 0 c xs (omega arith) (get_below xs c x g) in
        record {
          few = omega (arith, once);
          begun = λ h. absurd (omega (arith, once, h));
          first = λ h. opens.first c x g;
          off = λ h i. opens.off c x i g;
        };
    paired = opens.stands.paired;
    balanced = λ l ch k a p b q x y pair gx gy in_x in_y.
        let fresh = opens.credits l k a p b q ch x y pair gx gy in_x in_y in
        omega (arith, fresh.0, fresh.1, no_weight (packet_on (meters_of kind) ch) l 0 xs, no_weight (credit_on (meters_of kind) ch) k 0 xs);
  }
    where
      start_heard : (c d : ℕ) (why : Cause L) (x : S) → told {L = L} w (start_of c) ≡ Some (d, why) → MayHear kind x 1 why
      start_heard c d cause.Start x t = tt
      start_heard c d (cause.Link p y) x t = absurd (let k = (told_as {L = L} w (start_of c) d (cause.Link p y) t).0 in cc)
      start_heard c d (cause.Own i y) x t = absurd (let k = (told_as {L = L} w (start_of c) d (cause.Own i y) t).0 in cc)
      start_heard c d (cause.Tick i) x t = tt

      no_ticks : (n k : ℕ) (ys : List S) → total {L = L} (tick_at n) (starts k ys) ≡ 0
      no_ticks n k [] = refl
      no_ticks n k (y ∷ ys) = omega (arith, no_ticks n (k + 1) ys)

      no_weight : (m : L → ℕ) (l n : ℕ) (ys : List S) → total {L = L} (weight_at m l) (starts n ys) ≡ 0
      no_weight m l n [] = refl
      no_weight m l n (y ∷ ys) = omega (arith, no_weight m l (n + 1) ys)

  -- credits never exceed what the queue that they are for can hold, nor do the flits in it
  pub within_capacity : (w : Wiring) (now : ℕ) (s : State S L) → Safe kind allowed w now s → (l k a p b q ch : ℕ) (x y : S) → IsPair w l k a p b q → slice_get s.components a ≡ Some x → slice_get s.components b ≡ Some y → ch < (meters_of kind).channels x p → ch < (meters_of kind).channels y q → ((meters_of kind).credits x p ch ≤ (meters_of kind).capacity y q ch) × ((meters_of kind).queued y q ch ≤ (meters_of kind).capacity y q ch)
  within_capacity w now s safe l k a p b q ch x y pair gx gy in_x in_y =
      let sum = safe.balanced l ch k a p b q x y pair gx gy in_x in_y in
      (omega (arith, sum), omega (arith, sum))
