-- What one step does, and that it takes one event of those before a time.
use Rattle.std.proofs.Common.{◌≡◌, ℕ, zero, suc, ◌+◌, ◌-◌, ◌%◌, ◌^◌, ◌<◌, ◌≤◌, Bool, true, false, cond, eqb, List, [], ◌∷◌, ◌++◌, length, get_or, Option, Some, None, refl, sym, ap, ◌∙◌, subst, arith}
use Rattle.std.specs.Prelude.{slice_get, nat_lt}
use Rattle.std.proofs.lemmas.Bool.Decides.{nat_tests}
use Rattle.ss_model.specs.declared.Key.{Key}
use Rattle.ss_model.specs.declared.Event.{Event}
use Rattle.ss_model.specs.declared.Cause.{Cause}
use Rattle.ss_model.specs.declared.Cause.TheVariants as cause
use Rattle.ss_model.specs.declared.Action.{Action}
use Rattle.ss_model.specs.declared.Action.TheVariants as action
use Rattle.ss_model.specs.Order.{key_before, insert, insert_all, NoneBefore, IsSorted, begins_before}
use Rattle.ss_model.specs.Wiring.{Wiring, WiringFits, SecondFits, link_at, own_at, clock_at, of_clock, of_line, inner_at, target, told_load, told_of, told}
use Rattle.ss_model.specs.Step.{State, Reaction, sent, sent_own, turned_on, made, made_all, turns_off, ticks_on, again, reaction, passed, reacted, printed, step_reacted, step_told, step_from, step, after, lines_told}
use Rattle.ss_model.proofs.Runs.{insert_all-append, after_add}
use Rattle.ss_model.proofs.Keys.{before_time}
use Rattle.ss_element.specs.Index.{again_of}
use Rattle.ss_element.specs.Kind.{Kind, ActionFits, ActionsFit}
use Rattle.ss_element.specs.World.{World, IsNext, IsSafe}
use Rattle.ss_element.proofs.Places.{link_at_fits, clock_at_fits}
use Rattle.ss_serial.specs.Serial.{AllFrom, MayReact, TicksOn, count_before}

-- ---- what an event tells

pub get_some : {S : Type 0} (xs : List S) (i : ℕ) (x : S) → i < length xs → x ≡ get_or xs i x → slice_get xs i ≡ Some x
get_some [] i x l e = absurd (omega arith)
get_some (y ∷ ys) zero x l e = ap Some (sym e)
get_some (y ∷ ys) (suc i) x l e = get_some ys i x (omega arith) e

get_none : {S : Type 0} (xs : List S) (i : ℕ) → length xs ≤ i → slice_get xs i ≡ None
get_none [] i l = refl
get_none (y ∷ ys) zero l = absurd (omega arith)
get_none (y ∷ ys) (suc i) l = get_none ys i (omega arith)

module _ {S L : Type 0} (handled : S → ℕ → Cause L → Reaction S L) (w : Wiring) (components : List S) (rest : List (Event L)) (k : Key) (told : Option (ℕ × Cause L)) where
  pub told_none : told ≡ None → (step_told handled w components rest k.time told ≡ passed components rest k.time) × (lines_told handled components k told ≡ [])
  told_none e = rw e (refl, refl)

  pub told_absent : (c : ℕ) (why : Cause L) → told ≡ Some (c, why) → length components ≤ c → (step_told handled w components rest k.time told ≡ passed components rest k.time) × (lines_told handled components k told ≡ [])
  told_absent c why e h = rw (e, get_none components c h) (refl, refl)

  pub told_some : (c : ℕ) (why : Cause L) (x : S) → told ≡ Some (c, why) → c < length components → x ≡ get_or components c x → (step_told handled w components rest k.time told ≡ reacted w components rest k.time c why (handled x k.time why)) × (lines_told handled components k told ≡ printed k (handled x k.time why).actions)
  told_some c why x e h g = rw (e, get_some components c x h g) (refl, refl)

-- a tick's cause comes from its clock's line
module _ {L : Type 0} (w : Wiring) (n c : ℕ) (why : Cause L) where
  told_arrival : (link : Bool) (r : ℕ × ℕ) (load : Option L) → told_load link r load ≡ Some (c, why) → TicksOn w c n why
  told_arrival link r None t = absurd (cc)
  told_arrival true r (Some x) t =
      let pair : (r.0, cause.Link r.1 x) ≡ (c, why) = cc in
      subst (TicksOn w c n) (ap (λ (p : ℕ × Cause L). p.1) pair) tt
  told_arrival false r (Some x) t =
      let pair : (r.0, cause.Own r.1 x) ≡ (c, why) = cc in
      subst (TicksOn w c n) (ap (λ (p : ℕ × Cause L). p.1) pair) tt

  told_ticks : (start ticks link : Bool) (r : ℕ × ℕ) (load : Option L) → (start ≡ false → ticks ≡ true → of_clock (inner_at w n) ≡ Some r) → cond start (Some (r.0, cause.Start)) (cond ticks (Some (r.0, cause.Tick r.1)) (told_load link r load)) ≡ Some (c, why) → TicksOn w c n why
  told_ticks true ticks link r load h t =
      let pair : (r.0, cause.Start) ≡ (c, why) = cc in
      subst (TicksOn w c n) (ap (λ (p : ℕ × Cause L). p.1) pair) tt
  told_ticks false true link r load h t =
      let pair : (r.0, cause.Tick r.1) ≡ (c, why) = cc in
      subst (TicksOn w c n) (ap (λ (p : ℕ × Cause L). p.1) pair) (ap (again_of w) (h refl refl) ∙ ap (λ (p : ℕ × Cause L). clock_at w p.0 r.1) pair)
  told_ticks false false link r load h t = told_arrival link r load t

clock_target : (start ticks : Bool) (r : ℕ × ℕ) (x y z : Option (ℕ × ℕ)) → cond start x (cond ticks y z) ≡ Some r → start ≡ false → ticks ≡ true → y ≡ Some r
clock_target true ticks r x y z e s t = absurd (cc)
clock_target false true r x y z e s t = e
clock_target false false r x y z e s t = absurd (cc)

pub ticks_from_line : {L : Type 0} (w : Wiring) (e : Event L) (c : ℕ) (why : Cause L) → told w e ≡ Some (c, why) → TicksOn w c e.key.line why
ticks_from_line w e c why t = at_target (target w e.key) refl t
  where
    at_target : (o : Option (ℕ × ℕ)) → target w e.key ≡ o → told_of w e.key.class e.key.line o e.load ≡ Some (c, why) → TicksOn w c e.key.line why
    at_target None is t = absurd (cc)
    at_target (Some r) is t = told_ticks w e.key.line c why (eqb e.key.class 0) (eqb e.key.class 1) (nat_lt e.key.line (length w.links)) r e.load (clock_target (eqb e.key.class 0) (eqb e.key.class 1) r (Some (e.key.line, 0)) (of_clock (inner_at w e.key.line)) (cond (eqb e.key.class 2) (of_line w e.key.line) None) is) t

-- ---- what is made comes later

AllFrom-earlier : {L : Type 0} (now u : ℕ) (es : List (Event L)) → now ≤ u → AllFrom u es → AllFrom now es
AllFrom-earlier now u [] h f = tt
AllFrom-earlier now u (e ∷ es) h f = (omega (arith, f.0), AllFrom-earlier now u es h f.1)

AllFrom-append : {L : Type 0} (u : ℕ) (xs ys : List (Event L)) → AllFrom u xs → AllFrom u ys → AllFrom u (xs ++ ys)
AllFrom-append u [] ys f g = g
AllFrom-append u (x ∷ xs) ys f g = (f.0, AllFrom-append u xs ys f.1 g)

AllFrom-insert : {L : Type 0} (u : ℕ) (e : Event L) (xs : List (Event L)) → u ≤ e.key.time → AllFrom u xs → AllFrom u (insert e xs)
AllFrom-insert u e [] h f = (h, tt)
AllFrom-insert u e (x ∷ xs) h f = put (key_before e.key x.key) (AllFrom-insert u e xs h f.1)
  where
    put : (b : Bool) → AllFrom u (insert e xs) → AllFrom u (cond b (e ∷ x ∷ xs) (x ∷ insert e xs))
    put true r = (h, f)
    put false r = (f.0, r)

AllFrom-insert_all : {L : Type 0} (u : ℕ) (es xs : List (Event L)) → AllFrom u es → AllFrom u xs → AllFrom u (insert_all es xs)
AllFrom-insert_all u [] xs g f = f
AllFrom-insert_all u (e ∷ es) xs g f = AllFrom-insert_all u es (insert e xs) g.1 (AllFrom-insert u e xs g.0 f)

-- those behind the first are no earlier
AllFrom-rest : {L : Type 0} (k : Key) (xs : List (Event L)) → NoneBefore k xs → AllFrom k.time xs
AllFrom-rest k [] n = tt
AllFrom-rest k (x ∷ xs) n = (before_time k x.key n.0, AllFrom-rest k xs n.1)

module _ {L : Type 0} (w : Wiring) (c now : ℕ) (h : WiringFits w) where
  made_later : (a : Action L) → ActionFits a → AllFrom (now + 1) (made w c now a)
  made_later (action.Send p extra x) f = at_link (link_at w c p) (link_at_fits w c p h)
    where
      at_link : (o : Option (ℕ × ℕ)) → SecondFits o → AllFrom (now + 1) (sent o (now + extra) x)
      at_link None s = tt
      at_link (Some (n, latency)) s = (omega (arith, s.0), tt)
  made_later (action.SelfSend i delay x) f = at_own (own_at w c i)
    where
      at_own : (o : Option ℕ) → AllFrom (now + 1) (sent_own o (now + delay) x)
      at_own None = tt
      at_own (Some n) = (omega (arith, f.0), tt)
  made_later (action.ClockOn i) f = at_clock (clock_at w c i) (clock_at_fits w c i h)
    where
      at_clock : (o : Option (ℕ × ℕ)) → SecondFits o → AllFrom {L = L} (now + 1) (turned_on o now)
      at_clock None s = tt
      at_clock (Some (n, period)) s = (later n period s.0, tt)
        where
          later : (n period : ℕ) → 1 ≤ period → now + 1 ≤ now + (period - now % period)
          later n period s = omega arith
  made_later (action.ClockOff i) f = tt
  made_later (action.Print text) f = tt

  made_all_later : (acts : List (Action L)) → ActionsFit acts → AllFrom (now + 1) (made_all w c now acts)
  made_all_later [] f = tt
  made_all_later (a ∷ acts) f = AllFrom-append (now + 1) (made w c now a) (made_all w c now acts) (made_later a f.0) (made_all_later acts f.1)

  again_later : (why : Cause L) (acts : List (Action L)) → AllFrom (now + 1) (again w c now why acts)
  again_later cause.Start acts = tt
  again_later (cause.Link p x) acts = tt
  again_later (cause.Own i x) acts = tt
  again_later (cause.Tick i) acts = at_off (turns_off i acts)
    where
      at_clock : (o : Option (ℕ × ℕ)) → SecondFits o → AllFrom {L = L} (now + 1) (ticks_on o now)
      at_clock None s = tt
      at_clock (Some (n, period)) s = (omega (arith, s.0), tt)

      at_off : (b : Bool) → AllFrom {L = L} (now + 1) (cond b [] (ticks_on (clock_at w c i) now))
      at_off true = tt
      at_off false = at_clock (clock_at w c i) (clock_at_fits w c i h)

-- ---- one step

-- only later events come beside those that were left
record Follows {S L : Type 0} (now : ℕ) (rest : List (Event L)) (s : State S L) : Type 0 where
  news : List (Event L)
  later : AllFrom (now + 1) news
  pending : s.pending ≡ insert_all news rest

module _ {S L : Type 0} (handled : S → ℕ → Cause L → Reaction S L) (w : Wiring) (xs : List S) (rest : List (Event L)) (now : ℕ) (h : WiringFits w) where
  reacted_follows : (c : ℕ) (why : Cause L) (x : S) → ActionsFit (handled x now why).actions → Follows now rest (reacted w xs rest now c why (handled x now why))
  reacted_follows c why x f =
      let acts = (handled x now why).actions in
      record {
        news = made_all w c now acts ++ again w c now why acts;
        later = AllFrom-append (now + 1) (made_all w c now acts) (again w c now why acts) (made_all_later w c now h acts f) (again_later w c now h why acts);
        pending = sym (insert_all-append (made_all w c now acts) (again w c now why acts) rest);
      }

  passed_follows : Follows now rest (passed xs rest now)
  passed_follows = record { news = []; later = tt; pending = refl }

  told_follows : (o : Option (ℕ × Cause L)) → ((c : ℕ) (why : Cause L) (x : S) → o ≡ Some (c, why) → slice_get xs c ≡ Some x → ActionsFit (handled x now why).actions) → Follows now rest (step_told handled w xs rest now o)
  told_follows None f = passed_follows
  told_follows (Some (c, why)) f = at_component (slice_get xs c) (λ x e. f c why x refl e)
    where
      at_component : (o : Option S) → ((x : S) → o ≡ Some x → ActionsFit (handled x now why).actions) → Follows now rest (step_reacted w xs rest now c why (reaction handled now why o))
      at_component None g = passed_follows
      at_component (Some x) g = reacted_follows c why x (g x refl)

-- later events don't count
count_insert : {L : Type 0} (t : ℕ) (e : Event L) (xs : List (Event L)) → t ≤ e.key.time → count_before t (insert e xs) ≡ count_before t xs
count_insert t e [] h = grind (arith, nat_tests)
count_insert t e (x ∷ xs) h = put (key_before e.key x.key) (count_insert t e xs h)
  where
    put : (b : Bool) → count_before t (insert e xs) ≡ count_before t xs → count_before t (cond b (e ∷ x ∷ xs) (x ∷ insert e xs)) ≡ count_before t (x ∷ xs)
    put true r = grind (arith, nat_tests)
    put false r = grind (arith, nat_tests)

count_insert_all : {L : Type 0} (t : ℕ) (es xs : List (Event L)) → AllFrom t es → count_before t (insert_all es xs) ≡ count_before t xs
count_insert_all t [] xs f = refl
count_insert_all t (e ∷ es) xs f = count_insert_all t es (insert e xs) f.1 ∙ count_insert t e xs f.0

record Begins {L : Type 0} (t : ℕ) (p : List (Event L)) : Type 0 where
  first : Event L
  rest : List (Event L)
  is : p ≡ first ∷ rest
  early : first.key.time < t

begins : {L : Type 0} (t : ℕ) (p : List (Event L)) → begins_before t p ≡ true → Begins t p
begins t [] b = absurd (cc)
begins t (e ∷ rest) b = record { first = e; rest = rest; is = refl; early = grind (arith, nat_tests) }

-- where the first event isn't before a time, none is
from_begins : {L : Type 0} (u : ℕ) (p : List (Event L)) → begins_before u p ≡ false → IsSorted p → AllFrom u p
from_begins u [] b s = tt
from_begins u (e ∷ rest) b s =
    let first : u ≤ e.key.time = grind (arith, nat_tests) in
    (first, AllFrom-earlier u e.key.time rest first (AllFrom-rest e.key rest s.0))

none_counted : {L : Type 0} (u : ℕ) (p : List (Event L)) → AllFrom u p → count_before u p ≡ 0
none_counted u [] f = refl
none_counted u (e ∷ rest) f =
    let rest_none = none_counted u rest f.1 in
    let first = f.0 in
    grind (arith, nat_tests)

pub all_from_zero : {L : Type 0} (p : List (Event L)) → AllFrom 0 p
all_from_zero [] = tt
all_from_zero (e ∷ rest) = (omega arith, all_from_zero rest)

after_first : {S L : Type 0} (handled : S → ℕ → Cause L → Reaction S L) (w : Wiring) (n : ℕ) (s : State S L) → after handled w (n + 1) s ≡ after handled w n (step handled w s)
after_first handled w n s = ap (λ k. after handled w k s) {x = n + 1} {y = 1 + n} (omega arith) ∙ after_add handled w 1 n s

-- how many steps are left to the time t, where nothing is left before t - d: at each time from there on as many as events then come at it
abbrev pub steps_left : {S L : Type 0} (handled : S → ℕ → Cause L → Reaction S L) → Wiring → ℕ → ℕ → State S L → ℕ
steps_left handled w t zero s = 0
steps_left handled w t (suc d) s = count_before (t - d) s.pending + steps_left handled w t d (after handled w (count_before (t - d) s.pending) s)

module _ {S L : Type 0} (kind : Kind S L) (Safe : Wiring → ℕ → State S L → Type 0) (world : World kind Safe) where
  -- who is told of the next event may be told so
  pub may_react : (w : Wiring) (s : State S L) (e : Event L) (rest : List (Event L)) → IsSafe kind Safe w s → s.pending ≡ e ∷ rest → e.key.time < 2 ^ 62 → MayReact kind w s.components e
  may_react w s e rest safe is early =
      let next : (c : ℕ) (why : Cause L) (x : S) → told w e ≡ Some (c, why) → slice_get s.components c ≡ Some x → IsNext kind w s e c why x = λ c why x t g. record { rest = rest; pending = is; early = early; told = t; component = g } in
      record {
        meets = λ c why x t g. world.meets w safe.0 s e c why x safe.1 (next c why x t g);
        acts = λ c why x t g. world.acts w safe.0 s e c why x safe.1 (next c why x t g);
      }

  pub wires_fit : (w : Wiring) (s : State S L) → IsSafe kind Safe w s → WiringFits w
  wires_fit w s safe = world.wires w safe.0 s safe.1

  pub sorted : (w : Wiring) (s : State S L) → IsSafe kind Safe w s → IsSorted s.pending
  sorted w s safe = world.sorted w safe.0 s safe.1

  step_follows : (w : Wiring) (s : State S L) (e : Event L) (rest : List (Event L)) → IsSafe kind Safe w s → s.pending ≡ e ∷ rest → e.key.time < 2 ^ 62 → Follows e.key.time rest (step kind.handled w s)
  step_follows w s e rest safe is early =
      let P : List (Event L) → Type 0 = λ p. Follows e.key.time rest (step_from kind.handled w s p) in
      subst P (sym is) (told_follows kind.handled w s.components rest e.key.time (wires_fit w s safe) (told w e) (may_react w s e rest safe is early).acts)

  -- a step at a time before which nothing is left leaves one event less at it
  steps_at : (w : Wiring) (s : State S L) (now : ℕ) → now < 2 ^ 62 → IsSafe kind Safe w s → AllFrom now s.pending → begins_before (now + 1) s.pending ≡ true → count_before (now + 1) (step kind.handled w s).pending + 1 ≡ count_before (now + 1) s.pending
  steps_at w s now early safe events b =
      let first = begins (now + 1) s.pending b in
      let e = first.first in
      let rest = first.rest in
      let here : AllFrom now (e ∷ rest) = subst (AllFrom now) first.is events in
      let same : e.key.time ≡ now = omega (arith, here.0, first.early) in
      let f = step_follows w s e rest safe first.is (omega (arith, same)) in
      let later : AllFrom (now + 1) f.news = subst (λ u. AllFrom (u + 1) f.news) same f.later in
      let counted : count_before (now + 1) (step kind.handled w s).pending ≡ count_before (now + 1) rest = ap (count_before (now + 1)) f.pending ∙ count_insert_all (now + 1) f.news rest later in
      let one : count_before (now + 1) s.pending ≡ count_before (now + 1) rest + 1 = ap (count_before (now + 1)) first.is ∙ one_more (now + 1) e rest first.early in
      omega (arith, counted, one)
    where
      one_more : (t : ℕ) (e : Event L) (rest : List (Event L)) → e.key.time < t → count_before t (e ∷ rest) ≡ count_before t rest + 1
      one_more t e rest l = grind (arith, nat_tests)

  -- a step before a time leaves what is safe
  pub step_safe : (w : Wiring) (s : State S L) (t : ℕ) → t ≤ 2 ^ 62 → IsSafe kind Safe w s → begins_before t s.pending ≡ true → IsSafe kind Safe w (step kind.handled w s)
  step_safe w s t early safe b =
      let first = begins t s.pending b in
      (first.first.key.time, world.steps w safe.0 s first.first first.rest safe.1 first.is (omega (arith, first.early)))

  -- where nothing is left before a time, a step at it or later leaves nothing before it
  step_from_on : (w : Wiring) (s : State S L) (u t : ℕ) → t ≤ 2 ^ 62 → IsSafe kind Safe w s → AllFrom u s.pending → begins_before t s.pending ≡ true → AllFrom u (step kind.handled w s).pending
  step_from_on w s u t early safe events b =
      let first = begins t s.pending b in
      let e = first.first in
      let here : AllFrom u (e ∷ first.rest) = subst (AllFrom u) first.is events in
      let f = step_follows w s e first.rest safe first.is (omega (arith, first.early)) in
      subst (AllFrom u) (sym f.pending) (AllFrom-insert_all u f.news first.rest (AllFrom-earlier u (e.key.time + 1) f.news (omega (arith, here.0)) f.later) here.1)

  -- ---- how many steps are left

  -- a step before the time leaves one less, where nothing is left before the time less d
  pub steps_fall : (w : Wiring) (t d : ℕ) (s : State S L) → t ≤ 2 ^ 62 → d ≤ t → IsSafe kind Safe w s → AllFrom (t - d) s.pending → begins_before t s.pending ≡ true → steps_left kind.handled w t d (step kind.handled w s) + 1 ≡ steps_left kind.handled w t d s
  steps_fall w t zero s early within safe events b =
      let first = begins t s.pending b in
      let here : AllFrom (t - 0) (first.first ∷ first.rest) = subst (AllFrom (t - 0)) first.is events in
      absurd (omega (arith, here.0, first.early))
  steps_fall w t (suc d) s early within safe events b = by_now (begins_before (t - d) s.pending) refl (λ from. steps_fall w t d s early (omega arith) safe from b)
    where
      left : ℕ → State S L → ℕ
      left n x = n + steps_left kind.handled w t d (after kind.handled w n x)

      new : State S L
      new = step kind.handled w s

      by_now : (c : Bool) → begins_before (t - d) s.pending ≡ c → (AllFrom (t - d) s.pending → steps_left kind.handled w t d new + 1 ≡ steps_left kind.handled w t d s) → left (count_before (t - d) new.pending) new + 1 ≡ left (count_before (t - d) s.pending) s
      by_now true here rest =
          let one : t - d ≡ (t - suc d) + 1 = omega arith in
          let fewer_at = steps_at w s (t - suc d) (omega arith) safe events (subst (λ u. begins_before u s.pending ≡ true) one here) in
          let n = count_before (t - d) new.pending in
          let fewer : n + 1 ≡ count_before (t - d) s.pending = subst (λ u. count_before u new.pending + 1 ≡ count_before u s.pending) (sym one) fewer_at in
          let same : steps_left kind.handled w t d (after kind.handled w n new) ≡ steps_left kind.handled w t d (after kind.handled w (n + 1) s) = ap (steps_left kind.handled w t d) (sym (after_first kind.handled w n s)) in
          let next : left n new + 1 ≡ left (n + 1) s = omega (arith, same) in
          next ∙ ap (λ m. left m s) fewer
      by_now false here rest =
          let from : AllFrom (t - d) s.pending = from_begins (t - d) s.pending here (sorted w s safe) in
          let from_new : AllFrom (t - d) new.pending = step_from_on w s (t - d) t early safe from b in
          let less : steps_left kind.handled w t d new + 1 ≡ steps_left kind.handled w t d s = rest from in
          let old_none : left (count_before (t - d) s.pending) s ≡ left 0 s = ap (λ n. left n s) (none_counted (t - d) s.pending from) in
          let new_none : left (count_before (t - d) new.pending) new ≡ left 0 new = ap (λ n. left n new) (none_counted (t - d) new.pending from_new) in
          omega (arith, less, old_none, new_none)
