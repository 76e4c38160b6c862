-- Events that come later, and how many come before a time.
use Rattle.std.proofs.Common.{◌≡◌, ℕ, ◌+◌, ◌-◌, ◌%◌, ◌<◌, ◌≤◌, Bool, true, false, cond, List, [], ◌∷◌, ◌++◌, Option, Some, None, refl, ◌∙◌, subst, arith}
use Rattle.std.specs.Prelude.{nat_lt}
use Rattle.std.specs.List.{filter}
use Rattle.std.proofs.lemmas.Bool.Decides.{nat_tests}
use Rattle.ss_model.specs.declared.Key.{Key}
use Rattle.ss_model.specs.declared.Event.{Event}
use Rattle.ss_model.specs.declared.Cause.{Cause}
use Rattle.ss_model.specs.declared.Cause.TheVariants as cause
use Rattle.ss_model.specs.declared.Action.{Action}
use Rattle.ss_model.specs.declared.Action.TheVariants as action
use Rattle.ss_model.specs.Order.{key_before, insert, insert_all, NoneBefore, IsSorted, next_time, begins_before}
use Rattle.ss_model.specs.Wiring.{Wiring, WiringFits, SecondFits, link_at, own_at, clock_at, told}
use Rattle.ss_model.specs.Step.{Reaction, sent, sent_own, turned_on, made, made_all, turns_off, ticks_on, again, reaction}
use Rattle.ss_model.proofs.Keys.{before_time}
use Rattle.ss_element.specs.Kind.{ActionFits, ActionsFit}
use Rattle.ss_element.proofs.Places.{link_at_fits, clock_at_fits}
use Rattle.ss_parts.specs.Parts.{answer, answer_told, answer_at, state_of, with_state}

-- each event comes at a time or later
abbrev pub AllFrom : {L : Type 0} → ℕ → List (Event L) → Type 0
AllFrom t [] = Unit {0}
AllFrom t (e ∷ es) = (t ≤ e.key.time) × AllFrom t es

-- how many events come before a time
abbrev pub count_before : {L : Type 0} → ℕ → List (Event L) → ℕ
count_before t [] = 0
count_before t (e ∷ es) = cond (nat_lt e.key.time t) (count_before t es + 1) (count_before t es)

-- how long it is to a time from the first event
abbrev pub time_left : {L : Type 0} → ℕ → List (Event L) → ℕ
time_left t [] = 0
time_left t (e ∷ es) = t - e.key.time

pub AllFrom-earlier : {L : Type 0} (now u : ℕ) (es : List (Event L)) → now ≤ u → AllFrom u es → AllFrom now es
AllFrom-earlier now u [] h f = tt
AllFrom-earlier now u (e ∷ es) h f = (omega (arith, f.0), AllFrom-earlier now u es h f.1)

AllFrom-append : {L : Type 0} (u : ℕ) (xs ys : List (Event L)) → AllFrom u xs → AllFrom u ys → AllFrom u (xs ++ ys)
AllFrom-append u [] ys f g = g
AllFrom-append u (x ∷ xs) ys f g = (f.0, AllFrom-append u xs ys f.1 g)

AllFrom-insert : {L : Type 0} (u : ℕ) (e : Event L) (xs : List (Event L)) → u ≤ e.key.time → AllFrom u xs → AllFrom u (insert e xs)
AllFrom-insert u e [] h f = (h, tt)
AllFrom-insert u e (x ∷ xs) h f = put (key_before e.key x.key) (AllFrom-insert u e xs h f.1)
  where
    put : (b : Bool) → AllFrom u (insert e xs) → AllFrom u (cond b (e ∷ x ∷ xs) (x ∷ insert e xs))
    put true r = (h, f)
    put false r = (f.0, r)

pub AllFrom-insert_all : {L : Type 0} (u : ℕ) (es xs : List (Event L)) → AllFrom u es → AllFrom u xs → AllFrom u (insert_all es xs)
AllFrom-insert_all u [] xs g f = f
AllFrom-insert_all u (e ∷ es) xs g f = AllFrom-insert_all u es (insert e xs) g.1 (AllFrom-insert u e xs g.0 f)

-- those behind the first are no earlier
AllFrom-rest : {L : Type 0} (k : Key) (xs : List (Event L)) → NoneBefore k xs → AllFrom k.time xs
AllFrom-rest k [] n = tt
AllFrom-rest k (x ∷ xs) n = (before_time k x.key n.0, AllFrom-rest k xs n.1)

-- where the first event is, all others are no earlier
pub from_first : {L : Type 0} (now : ℕ) (p : List (Event L)) → next_time p ≡ Some now → IsSorted p → AllFrom now p
from_first now [] n s = tt
from_first now (e ∷ rest) n s =
    let same : e.key.time ≡ now = cc in
    subst (λ u. AllFrom u (e ∷ rest)) same (omega arith, AllFrom-rest e.key rest s.0)

module _ {L : Type 0} (w : Wiring) (c now : ℕ) (h : WiringFits w) where
  made_later : (a : Action L) → ActionFits a → AllFrom (now + 1) (made w c now a)
  made_later (action.Send p extra x) f = at_link (link_at w c p) (link_at_fits w c p h)
    where
      at_link : (o : Option (ℕ × ℕ)) → SecondFits o → AllFrom (now + 1) (sent o (now + extra) x)
      at_link None s = tt
      at_link (Some (n, latency)) s = (omega (arith, s.0), tt)
  made_later (action.SelfSend i delay x) f = at_own (own_at w c i)
    where
      at_own : (o : Option ℕ) → AllFrom (now + 1) (sent_own o (now + delay) x)
      at_own None = tt
      at_own (Some n) = (omega (arith, f.0), tt)
  made_later (action.ClockOn i) f = at_clock (clock_at w c i) (clock_at_fits w c i h)
    where
      at_clock : (o : Option (ℕ × ℕ)) → SecondFits o → AllFrom {L = L} (now + 1) (turned_on o now)
      at_clock None s = tt
      at_clock (Some (n, period)) s = (later n period s.0, tt)
        where
          later : (n period : ℕ) → 1 ≤ period → now + 1 ≤ now + (period - now % period)
          later n period s = omega arith
  made_later (action.ClockOff i) f = tt
  made_later (action.Print text) f = tt

  made_all_later : (acts : List (Action L)) → ActionsFit acts → AllFrom (now + 1) (made_all w c now acts)
  made_all_later [] f = tt
  made_all_later (a ∷ acts) f = AllFrom-append (now + 1) (made w c now a) (made_all w c now acts) (made_later a f.0) (made_all_later acts f.1)

  again_later : (why : Cause L) (acts : List (Action L)) → AllFrom (now + 1) (again w c now why acts)
  again_later cause.Start acts = tt
  again_later (cause.Link p x) acts = tt
  again_later (cause.Own i x) acts = tt
  again_later (cause.Tick i) acts = at_off (turns_off i acts)
    where
      at_clock : (o : Option (ℕ × ℕ)) → SecondFits o → AllFrom {L = L} (now + 1) (ticks_on o now)
      at_clock None s = tt
      at_clock (Some (n, period)) s = (omega (arith, s.0), tt)

      at_off : (b : Bool) → AllFrom {L = L} (now + 1) (cond b [] (ticks_on (clock_at w c i) now))
      at_off true = tt
      at_off false = at_clock (clock_at w c i) (clock_at_fits w c i h)

AllFrom-filter : {L : Type 0} (u : ℕ) (test : Event L → Bool) (xs : List (Event L)) → AllFrom u xs → AllFrom u (filter test xs)
AllFrom-filter u test [] h = tt
AllFrom-filter u test (x ∷ xs) h = put (test x) (AllFrom-filter u test xs h.1)
  where
    put : (b : Bool) → AllFrom u (filter test xs) → AllFrom u (cond b (x ∷ filter test xs) (filter test xs))
    put true r = (h.0, r)
    put false r = r

-- what an event's handling sends
module _ {S L : Type 0} (handled : S → ℕ → Cause L → Reaction S L) (w : Wiring) (xs : List (ℕ × S)) (e : Event L) (h : WiringFits w) where
  at_state : (c : ℕ) (why : Cause L) (o : Option S) → ((x : S) → o ≡ Some x → ActionsFit (handled x e.key.time why).actions) → AllFrom (e.key.time + 1) (answer_at w with_state xs e.key c why (reaction handled e.key.time why o)).sends
  at_state c why None f = tt
  at_state c why (Some x) f =
      let acts = (handled x e.key.time why).actions in
      AllFrom-append (e.key.time + 1) (made_all w c e.key.time acts) (again w c e.key.time why acts) (made_all_later w c e.key.time h acts (f x refl)) (again_later w c e.key.time h why acts)

  at_told : (o : Option (ℕ × Cause L)) → ((c : ℕ) (why : Cause L) (x : S) → o ≡ Some (c, why) → state_of xs c ≡ Some x → ActionsFit (handled x e.key.time why).actions) → AllFrom (e.key.time + 1) (answer_told handled w state_of with_state xs e.key o).sends
  at_told None f = tt
  at_told (Some (c, why)) f = at_state c why (state_of xs c) (λ x g. f c why x refl g)

  pub sends_later : (test : Event L → Bool) → ((c : ℕ) (why : Cause L) (x : S) → told w e ≡ Some (c, why) → state_of xs c ≡ Some x → ActionsFit (handled x e.key.time why).actions) → AllFrom (e.key.time + 1) (filter test (answer handled w state_of with_state xs e).sends)
  sends_later test f = AllFrom-filter (e.key.time + 1) test (answer handled w state_of with_state xs e).sends (at_told (told w e) f)

-- later events don't count
count_insert : {L : Type 0} (t : ℕ) (e : Event L) (xs : List (Event L)) → t ≤ e.key.time → count_before t (insert e xs) ≡ count_before t xs
count_insert t e [] h = grind (arith, nat_tests)
count_insert t e (x ∷ xs) h = put (key_before e.key x.key) (count_insert t e xs h)
  where
    put : (b : Bool) → count_before t (insert e xs) ≡ count_before t xs → count_before t (cond b (e ∷ x ∷ xs) (x ∷ insert e xs)) ≡ count_before t (x ∷ xs)
    put true r = grind (arith, nat_tests)
    put false r = grind (arith, nat_tests)

pub count_insert_all : {L : Type 0} (t : ℕ) (es xs : List (Event L)) → AllFrom t es → count_before t (insert_all es xs) ≡ count_before t xs
count_insert_all t [] xs f = refl
count_insert_all t (e ∷ es) xs f = count_insert_all t es (insert e xs) f.1 ∙ count_insert t e xs f.0

pub one_more : {L : Type 0} (t : ℕ) (e : Event L) (rest : List (Event L)) → e.key.time < t → count_before t (e ∷ rest) ≡ count_before t rest + 1
one_more t e rest l = grind (arith, nat_tests)

-- the time to a bound falls, once nothing is left before a time later than the first event's
pub time_falls : {L : Type 0} (t now u : ℕ) (old new : List (Event L)) → next_time old ≡ Some now → now < t → now < u → begins_before u new ≡ false → time_left t new < time_left t old
time_falls t now u [] new n h k d = absurd (cc)
time_falls t now u (e ∷ es) [] n h k d = let same : e.key.time ≡ now = cc in omega arith
time_falls t now u (e ∷ es) (f ∷ fs) n h k d = let same : e.key.time ≡ now = cc in grind (arith, nat_tests)

pub nothing_before : {L : Type 0} (t : ℕ) (es : List (Event L)) → next_time es ≡ None → begins_before t es ≡ false
nothing_before t [] n = refl
nothing_before t (e ∷ es) n = absurd (cc)

pub none_yet : {L : Type 0} (t now : ℕ) (es : List (Event L)) → next_time es ≡ Some now → t ≤ now → begins_before t es ≡ false
none_yet t now [] n h = absurd (cc)
none_yet t now (e ∷ es) n h = let same : e.key.time ≡ now = cc in grind (arith, nat_tests)
