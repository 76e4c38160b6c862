-- What a run leaves at a time fits the form of checkpoints.
use Rattle.std.proofs.Common.{◌≡◌, ℕ, zero, suc, ◌+◌, ◌-◌, ◌^◌, ◌<◌, ◌≤◌, Bool, true, false, not, cond, eqb, ltb, List, [], ◌∷◌, ◌++◌, length, Option, Some, None, is_some, refl, sym, ap, ◌∙◌, subst, arith, length-append}
use Rattle.std.specs.Prelude.{slice_get}
use Rattle.std.specs.List.{flat_map}
use Rattle.std.proofs.lemmas.Bool.{false≢true, eqb-true}
use Rattle.std.proofs.lemmas.Bool.Decides.{nat_tests}
use Rattle.std.proofs.lemmas.List.Concat.{flat_map-cons}
use Rattle.ss_wire.specs.Form.{big_bytes, choose, nothing, each, lifted, spell_some}
use Rattle.ss_model.specs.declared.Key.{Key}
use Rattle.ss_model.specs.declared.Event.{Event}
use Rattle.ss_model.specs.declared.Cause.{Cause}
use Rattle.ss_model.specs.declared.LinkLine.{LinkLine}
use Rattle.ss_model.specs.declared.InnerLine.{InnerLine}
use Rattle.ss_model.specs.Order.{NoneBefore, IsSorted}
use Rattle.ss_model.specs.Wiring.{Wiring, inner_at, of_link, of_own, of_clock, of_line, target, arrival, told_of, told}
use Rattle.ss_model.specs.Step.{State}
use Rattle.ss_element.specs.Kind.{Kind}
use Rattle.ss_element.specs.Saving.{Saving, state_form, CauseIsOf}
use Rattle.ss_element.specs.Index.{entries}
use Rattle.ss_safe.specs.Laws.{Allowed, KindLaws, KindSaves}
use Rattle.ss_safe.specs.Safe.{Each, AllHold, IsTimely, Reaches, IsReal, IsHeard, Safe}
use Rattle.ss_safe.specs.Sound.{IsSaved, Restored, IsRead}
use Rattle.ss_safe.specs.Kept.Found.{none_some, get_below, get_some}
use Rattle.ss_ckpt.specs.Faults.{fault_of}
use Rattle.ss_ckpt.specs.Form.{head_form, is_time, is_size, is_class, is_reached, not_after, receiver, load_by, load_at, event_form, events_form, body_form}
use Rattle.ss_ckpt.specs.Spells.{head_text, event_text, body_text}

-- ---- numbers of components and lines

is_reached_so : (count : ℕ) (o : Option (ℕ × ℕ)) → Reaches count o → is_reached count o ≡ true
is_reached_so count None h = absurd h
is_reached_so count (Some r) h = grind (arith, nat_tests)

-- a line behind the links is one of the entries
inner_below : (w : Wiring) (n : ℕ) (l : InnerLine) → inner_at w n ≡ Some l → n < entries w
inner_below w n l h = by_test (ltb n (length w.links)) refl h
  where
    by_test : (b : Bool) → ltb n (length w.links) ≡ b → cond b None (slice_get w.inner (n - length w.links)) ≡ Some l → n < entries w
    by_test true e g = absurd (none_some g)
    by_test false e g = let below = get_below w.inner (n - length w.links) l g in omega (arith, below)

-- a class that reaches some component, and its line
record IsArrival (w : Wiring) (k : Key) : Type 0 where
  class : is_class k.class ≡ true
  one_byte : k.class < 256 ^ 1
  line : k.line < entries w

arrives : (w : Wiring) (k : Key) → 1 ≤ k.class → is_some (target w k) ≡ true → IsArrival w k
arrives w k some there = by_class (eqb k.class 0) refl (eqb k.class 1) refl (eqb k.class 2) refl there
  where
    of_inner : (o : Option InnerLine) → inner_at w k.line ≡ o → is_some (of_clock o) ≡ true → k.line < entries w
    of_inner None e h = absurd (false≢true h)
    of_inner (Some l) e h = inner_below w k.line l e

    of_self : (o : Option InnerLine) → inner_at w k.line ≡ o → is_some (of_own o) ≡ true → k.line < entries w
    of_self None e h = absurd (false≢true h)
    of_self (Some l) e h = inner_below w k.line l e

    of_out : (o : Option LinkLine) → slice_get w.links k.line ≡ o → is_some (of_link o) ≡ true → k.line < entries w
    of_out None e h = absurd (false≢true h)
    of_out (Some l) e h = let below = get_below w.links k.line l e in omega (arith, below)

    by_place : (b : Bool) → is_some (cond b (of_link (slice_get w.links k.line)) (of_own (inner_at w k.line))) ≡ true → k.line < entries w
    by_place true h = of_out (slice_get w.links k.line) refl h
    by_place false h = of_self (inner_at w k.line) refl h

    by_class : (a : Bool) → eqb k.class 0 ≡ a → (b : Bool) → eqb k.class 1 ≡ b → (d : Bool) → eqb k.class 2 ≡ d → is_some (cond a (Some (k.line, 0)) (cond b (of_clock (inner_at w k.line)) (cond d (of_line w k.line) None))) ≡ true → IsArrival w k
    by_class true e b f d g h = absurd (let zero = eqb-true k.class 0 e in omega (arith, zero, some))
    by_class false e true f d g h = let one = eqb-true k.class 1 f in record { class = ap is_class one; one_byte = omega (arith, one); line = of_inner (inner_at w k.line) refl h }
    by_class false e false f true g h = let two = eqb-true k.class 2 g in record { class = ap is_class two; one_byte = omega (arith, two); line = by_place (ltb k.line (length w.links)) h }
    by_class false e false f false g h = absurd (false≢true h)

module _ {S L : Type 0} (kind : Kind S L) (allowed : Allowed S L) (saving : Saving S L) (laws : KindLaws kind allowed) (saves : KindSaves kind allowed saving) where
  -- ---- events

  module _ (w : Wiring) (xs : List S) where
    -- an event with what the form asks of it
    record IsSpelt (e : Event L) : Type 0 where
      time : e.key.time < 256 ^ 8
      saved : IsSaved w e
      reaches : Reaches (length xs) (target w e.key)
      hears : (c : ℕ) (why : Cause L) (x : S) → told w e ≡ Some (c, why) → slice_get xs c ≡ Some x → CauseIsOf saving x why

    all_spelt : (now : ℕ) → now < 2 ^ 62 → AllHold kind allowed xs → (es : List (Event L)) → Each (IsSaved w) es → Each (IsReal w (length xs)) es → Each (IsTimely now) es → Each (IsHeard kind allowed w xs (now + 1)) es → Each IsSpelt es
    all_spelt now early hold [] a b d f = tt
    all_spelt now early hold (e ∷ es) a b d f = (
      record {
        time = (let below = d.0.below in omega (arith, below, early));
        saved = a.0;
        reaches = b.0.reaches;
        hears = λ c why x t g. saves.loads_saved x why (now + 1) (omega (arith, early)) (hold c x g) (f.0 c why x t g);
      },
      all_spelt now early hold es a.1 b.1 d.1 f.1,
    )

    -- a load fits the component that it comes to
    load_of : (x : S) (link : Bool) (i : ℕ) (y : L) → CauseIsOf saving x (arrival link i y) → saving.IsLoadOf x y
    load_of x true i y h = h
    load_of x false i y h = h

    load_fits : (e : Event L) → IsSpelt e → (load_at saving w xs e.key).Fits e.load
    load_fits e spelt = by_target (target w e.key) refl spelt.reaches (eqb e.key.class 2) refl e.load refl spelt.saved.loaded
      where
        told_so : (r : ℕ × ℕ) (y : L) → target w e.key ≡ Some r → e.key.class ≡ 2 → e.load ≡ Some y → told w e ≡ Some (r.0, arrival (ltb e.key.line (length w.links)) r.1 y)
        told_so r y t k l =
            ap (λ o. told_of w e.key.class e.key.line o e.load) t
            ∙ ap (λ load. told_of w e.key.class e.key.line (Some r) load) l
            ∙ ap (λ class. told_of w class e.key.line (Some r) (Some y)) k

        by_target : (o : Option (ℕ × ℕ)) → target w e.key ≡ o → Reaches (length xs) o → (b : Bool) → eqb e.key.class 2 ≡ b → (load : Option L) → e.load ≡ load → is_some load ≡ b → (choose b (load_by saving (receiver xs o)) (nothing None)).Fits load
        by_target None t h b k load l s = absurd h
        by_target (Some r) t h true k None l s = absurd (false≢true s)
        by_target (Some r) t h true k (Some y) l s =
            let there = get_some xs r.0 h in
            let is = spelt.hears r.0 (arrival (ltb e.key.line (length w.links)) r.1 y) there.0 (told_so r y t (eqb-true e.key.class 2 k) l) there.1 in
            subst (λ o. (load_by saving o).Fits (Some y)) (sym there.1) (load_of there.0 (ltb e.key.line (length w.links)) r.1 y is)
        by_target (Some r) t h false k None l s = refl
        by_target (Some r) t h false k (Some y) l s = absurd (false≢true (sym s))

    module _ (numbered : entries w < 2 ^ 32) where
      event_fits : (before : Option Key) (e : Event L) → not_after before e.key ≡ true → IsSpelt e → (event_form saving w xs before).Fits e
      event_fits before e first spelt =
          let key = arrives w e.key spelt.saved.no_start spelt.saved.real in
          let line = key.line in
          let few : e.key.line < 256 ^ 4 = omega (arith, line, numbered) in
          (tt, (((tt, (spelt.time, ((key.one_byte, key.class), (few, is_reached_so (length xs) (target w e.key) spelt.reaches)))), first), load_fits e spelt))

      -- the first of them comes before none in front of it
      abbrev Behind : Option Key → List (Event L) → Type 0
      Behind before [] = Unit {0}
      Behind before (e ∷ es) = not_after before e.key ≡ true

      behind_next : (k : Key) (es : List (Event L)) → NoneBefore k es → Behind (Some k) es
      behind_next k [] h = tt
      behind_next k (e ∷ es) h = ap not h.0

      events_fit : (n : ℕ) (before : Option Key) (es : List (Event L)) → length es ≡ n → Behind before es → IsSorted es → Each IsSpelt es → (events_form saving w xs n before).Fits es
      events_fit zero before [] long first sorted spelt = refl
      events_fit zero before (e ∷ es) long first sorted spelt = absurd (omega (arith, long))
      events_fit (suc n) before [] long first sorted spelt = absurd (omega (arith, long))
      events_fit (suc n) before (e ∷ es) long first sorted spelt = (event_fits before e first spelt.0, events_fit n (Some e.key) es (omega (arith, long)) (behind_next e.key es sorted.0) sorted.1 spelt.1)

      behind_none : (es : List (Event L)) → Behind None es
      behind_none [] = tt
      behind_none (e ∷ es) = refl

  -- ---- components

  states_fit : (firsts xs : List S) → Restored saving firsts xs → (each (λ x. lifted fault_of (state_form saving x)) firsts).Fits xs
  states_fit [] [] r = refl
  states_fit [] (x ∷ xs) r = absurd (let long = r.long in omega (arith, long))
  states_fit (y ∷ ys) [] r = absurd (let long = r.long in omega (arith, long))
  states_fit (y ∷ ys) (x ∷ xs) r = (
    r.each 0 y x refl refl,
    states_fit ys xs (record { long = (let long = r.long in omega (arith, long)); each = λ c first z f g. r.each (suc c) first z f g }),
  )

  -- ---- the whole

  -- a safe state that can be read fits the form
  pub body_fits : (w : Wiring) (firsts : List S) (now : ℕ) (s : State S L) → Safe kind allowed w now s → IsRead saving w firsts s → entries w < 2 ^ 32 → length s.pending < 2 ^ 32 → (body_form saving w firsts).Fits (s.components, s.pending)
  body_fits w firsts now s safe read numbered few =
      let spelt = all_spelt w s.components now safe.early safe.holds s.pending read.saved safe.real safe.timely safe.heard in
      let count : length s.pending < 256 ^ 4 = omega (arith, few) in
      (states_fit firsts s.components read.restored, (count, refl, events_fit w s.components numbered (length s.pending) None s.pending refl (behind_none w s.components numbered s.pending) read.sorted spelt))

-- the head fits
pub head_fits : (at last : ℕ) (text : List ℕ) → 1 ≤ at → at < 2 ^ 62 → last < at → length text ≤ 67108864 → head_form.Fits (record { time = at; last = last; graph = text })
head_fits at last text some early past few =
    let time : is_time at ≡ true = grind (arith, nat_tests) in
    let before : ltb last at ≡ true = grind (arith, nat_tests) in
    let size : is_size (length text) ≡ true = grind (arith, nat_tests) in
    (tt, (refl, ((omega (arith, early), time), ((omega (arith, early, past), before), (omega (arith, few), size, refl)))))

-- ---- sizes

module _ {S L : Type 0} (saving : Saving S L) where
  events_long : (es : List (Event L)) → length es ≤ length (flat_map (event_text saving) es)
  events_long [] = omega arith
  events_long (e ∷ es) =
      let time = big_bytes 8 e.key.time in
      let others = big_bytes 1 e.key.class ++ (big_bytes 4 e.key.line ++ spell_some saving.spell_load e.load) in
      let cons : length (flat_map (event_text saving) (e ∷ es)) ≡ length (event_text saving e ++ flat_map (event_text saving) es) = ap length (flat_map-cons (event_text saving) e es) in
      let both = length-append (event_text saving e) (flat_map (event_text saving) es) in
      let here : length (event_text saving e) ≡ length time + length others = length-append time others in
      let eight : length time ≡ 8 = refl in
      let ih = events_long es in
      omega (arith, cons, both, here, eight, ih)

  -- a checkpoint has at least as many bytes as events
  pub few_events : (text : List ℕ) (at : ℕ) (s : State S L) → length s.pending ≤ length (head_text text at s.last ++ body_text saving s.components s.pending)
  few_events text at s =
      let head = head_text text at s.last in
      let states = flat_map saving.spell s.components in
      let count = big_bytes 4 (length s.pending) in
      let events = flat_map (event_text saving) s.pending in
      let a : length (head ++ (states ++ (count ++ events))) ≡ length head + length (states ++ (count ++ events)) = length-append head (states ++ (count ++ events)) in
      let b : length (states ++ (count ++ events)) ≡ length states + length (count ++ events) = length-append states (count ++ events) in
      let d : length (count ++ events) ≡ length count + length events = length-append count events in
      let long = events_long s.pending in
      omega (arith, a, b, d, long)
