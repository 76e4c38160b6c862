-- The simulation is a world of the theory.
use Rattle.std.proofs.Common.{◌≡◌, ℕ, zero, suc, ◌+◌, ◌<◌, ◌≤◌, List, [], ◌∷◌, ◌++◌, Bool, false, not, ◌&&◌, ◌||◌, Option, Some, None, refl, sym, ap, ◌∙◌, subst, arith, eqb, ltb, inl, inr}
use Rattle.std.specs.Prelude.{slice_get, slice_set}
use Rattle.std.specs.List.{AllByRecursion as Each}
use Rattle.std.proofs.lemmas.Bool.{cases_Bool, false≢true, eq-eqb, ne_eqb}
use Rattle.std.proofs.lemmas.Bool.Decides.{nat_tests}
use Rattle.ss_model.specs.declared.Key.{Key}
use Rattle.ss_model.specs.declared.Event.{Event}
use Rattle.ss_model.specs.declared.Cause.{Cause}
use Rattle.ss_model.specs.declared.Cause.TheVariants as cause
use Rattle.ss_model.specs.declared.Action.{Action}
use Rattle.ss_model.specs.declared.Action.TheVariants as action
use Rattle.ss_model.specs.declared.Line.{Line}
use Rattle.ss_model.specs.Order.{key_before}
use Rattle.ss_model.specs.Wiring.{Wiring, WiringFits, link_at, own_at, clock_at, told}
use Rattle.ss_model.specs.Step.{Reaction, reaction, made, made_all, again, printed, turns_off, next_multiple, sent, sent_own, turned_on, ticks_on}
use Rattle.ss_model.proofs.Keys.{before_asym, before_trans, before_later}
use Rattle.ss_element.specs.Kind.{ActionFits, ActionsFit}
use Rattle.ss_theory.specs.Queue.{IsExactOrder, insert_all}
use Rattle.ss_theory.specs.World.{Outcome, World, IsSent, Laws, MayStep, dst_of, src_of, crosses, before}
use Rattle.ss_theory.proofs.Lists.{each_append}
use Rattle.ss_parts.specs.Parts.{receiver, sender, part_at, components_of, state_of, with_state, answer_at, answer_told, answer, world, IsAhead}
use Rattle.ss_parts.proofs.Found.{link_at_is, link_from_to, own_from_to, tick_from_to, latency_fits, period_fits, told_end}

-- keys
abbrev before3 : ℕ → ℕ → ℕ → ℕ → ℕ → ℕ → Bool
before3 a b c x y z = ltb a x || (eqb a x && (ltb b y || (eqb b y && ltb c z)))

exact_time : (a b c x y z : ℕ) → before3 a b c x y z ≡ false → before3 x y z a b c ≡ false → a ≡ x
exact_time a b c x y z = grind (arith, nat_tests)

exact_class : (a b c x y z : ℕ) → before3 a b c x y z ≡ false → before3 x y z a b c ≡ false → b ≡ y
exact_class a b c x y z = grind (arith, nat_tests)

exact_line : (a b c x y z : ℕ) → before3 a b c x y z ≡ false → before3 x y z a b c ≡ false → c ≡ z
exact_line a b c x y z = grind (arith, nat_tests)

pub exact_key : (a b : Key) → key_before a b ≡ false → key_before b a ≡ false → a ≡ b
exact_key a b h k =
    let t = exact_time a.time a.class a.line b.time b.class b.line h k in
    let c = exact_class a.time a.class a.line b.time b.class b.line h k in
    let l = exact_line a.time a.class a.line b.time b.class b.line h k in
    λ i. record { time = t i; class = c i; line = l i }

pub keys_in_order : IsExactOrder key_before
keys_in_order = record { asym = before_asym; trans = λ a b c. before_trans a b c; exact = exact_key }

-- components in parts
module _ {S : Type 0} (part_of : ℕ → ℕ) (p n : ℕ) where
  pub state_of_own : (k c : ℕ) (ss : List S) → n ≡ k + c → part_of n ≡ p → state_of (components_of part_of p k ss) n ≡ slice_get ss c
  state_of_own k c [] e h = refl
  state_of_own k zero (s ∷ ss) e h =
      let m : k ≡ n = omega arith in
      simp (eq-eqb (part_of k) p (ap part_of m ∙ h), eq-eqb k n m)
  state_of_own k (suc c) (s ∷ ss) e h =
      let m : eqb k n ≡ false = ne_eqb k n (λ d. omega arith) in
      let next : n ≡ k + 1 + c = omega arith in
      elim (cases_Bool (eqb (part_of k) p)) [
        | inl t ↦ simp (t, m) (state_of_own (k + 1) c ss next h)
        | inr t ↦ simp (t) (state_of_own (k + 1) c ss next h)
      ]

  pub with_state_own : (k c : ℕ) (ss : List S) (s : S) → n ≡ k + c → part_of n ≡ p → components_of part_of p k (slice_set ss c s) ≡ with_state (components_of part_of p k ss) n s
  with_state_own k c [] s e h = refl
  with_state_own k zero (x ∷ ss) s e h =
      let m : k ≡ n = omega arith in
      simp (eq-eqb (part_of k) p (ap part_of m ∙ h), eq-eqb k n m)
  with_state_own k (suc c) (x ∷ ss) s e h =
      let m : eqb k n ≡ false = ne_eqb k n (λ d. omega arith) in
      let next : n ≡ k + 1 + c = omega arith in
      elim (cases_Bool (eqb (part_of k) p)) [
        | inl t ↦ simp (t, m) (ap (λ l. (k, x) ∷ l) (with_state_own (k + 1) c ss s next h))
        | inr t ↦ simp (t) (with_state_own (k + 1) c ss s next h)
      ]

  pub with_state_other : (k c : ℕ) (ss : List S) (s : S) → n ≡ k + c → (part_of n ≡ p → ⊥) → components_of part_of p k (slice_set ss c s) ≡ components_of part_of p k ss
  with_state_other k c [] s e h = refl
  with_state_other k zero (x ∷ ss) s e h =
      let m : n ≡ k = omega arith in
      simp (ne_eqb (part_of k) p (λ d. h (ap part_of m ∙ d)))
  with_state_other k (suc c) (x ∷ ss) s e h =
      let next : n ≡ k + 1 + c = omega arith in
      elim (cases_Bool (eqb (part_of k) p)) [
        | inl t ↦ simp (t) (ap (λ l. (k, x) ∷ l) (with_state_other (k + 1) c ss s next h))
        | inr t ↦ simp (t) (with_state_other (k + 1) c ss s next h)
      ]

next_above : (now period : ℕ) → 1 ≤ period → now < next_multiple now period
next_above now period h = omega arith

module _ {S L : Type 0} (handled : S → ℕ → Cause L → Reaction S L) (w : Wiring) (part_of : ℕ → ℕ) (look : ℕ) where
  abbrev pub Sent : Event L → Event L → Type 0
  Sent e f = IsSent (world handled w part_of) look e f

  module _ (fits : WiringFits w) (ahead : IsAhead w part_of look) (e : Event L) (c : ℕ) (end : receiver w e.key ≡ Some c) where
    -- to oneself
    sent_self : (f : Event L) → (sender w f.key ≡ Some c) × (receiver w f.key ≡ Some c) → e.key.time < f.key.time → Sent e f
    sent_self f at later = record {
      sender = ap (part_at part_of) at.0 ∙ sym (ap (part_at part_of) end);
      later = later;
      far = λ x.
          let same : dst_of (world handled w part_of) f ≡ src_of (world handled w part_of) f = ap (part_at part_of) at.1 ∙ sym (ap (part_at part_of) at.0) in
          let no : crosses (world handled w part_of) f ≡ false = ap not (eq-eqb (dst_of (world handled w part_of) f) (src_of (world handled w part_of) f) same) in
          absurd (false≢true (sym no ∙ x));
    }

    -- over a link
    sent_link : (p : ℕ) (r : ℕ × ℕ) → link_at w c p ≡ Some r → (at : ℕ) (x : L) → e.key.time ≤ at → Sent e (record { key = record { time = at + r.1; class = 2; line = r.0 }; load = Some x })
    sent_link p r h at x le =
        let f : Event L = record { key = record { time = at + r.1; class = 2; line = r.0 }; load = Some x } in
        let a = link_at_is w c p r h in
        let ends = link_from_to w c p r (at + r.1) h in
        let one : 1 ≤ r.1 = latency_fits w c p r fits h in
        record {
          sender = ap (part_at part_of) ends.0 ∙ sym (ap (part_at part_of) end);
          later = omega arith;
          far = λ y.
              let ne : part_of a.link.receiver ≡ part_of a.link.sender → ⊥
              = λ m. false≢true (sym (ap not (eq-eqb (dst_of (world handled w part_of) f) (src_of (world handled w part_of) f) (ap (part_at part_of) ends.1 ∙ m ∙ ap part_of a.sender ∙ sym (ap (part_at part_of) ends.0)))) ∙ y) in
              let far : look ≤ r.1 = subst (λ n. look ≤ n) a.latency_is (ahead r.0 a.link a.is ne) in
              omega arith;
        }

    -- what one action makes
    made_sent : (a : Action L) → ActionFits a → Each (Sent e) (made w c e.key.time a)
    made_sent (action.Send p extra x) d = go (link_at w c p) refl
      where
        go : (o : Option (ℕ × ℕ)) → link_at w c p ≡ o → Each (Sent e) (sent o (e.key.time + extra) x)
        go None h = tt
        go (Some r) h = (sent_link p r h (e.key.time + extra) x (omega arith), tt)
    made_sent (action.SelfSend i delay x) d = go (own_at w c i) refl
      where
        go : (o : Option ℕ) → own_at w c i ≡ o → Each (Sent e) (sent_own o (e.key.time + delay) x)
        go None h = tt
        go (Some n) h = (sent_self (record { key = record { time = e.key.time + delay; class = 2; line = n }; load = Some x }) (own_from_to w c i n (e.key.time + delay) h) (let one : 1 ≤ delay = d.0 in omega arith), tt)
    made_sent (action.ClockOn i) d = go (clock_at w c i) refl
      where
        go : (o : Option (ℕ × ℕ)) → clock_at w c i ≡ o → Each (Sent e) (turned_on o e.key.time)
        go None h = tt
        go (Some r) h = (sent_self (record { key = record { time = next_multiple e.key.time r.1; class = 1; line = r.0 }; load = None }) (tick_from_to w c i r (next_multiple e.key.time r.1) h) (next_above e.key.time r.1 (period_fits w c i r fits h)), tt)
    made_sent (action.ClockOff i) d = tt
    made_sent (action.Print text) d = tt

    made_all_sent : (acts : List (Action L)) → ActionsFit acts → Each (Sent e) (made_all w c e.key.time acts)
    made_all_sent [] d = tt
    made_all_sent (a ∷ acts) d = each_append (Sent e) (made w c e.key.time a) (made_all w c e.key.time acts) (made_sent a d.0) (made_all_sent acts d.1)

    again_sent : (why : Cause L) (acts : List (Action L)) → Each (Sent e) (again w c e.key.time why acts)
    again_sent cause.Start acts = tt
    again_sent (cause.Link p x) acts = tt
    again_sent (cause.Own i x) acts = tt
    again_sent (cause.Tick i) acts =
        elim (cases_Bool (turns_off i acts)) [ inl b ↦ rw b tt | inr b ↦ rw b (go (clock_at w c i) refl) ]
      where
        go : (o : Option (ℕ × ℕ)) → clock_at w c i ≡ o → Each (Sent e) (ticks_on o e.key.time)
        go None h = tt
        go (Some r) h = (sent_self (record { key = record { time = e.key.time + r.1; class = 1; line = r.0 }; load = None }) (tick_from_to w c i r (e.key.time + r.1) h) (let one : 1 ≤ r.1 = period_fits w c i r fits h in omega arith), tt)

  printed_key : (k : Key) (acts : List (Action L)) → Each (λ t. t.key ≡ k) (printed k acts)
  printed_key k [] = tt
  printed_key k (action.Send p extra x ∷ acts) = printed_key k acts
  printed_key k (action.SelfSend i delay x ∷ acts) = printed_key k acts
  printed_key k (action.ClockOn i ∷ acts) = printed_key k acts
  printed_key k (action.ClockOff i ∷ acts) = printed_key k acts
  printed_key k (action.Print text ∷ acts) = (refl, printed_key k acts)

  abbrev W : World (List S) (List (ℕ × S)) Key (Event L) Line
  W = world handled w part_of

  -- the actions of what the event tells are as they may be
  abbrev pub ActsFit : List S → Event L → Type 0
  ActsFit ss e = (c : ℕ) (why : Cause L) (s : S) → told w e ≡ Some (c, why) → slice_get ss c ≡ Some s → ActionsFit (handled s e.key.time why).actions

  -- the law on what is sent
  pub law_sent : WiringFits w → IsAhead w part_of look → (ss : List S) (e : Event L) → ActsFit ss e → Each (Sent e) (answer handled w slice_get slice_set ss e).sends
  law_sent fits ahead ss e d = go (told w e) refl
    where
      go : (o : Option (ℕ × Cause L)) → told w e ≡ o → Each (Sent e) (answer_told handled w slice_get slice_set ss e.key o).sends
      go None h = tt
      go (Some t) h = more (slice_get ss t.0) refl
        where
          more : (x : Option S) → slice_get ss t.0 ≡ x → Each (Sent e) (answer_at w slice_set ss e.key t.0 t.1 (reaction handled e.key.time t.1 x)).sends
          more None g = tt
          more (Some s) g =
              let end = told_end w e t h in
              each_append (Sent e) (made_all w t.0 e.key.time (handled s e.key.time t.1).actions) (again w t.0 e.key.time t.1 (handled s e.key.time t.1).actions)
              (made_all_sent fits ahead e t.0 end (handled s e.key.time t.1).actions (d t.0 t.1 s h g))
              (again_sent fits ahead e t.0 end t.1 (handled s e.key.time t.1).actions)

  law_said : (ss : List S) (e : Event L) → Each (λ t. t.key ≡ e.key) (answer handled w slice_get slice_set ss e).says
  law_said ss e = go (told w e)
    where
      go : (o : Option (ℕ × Cause L)) → Each (λ t. t.key ≡ e.key) (answer_told handled w slice_get slice_set ss e.key o).says
      go None = tt
      go (Some t) = more (slice_get ss t.0)
        where
          more : (x : Option S) → Each (λ t. t.key ≡ e.key) (answer_at w slice_set ss e.key t.0 t.1 (reaction handled e.key.time t.1 x)).says
          more None = tt
          more (Some s) = printed_key e.key (handled s e.key.time t.1).actions

  abbrev own : ℕ → List S → List (ℕ × S)
  own p ss = components_of part_of p 0 ss

  abbrev seen : Outcome (List S) (Event L) Line → ℕ → Outcome (List (ℕ × S)) (Event L) Line
  seen o p = record { after = own p o.after; sends = o.sends; says = o.says }

  law_here : (ss : List S) (e : Event L) → answer handled w state_of with_state (own (dst_of W e) ss) e ≡ seen (answer handled w slice_get slice_set ss e) (dst_of W e)
  law_here ss e = go (told w e) refl
    where
      go : (o : Option (ℕ × Cause L)) → told w e ≡ o → answer_told handled w state_of with_state (own (dst_of W e) ss) e.key o ≡ seen (answer_told handled w slice_get slice_set ss e.key o) (dst_of W e)
      go None h = refl
      go (Some t) h =
          let mine : part_of t.0 ≡ dst_of W e = sym (ap (part_at part_of) (told_end w e t h)) in
          let at0 : t.0 ≡ 0 + t.0 = omega arith in
          ap (λ x. answer_at w with_state (own (dst_of W e) ss) e.key t.0 t.1 (reaction handled e.key.time t.1 x)) (state_of_own part_of (dst_of W e) t.0 0 t.0 ss at0 mine)
          ∙ more at0 mine (slice_get ss t.0)
        where
          more : t.0 ≡ 0 + t.0 → part_of t.0 ≡ dst_of W e → (x : Option S) → answer_at w with_state (own (dst_of W e) ss) e.key t.0 t.1 (reaction handled e.key.time t.1 x) ≡ seen (answer_at w slice_set ss e.key t.0 t.1 (reaction handled e.key.time t.1 x)) (dst_of W e)
          more at0 mine None = refl
          more at0 mine (Some s) =
              let r = handled s e.key.time t.1 in
              ap (λ x. record { after = x; sends = made_all w t.0 e.key.time r.actions ++ again w t.0 e.key.time t.1 r.actions; says = printed e.key r.actions }) (sym (with_state_own part_of (dst_of W e) t.0 0 t.0 ss r.state at0 mine))

  law_there : (ss : List S) (e : Event L) (q : ℕ) → (dst_of W e ≡ q → ⊥) → own q (answer handled w slice_get slice_set ss e).after ≡ own q ss
  law_there ss e q ne = go (told w e) refl
    where
      go : (o : Option (ℕ × Cause L)) → told w e ≡ o → own q (answer_told handled w slice_get slice_set ss e.key o).after ≡ own q ss
      go None h = refl
      go (Some t) h =
          more (λ m. ne (ap (part_at part_of) (told_end w e t h) ∙ m)) (slice_get ss t.0)
        where
          more : (part_of t.0 ≡ q → ⊥) → (x : Option S) → own q (answer_at w slice_set ss e.key t.0 t.1 (reaction handled e.key.time t.1 x)).after ≡ own q ss
          more off None = refl
          more off (Some s) = let at0 : t.0 ≡ 0 + t.0 = omega arith in with_state_other part_of q t.0 0 t.0 ss (handled s e.key.time t.1).state at0 off

  -- the simulation is a world of the theory, under any invariant that each step before the limit keeps and that bounds the delays
  pub laws_under : (Safe : List S → List (Event L) → Type 0) (limit : ℕ) → IsAhead w part_of look →
      ((ss : List S) (e : Event L) (rest : List (Event L)) → MayStep W Safe limit ss e rest → Safe (answer handled w slice_get slice_set ss e).after (insert_all (before W) (answer handled w slice_get slice_set ss e).sends rest)) →
      ((ss : List S) (e : Event L) (rest : List (Event L)) → MayStep W Safe limit ss e rest → ActsFit ss e × WiringFits w) →
      Laws (world handled w part_of) Safe look limit
  laws_under Safe limit ahead keeps acts = record {
    order = keys_in_order;
    timed = before_later;
    safe = keeps;
    sent = λ ss e rest s. law_sent (acts ss e rest s).1 ahead ss e (acts ss e rest s).0;
    said = λ ss e rest s. law_said ss e;
    here = λ ss e rest s. law_here ss e;
    there = λ ss e rest s q ne. law_there ss e q ne;
  }
