-- A step keeps the number of ticks to come of each clock.
use Rattle.std.proofs.Common.{◌≡◌, ℕ, ◌+◌, ◌≤◌, ◌⊎◌, inl, inr, Bool, true, false, ◌&&◌, ◌||◌, cond, eqb, List, [], ◌∷◌, ◌++◌, Option, Some, None, refl, sym, ap, ◌∙◌, subst, arith}
use Rattle.std.specs.Prelude.{slice_get, slice_set}
use Rattle.std.proofs.lemmas.Bool.{false≢true, cases_Bool, eqb-true, eqb-false, eq-eqb, ne_eqb}
use Rattle.ss_model.specs.declared.Event.{Event}
use Rattle.ss_model.specs.declared.Cause.{Cause}
use Rattle.ss_model.specs.declared.Cause.TheVariants as cause
use Rattle.ss_model.specs.declared.Action.{Action}
use Rattle.ss_model.specs.declared.Action.TheVariants as action
use Rattle.ss_model.specs.declared.InnerLine.TheVariants as inner
use Rattle.ss_model.specs.Order.{insert_all}
use Rattle.ss_model.specs.Wiring.{Wiring, link_at, own_at, clock_at, inner_at, told}
use Rattle.ss_model.specs.Step.{sent, sent_own, next_multiple, turned_on, made, made_all, turns_off, ticks_on, again}
use Rattle.ss_element.specs.Kind.{Kind}
use Rattle.ss_safe.specs.Laws.{turned_by, turns, ClockKeeps}
use Rattle.ss_safe.specs.Safe.{total, one, tick_at, TicksMatch}
use Rattle.ss_safe.specs.Kept.Events.{total-insert_all, total-made_all, each_of, tick_event}
use Rattle.ss_safe.specs.Kept.Found.{some_pair, none_some, clock_at_found, told_as, told_tick, clock_of}
use Rattle.ss_safe.specs.Kept.Steps.{After, reacts, stays, after}

same_clock : (c i p d j q : ℕ) → Some (inner.Clock c i p) ≡ Some (inner.Clock d j q) → (c ≡ d) × (i ≡ j)
same_clock c i p d j q h = let e : c ≡ d = cc in let f : i ≡ j = cc in (e, f)

-- how often a clock is turned on, and whether it is turned off
abbrev pub ons : List Bool → ℕ
ons [] = 0
ons (true ∷ bs) = 1 + ons bs
ons (false ∷ bs) = ons bs

abbrev pub has_off : List Bool → Bool
has_off [] = false
has_off (true ∷ bs) = has_off bs
has_off (false ∷ bs) = true

ons-append : (xs ys : List Bool) → ons (xs ++ ys) ≡ ons xs + ons ys
ons-append [] ys = omega arith
ons-append (true ∷ xs) ys = omega (arith, ons-append xs ys)
ons-append (false ∷ xs) ys = ons-append xs ys

off-turns : {L : Type 0} (i : ℕ) (acts : List (Action L)) → turns_off i acts ≡ has_off (turns i acts)
off-turns i [] = refl
off-turns i (action.Send p extra x ∷ acts) = off-turns i acts
off-turns i (action.SelfSend j delay x ∷ acts) = off-turns i acts
off-turns i (action.ClockOn j ∷ acts) = by_test (eqb j i) (off-turns i acts)
  where
    by_test : (b : Bool) → turns_off i acts ≡ has_off (turns i acts) → turns_off i acts ≡ has_off (cond b (true ∷ []) [] ++ turns i acts)
    by_test true h = h
    by_test false h = h
off-turns i (action.ClockOff j ∷ acts) = by_test (eqb j i) (off-turns i acts)
  where
    by_test : (b : Bool) → turns_off i acts ≡ has_off (turns i acts) → (b || turns_off i acts) ≡ has_off (cond b (false ∷ []) [] ++ turns i acts)
    by_test true h = refl
    by_test false h = h
off-turns i (action.Print text ∷ acts) = off-turns i acts

abbrev gate : Bool → ℕ → ℕ
gate true n = n
gate false n = 0

gate-sum : (b : Bool) (m n : ℕ) → gate b (m + n) ≡ gate b m + gate b n
gate-sum true m n = refl
gate-sum false m n = refl

one_most : (b : Bool) → one b ≤ 1
one_most true = omega arith
one_most false = omega arith

-- whether what is told is the tick of a clock
which : {L : Type 0} (i : ℕ) (why : Cause L) → (why ≡ cause.Tick i) ⊎ (why ≡ cause.Tick i → ⊥)
which i cause.Start = inr (λ h. cc)
which i (cause.Link p x) = inr (λ h. cc)
which i (cause.Own j x) = inr (λ h. cc)
which {L} i (cause.Tick j) =
    elim (cases_Bool (eqb j i)) [
      | inl u ↦ inl (ap (λ k. cause.Tick k) (eqb-true j i u))
      | inr u ↦ inr (λ h. eqb-false j i u (cc))
    ]

-- clock n, of component d and index i
module _ (L : Type 0) (w : Wiring) (apart : (n c i period : ℕ) → inner_at w n ≡ Some (inner.Clock c i period) → clock_at w c i ≡ Some (n, period)) (n d i period : ℕ) (here : inner_at w n ≡ Some (inner.Clock d i period)) where
  -- a clock that is looked up is clock n just where it is that of its component and index
  is_clock : (c j m q : ℕ) → clock_at w c j ≡ Some (m, q) → eqb m n ≡ (eqb c d && eqb j i)
  is_clock c j m q e =
      elim (cases_Bool (eqb m n)) [
        | inl u ↦
            let same = same_clock c j q d i period (sym (clock_at_found w c j m q e) ∙ ap (inner_at w) (eqb-true m n u) ∙ here) in
            u ∙ sym (both (eqb c d) (eqb j i) (eq-eqb c d same.0) (eq-eqb j i same.1))
        | inr u ↦
            u ∙ sym (not_both (eqb c d) refl (eqb j i) refl (λ s t.
            let there : clock_at w c j ≡ Some (n, period) = ap (λ a. clock_at w a j) (eqb-true c d s) ∙ ap (clock_at w d) (eqb-true j i t) ∙ apart n d i period here in
            eqb-false m n u (some_pair m n q period (sym e ∙ there)).0))
      ]
    where
      both : (a b : Bool) → a ≡ true → b ≡ true → (a && b) ≡ true
      both true b x y = y
      both false b x y = x

      not_both : (a : Bool) → eqb c d ≡ a → (b : Bool) → eqb j i ≡ b → (eqb c d ≡ true → eqb j i ≡ true → ⊥) → (a && b) ≡ false
      not_both true x true y f = absurd (f x y)
      not_both true x false y f = refl
      not_both false x b y f = refl

  -- and there is none at its component and index but it
  no_clock : (c j : ℕ) → clock_at w c j ≡ None → (eqb c d && eqb j i) ≡ false
  no_clock c j e = not_both (eqb c d) refl (eqb j i) refl
    where
      not_both : (a : Bool) → eqb c d ≡ a → (b : Bool) → eqb j i ≡ b → (a && b) ≡ false
      not_both true x true y = absurd (none_some (sym e ∙ ap (λ k. clock_at w k j) (eqb-true c d x) ∙ ap (clock_at w d) (eqb-true j i y) ∙ apart n d i period here))
      not_both true x false y = refl
      not_both false x b y = refl

  one_tick : (at m : ℕ) → total {L = L} (tick_at n) (tick_event at m ∷ []) ≡ one (eqb m n)
  one_tick at m = omega arith

  ticks_turned_on : (c j now : ℕ) → total {L = L} (tick_at n) (turned_on (clock_at w c j) now) ≡ one (eqb c d && eqb j i)
  ticks_turned_on c j now = at_clock (clock_at w c j) refl
    where
      at_clock : (o : Option (ℕ × ℕ)) → clock_at w c j ≡ o → total {L = L} (tick_at n) (turned_on o now) ≡ one (eqb c d && eqb j i)
      at_clock None e = sym (ap one (no_clock c j e))
      at_clock (Some (m, q)) e = one_tick (next_multiple now q) m ∙ ap one (is_clock c j m q e)

  ticks_again : (c j now : ℕ) → total {L = L} (tick_at n) (ticks_on (clock_at w c j) now) ≡ one (eqb c d && eqb j i)
  ticks_again c j now = at_clock (clock_at w c j) refl
    where
      at_clock : (o : Option (ℕ × ℕ)) → clock_at w c j ≡ o → total {L = L} (tick_at n) (ticks_on o now) ≡ one (eqb c d && eqb j i)
      at_clock None e = sym (ap one (no_clock c j e))
      at_clock (Some (m, q)) e = one_tick (now + q) m ∙ ap one (is_clock c j m q e)

  sent_none : (o : Option (ℕ × ℕ)) (at : ℕ) (x : L) → total (tick_at n) (sent o at x) ≡ 0
  sent_none None at x = refl
  sent_none (Some r) at x = refl

  own_none : (o : Option ℕ) (at : ℕ) (x : L) → total (tick_at n) (sent_own o at x) ≡ 0
  own_none None at x = refl
  own_none (Some r) at x = refl

  ticks_made : (c now : ℕ) (a : Action L) → total (tick_at n) (made w c now a) ≡ gate (eqb c d) (ons (turned_by i a))
  ticks_made c now (action.Send p extra x) = sent_none (link_at w c p) (now + extra) x ∙ none (eqb c d)
    where
      none : (b : Bool) → 0 ≡ gate b 0
      none true = refl
      none false = refl
  ticks_made c now (action.SelfSend j delay x) = own_none (own_at w c j) (now + delay) x ∙ none (eqb c d)
    where
      none : (b : Bool) → 0 ≡ gate b 0
      none true = refl
      none false = refl
  ticks_made c now (action.ClockOn j) = ticks_turned_on c j now ∙ as_gate (eqb c d) (eqb j i)
    where
      as_gate : (a b : Bool) → one (a && b) ≡ gate a (ons (cond b (true ∷ []) []))
      as_gate true true = refl
      as_gate true false = refl
      as_gate false b = refl
  ticks_made c now (action.ClockOff j) = as_gate (eqb c d) (eqb j i)
    where
      as_gate : (a b : Bool) → 0 ≡ gate a (ons (cond b (false ∷ []) []))
      as_gate true true = refl
      as_gate true false = refl
      as_gate false b = refl
  ticks_made c now (action.Print text) = none (eqb c d)
    where
      none : (b : Bool) → 0 ≡ gate b 0
      none true = refl
      none false = refl

  turns_each : (c : ℕ) (acts : List (Action L)) → each_of (λ a. gate (eqb c d) (ons (turned_by i a))) acts ≡ gate (eqb c d) (ons (turns i acts))
  turns_each c [] = none (eqb c d)
    where
      none : (b : Bool) → 0 ≡ gate b 0
      none true = refl
      none false = refl
  turns_each c (a ∷ acts) =
      let sum = ap (gate (eqb c d)) (ons-append (turned_by i a) (turns i acts)) in
      let split = gate-sum (eqb c d) (ons (turned_by i a)) (ons (turns i acts)) in
      omega (arith, turns_each c acts, sum, split)

  -- the ticks of clock n that actions make: as many as they turn it on
  ticks_made_all : (c now : ℕ) (acts : List (Action L)) → total (tick_at n) (made_all w c now acts) ≡ gate (eqb c d) (ons (turns i acts))
  ticks_made_all c now acts = total-made_all (tick_at n) w c now (λ a. gate (eqb c d) (ons (turned_by i a))) (ticks_made c now) acts ∙ turns_each c acts

  -- the next tick of clock n, after its tick
  own_again : (now : ℕ) (acts : List (Action L)) → total (tick_at n) (again w d now (cause.Tick i) acts) ≡ cond (has_off (turns i acts)) 0 1
  own_again now acts =
      let ticks : total {L = L} (tick_at n) (ticks_on (clock_at w d i) now) ≡ 1 = ticks_again d i now ∙ ap one (both (eqb d d) (eqb i i) (eq-eqb d d refl) (eq-eqb i i refl)) in
      at_off (turns_off i acts) (has_off (turns i acts)) (off-turns i acts) ticks
    where
      both : (a b : Bool) → a ≡ true → b ≡ true → (a && b) ≡ true
      both true b x y = y
      both false b x y = x

      at_off : (a b : Bool) → a ≡ b → total {L = L} (tick_at n) (ticks_on (clock_at w d i) now) ≡ 1 → total {L = L} (tick_at n) (cond a [] (ticks_on (clock_at w d i) now)) ≡ cond b 0 1
      at_off true true e t = refl
      at_off true false e t = absurd (false≢true (sym e))
      at_off false true e t = absurd (false≢true e)
      at_off false false e t = t

  -- after anything else there is none
  other_again : (c now : ℕ) (why : Cause L) (acts : List (Action L)) → (c ≡ d → why ≡ cause.Tick i → ⊥) → total (tick_at n) (again w c now why acts) ≡ 0
  other_again c now cause.Start acts h = refl
  other_again c now (cause.Link p x) acts h = refl
  other_again c now (cause.Own j x) acts h = refl
  other_again c now (cause.Tick j) acts h =
      let ticks : total {L = L} (tick_at n) (ticks_on (clock_at w c j) now) ≡ 0 = ticks_again c j now ∙ ap one (not_both (eqb c d) refl (eqb j i) refl) in
      at_off (turns_off j acts) ticks
    where
      not_both : (a : Bool) → eqb c d ≡ a → (b : Bool) → eqb j i ≡ b → (a && b) ≡ false
      not_both true x true y = absurd (h (eqb-true c d x) (ap (λ k. cause.Tick k) (eqb-true j i y)))
      not_both true x false y = refl
      not_both false x b y = refl

      at_off : (a : Bool) → total {L = L} (tick_at n) (ticks_on (clock_at w c j) now) ≡ 0 → total {L = L} (tick_at n) (cond a [] (ticks_on (clock_at w c j) now)) ≡ 0
      at_off true t = refl
      at_off false t = t

  -- an event is a tick of clock n just where it tells its tick
  not_tick : (e : Event L) → (told w e ≡ Some (d, cause.Tick i) → ⊥) → tick_at n e ≡ 0
  not_tick e h = by_tests (eqb e.key.class 1) refl (eqb e.key.line n) refl
    where
      by_tests : (a : Bool) → eqb e.key.class 1 ≡ a → (b : Bool) → eqb e.key.line n ≡ b → one (a && b) ≡ 0
      by_tests true x true y = absurd (h (told_tick w e n d i period (eqb-true e.key.class 1 x) (eqb-true e.key.line n y) here))
      by_tests true x false y = refl
      by_tests false x b y = refl

  pub is_tick : (e : Event L) → told w e ≡ Some (d, cause.Tick i) → tick_at n e ≡ 1
  is_tick e h =
      let k = told_as w e d (cause.Tick i) h in
      let clock = clock_of w e.key.line d i k.1 in
      let line : e.key.line ≡ n = (some_pair e.key.line n clock.0 period (sym (apart e.key.line d i clock.0 clock.1) ∙ apart n d i period here)).0 in
      both (eqb e.key.class 1) (eqb e.key.line n) (eq-eqb e.key.class 1 k.0) (eq-eqb e.key.line n line)
    where
      both : (a b : Bool) → a ≡ true → b ≡ true → one (a && b) ≡ 1
      both true true x y = refl
      both true false x y = absurd (false≢true y)
      both false b x y = absurd (false≢true x)

  -- after its own tick, and after anything else
  own_turns : (why : Cause L) (bs : List Bool) (before later : Bool) (again news rest : ℕ) → ClockKeeps why i before bs later → 1 + rest ≡ one before → news ≡ ons bs → again ≡ cond (has_off bs) 0 1 → again + (news + rest) ≡ one later
  own_turns why [] before later again news rest k b m a = omega (arith, b, m, a, ap one k, one_most before)
  own_turns why (true ∷ []) before later again news rest k b m a = absurd (let none = ap one k.0 in omega (arith, b, none))
  own_turns why (false ∷ []) before later again news rest k b m a = omega (arith, b, m, a, ap one k.1, one_most before)
  own_turns why (true ∷ y ∷ more) before later again news rest k b m a = absurd k
  own_turns why (false ∷ y ∷ more) before later again news rest k b m a = absurd k

  other_turns : (why : Cause L) (bs : List Bool) (before later : Bool) (again news rest : ℕ) → ClockKeeps why i before bs later → (why ≡ cause.Tick i → ⊥) → rest ≡ one before → news ≡ ons bs → again ≡ 0 → again + (news + rest) ≡ one later
  other_turns why [] before later again news rest k n b m a = omega (arith, b, m, a, ap one k)
  other_turns why (true ∷ []) before later again news rest k n b m a = let none = ap one k.0 in let some = ap one k.1 in omega (arith, b, m, a, none, some)
  other_turns why (false ∷ []) before later again news rest k n b m a = absurd (n k.0)
  other_turns why (true ∷ y ∷ more) before later again news rest k n b m a = absurd k
  other_turns why (false ∷ y ∷ more) before later again news rest k n b m a = absurd k

  -- what is to come of clock n after its component reacted: as the clock is then
  reacted_ticks : (now : ℕ) (e : Event L) (why : Cause L) (acts : List (Action L)) (rest : ℕ) (before later : Bool) → told w e ≡ Some (d, why) → tick_at n e + rest ≡ one before → ClockKeeps why i before (turns i acts) later → total (tick_at n) (again w d now why acts) + (total (tick_at n) (made_all w d now acts) + rest) ≡ one later
  reacted_ticks now e why acts rest before later t was keeps = at_which (which i why)
    where
      news_are : total (tick_at n) (made_all w d now acts) ≡ ons (turns i acts)
      news_are = ticks_made_all d now acts ∙ ap (λ b. gate b (ons (turns i acts))) (eq-eqb d d refl)

      at_which : (why ≡ cause.Tick i) ⊎ (why ≡ cause.Tick i → ⊥) → total (tick_at n) (again w d now why acts) + (total (tick_at n) (made_all w d now acts) + rest) ≡ one later
      at_which (inl y) =
          let here : tick_at n e ≡ 1 = is_tick e (t ∙ ap (λ z. Some (d, z)) y) in
          own_turns why (turns i acts) before later _ _ rest keeps (omega (arith, was, here)) news_are (ap (λ z. total (tick_at n) (again w d now z acts)) y ∙ own_again now acts)
      at_which (inr y) =
          let none : tick_at n e ≡ 0 = not_tick e (λ h. y (some_pair d d why (cause.Tick i) (sym t ∙ h)).1) in
          other_turns why (turns i acts) before later _ _ rest keeps y (omega (arith, was, none)) news_are (other_again d now why acts (λ same z. y z))

-- a step keeps the ticks of all clocks
pub ticks_kept : {S L : Type 0} (kind : Kind S L) (w : Wiring) (xs : List S) (e : Event L) (rest : List (Event L)) (c : ℕ) (why : Cause L) (x new : S) (acts : List (Action L)) → ((n c i period : ℕ) → inner_at w n ≡ Some (inner.Clock c i period) → clock_at w c i ≡ Some (n, period)) → told w e ≡ Some (c, why) → slice_get xs c ≡ Some x → ((i : ℕ) → ClockKeeps why i (kind.ticks x i) (turns i acts) (kind.ticks new i)) → TicksMatch kind w xs (e ∷ rest) → TicksMatch kind w (slice_set xs c new) (insert_all (again w c e.key.time why acts) (insert_all (made_all w c e.key.time acts) rest))
ticks_kept {S} {L} kind w xs e rest c why x new acts apart t g keeps old n d i period z here is =
    total-insert_all (tick_at n) (again w c e.key.time why acts) (insert_all (made_all w c e.key.time acts) rest)
    ∙ ap (λ m. total (tick_at n) (again w c e.key.time why acts) + m) (total-insert_all (tick_at n) (made_all w c e.key.time acts) rest)
    ∙ by_component (after xs c x new d z g is)
  where
    by_component : After xs c new d z → total (tick_at n) (again w c e.key.time why acts) + (total (tick_at n) (made_all w c e.key.time acts) + total (tick_at n) rest) ≡ one (kind.ticks z i)
    by_component (reacts same is_new) =
        let told_d : told w e ≡ Some (d, why) = t ∙ ap (λ k. Some (k, why)) same in
        let there : slice_get xs d ≡ Some x = ap (slice_get xs) (sym same) ∙ g in
        let now = reacted_ticks L w apart n d i period here e.key.time e why acts (total (tick_at n) rest) (kind.ticks x i) (kind.ticks new i) told_d (old n d i period x here there) (keeps i) in
        subst (λ k. total (tick_at n) (again w k e.key.time why acts) + (total (tick_at n) (made_all w k e.key.time acts) + total (tick_at n) rest) ≡ one (kind.ticks z i)) (sym same) (now ∙ ap (λ y. one (kind.ticks y i)) is_new)
    by_component (stays other is_old) =
        let none : tick_at n e ≡ 0 = not_tick L w apart n d i period here e (λ h. other (some_pair c d why (cause.Tick i) (sym t ∙ h)).0) in
        let made_none : total (tick_at n) (made_all w c e.key.time acts) ≡ 0 = ticks_made_all L w apart n d i period here c e.key.time acts ∙ ap (λ b. gate b (ons (turns i acts))) (ne_eqb c d other) in
        omega (arith, old n d i period z here is_old, none, made_none, other_again L w apart n d i period here c e.key.time why acts (λ same y. other same))
