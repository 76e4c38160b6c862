-- A packet that is sent comes behind all packets of its line.
use Rattle.std.proofs.Common.{◌≡◌, ℕ, ◌+◌, ◌≤◌, ◌⊎◌, inl, inr, Bool, true, false, cond, ltb, ◌&&◌, ◌||◌, eqb, List, [], ◌∷◌, ◌++◌, length, Option, Some, None, refl, sym, ap, ◌∙◌, subst, arith, append_assoc, append-nil}
use Rattle.std.specs.Prelude.{slice_get}
use Rattle.std.proofs.lemmas.Bool.{false≢true, eqb-true, eqb-false, eq-eqb, ne_eqb}
use Rattle.std.proofs.lemmas.Bool.Decides.{nat_tests}
use Rattle.ss_model.specs.declared.Key.{Key}
use Rattle.ss_model.specs.declared.Event.{Event}
use Rattle.ss_model.specs.declared.Cause.{Cause}
use Rattle.ss_model.specs.declared.Cause.TheVariants as cause
use Rattle.ss_model.specs.declared.Action.{Action}
use Rattle.ss_model.specs.declared.Action.TheVariants as action
use Rattle.ss_model.specs.declared.LinkLine.{LinkLine}
use Rattle.ss_model.specs.declared.InnerLine.TheVariants as inner
use Rattle.ss_model.specs.Order.{key_before, insert, insert_all, NoneBefore, IsSorted}
use Rattle.ss_model.specs.Wiring.{Wiring, link_at, own_at, clock_at}
use Rattle.ss_model.specs.Step.{sent, sent_own, turned_on, made, made_all, turns_off, ticks_on, again}
use Rattle.ss_model.proofs.Runs.{insert_all-append}
use Rattle.ss_model.proofs.Keys.{IsSorted-insert, IsSorted-insert_all}
use Rattle.ss_safe.specs.Safe.{IsLine, Each}
use Rattle.ss_safe.specs.Kept.Found.{some_same, link_at_found, own_at_found, link_within, inner_past, link_of, ToldAs, and_iff}
use Rattle.mr_order.specs.Rows.{only_if, is_on, carried, wire_at, wire_on, sends_all, takes, Passing, Leaves, IsBounded, AllBounded}

abbrev before3 : ℕ → ℕ → ℕ → ℕ → ℕ → ℕ → Bool
before3 a b c x y z = ltb a x || (eqb a x && (ltb b y || (eqb b y && ltb c z)))

between3 : (a b c x y z u v w : ℕ) → before3 a b c u v w ≡ true → before3 x y z u v w ≡ false → before3 a b c x y z ≡ true
between3 a b c x y z u v w = grind (arith, nat_tests)

behind3 : (t l u : ℕ) → u ≤ t → before3 t 2 l u 2 l ≡ false
behind3 t l u = grind (arith, nat_tests)

before_between : (a b c : Key) → key_before a c ≡ true → key_before b c ≡ false → key_before a b ≡ true
before_between a b c = between3 a.time a.class a.line b.time b.class b.line c.time c.class c.line

module _ {L P : Type 0} (carries : L → List P) (l : ℕ) where
  -- an event that carries none of the line's packets
  insert_none : (e : Event L) (xs : List (Event L)) → wire_at carries l e ≡ [] → wire_on carries l (insert e xs) ≡ wire_on carries l xs
  insert_none e [] h = append-nil (wire_at carries l e) ∙ h
  insert_none e (x ∷ xs) h = put (key_before e.key x.key) (insert_none e xs h)
    where
      put : (b : Bool) → wire_on carries l (insert e xs) ≡ wire_on carries l xs → wire_on carries l (cond b (e ∷ x ∷ xs) (x ∷ insert e xs)) ≡ wire_on carries l (x ∷ xs)
      put true r = ap (λ z. z ++ wire_on carries l (x ∷ xs)) h
      put false r = ap (λ z. wire_at carries l x ++ z) r

  -- x carries none of them, or e does not come before it
  abbrev Behind : Event L → Event L → Type 0
  Behind e x = (wire_at carries l x ≡ []) ⊎ (key_before e.key x.key ≡ false)

  none_past : (e : Event L) (k : Key) (xs : List (Event L)) → key_before e.key k ≡ true → NoneBefore k xs → Each (Behind e) xs → wire_on carries l xs ≡ []
  none_past e k [] b n h = refl
  none_past e k (x ∷ xs) b n h = ap (λ z. z ++ wire_on carries l xs) (this h.0) ∙ none_past e k xs b n.1 h.1
    where
      this : Behind e x → wire_at carries l x ≡ []
      this (inl r) = r
      this (inr r) = absurd (false≢true (sym r ∙ before_between e.key x.key k b n.0))

  insert_back : (e : Event L) (xs : List (Event L)) → IsSorted xs → Each (Behind e) xs → wire_on carries l (insert e xs) ≡ wire_on carries l xs ++ wire_at carries l e
  insert_back e [] s h = append-nil (wire_at carries l e)
  insert_back e (x ∷ xs) s h = put (key_before e.key x.key) refl (insert_back e xs s.1 h.1)
    where
      this : key_before e.key x.key ≡ true → Behind e x → wire_at carries l x ≡ []
      this b (inl r) = r
      this b (inr r) = absurd (false≢true (sym r ∙ b))

      put : (b : Bool) → key_before e.key x.key ≡ b → wire_on carries l (insert e xs) ≡ wire_on carries l xs ++ wire_at carries l e → wire_on carries l (cond b (e ∷ x ∷ xs) (x ∷ insert e xs)) ≡ wire_on carries l (x ∷ xs) ++ wire_at carries l e
      put true b r =
          let empty : wire_on carries l (x ∷ xs) ≡ [] = ap (λ z. z ++ wire_on carries l xs) (this b h.0) ∙ none_past e x.key xs b s.0 h.1 in
          ap (λ z. wire_at carries l e ++ z) empty ∙ append-nil (wire_at carries l e) ∙ sym (ap (λ z. z ++ wire_at carries l e) empty)
      put false b r = ap (λ z. wire_at carries l x ++ z) r ∙ sym (append_assoc (wire_at carries l x) (wire_on carries l xs) (wire_at carries l e))

  -- what is bounded is not behind a packet that comes no earlier
  behind_bound : (most at : ℕ) (o : Option L) (x : Event L) → most ≤ at → IsBounded carries l most x → Behind (record { key = record { time = at; class = 2; line = l }; load = o }) x
  behind_bound most at o x h (inl r) = inl r
  behind_bound most at o x h (inr r) = by_tests (eqb x.key.class 2) refl (eqb x.key.line l) refl
    where
      by_tests : (s : Bool) → eqb x.key.class 2 ≡ s → (t : Bool) → eqb x.key.line l ≡ t → Behind (record { key = record { time = at; class = 2; line = l }; load = o }) x
      by_tests true c true u =
          inr (ap (λ k. before3 at 2 l x.key.time k x.key.line) (eqb-true x.key.class 2 c) ∙ ap (λ n. before3 at 2 l x.key.time 2 n) (eqb-true x.key.line l u) ∙ behind3 at l x.key.time (omega (arith, h, r)))
      by_tests true c false u = inl (ap (λ b. only_if (b && eqb x.key.line l) (carried carries x.load)) c ∙ ap (λ b. only_if b (carried carries x.load)) u)
      by_tests false c t u = inl (ap (λ b. only_if (b && eqb x.key.line l) (carried carries x.load)) c)

  each_map : (Q R : Event L → Type 0) → ((x : Event L) → Q x → R x) → (xs : List (Event L)) → Each Q xs → Each R xs
  each_map Q R f [] h = tt
  each_map Q R f (x ∷ xs) h = (f x h.0, each_map Q R f xs h.1)

  each_insert : (Q : Event L → Type 0) (e : Event L) (xs : List (Event L)) → Q e → Each Q xs → Each Q (insert e xs)
  each_insert Q e [] h f = (h, tt)
  each_insert Q e (x ∷ xs) h f = put (key_before e.key x.key) (each_insert Q e xs h f.1)
    where
      put : (b : Bool) → Each Q (insert e xs) → Each Q (cond b (e ∷ x ∷ xs) (x ∷ insert e xs))
      put true r = (h, f)
      put false r = (f.0, r)

  pub raise : (m n : ℕ) (xs : List (Event L)) → m ≤ n → AllBounded carries l m xs → AllBounded carries l n xs
  raise m n xs h = each_map (IsBounded carries l m) (IsBounded carries l n) one xs
    where
      one : (x : Event L) → IsBounded carries l m x → IsBounded carries l n x
      one x (inl r) = inl r
      one x (inr r) = inr (omega (arith, h, r))

  -- events elsewhere change nothing on the line
  abbrev Elsewhere : List (Event L) → Type 0
  Elsewhere es = Each (λ e. is_on l e ≡ false) es

  nothing_at : (e : Event L) → is_on l e ≡ false → wire_at carries l e ≡ []
  nothing_at e h = ap (λ b. only_if b (carried carries e.load)) h

  pub elsewhere_wire : (es xs : List (Event L)) → Elsewhere es → wire_on carries l (insert_all es xs) ≡ wire_on carries l xs
  elsewhere_wire [] xs h = refl
  elsewhere_wire (e ∷ es) xs h = elsewhere_wire es (insert e xs) h.1 ∙ insert_none e xs (nothing_at e h.0)

  pub elsewhere_bounded : (most : ℕ) (es xs : List (Event L)) → Elsewhere es → AllBounded carries l most xs → AllBounded carries l most (insert_all es xs)
  elsewhere_bounded most [] xs h b = b
  elsewhere_bounded most (e ∷ es) xs h b = elsewhere_bounded most es (insert e xs) h.1 (each_insert (IsBounded carries l most) e xs (inl (nothing_at e h.0)) b)

  elsewhere_append : (es fs : List (Event L)) → Elsewhere es → Elsewhere fs → Elsewhere (es ++ fs)
  elsewhere_append [] fs h k = k
  elsewhere_append (e ∷ es) fs h k = (h.0, elsewhere_append es fs h.1 k)

pub only_nil : {P : Type 0} (b : Bool) → only_if {P = P} b [] ≡ []
only_nil true = refl
only_nil false = refl

only_and : {P : Type 0} (a b : Bool) (ps : List P) → only_if (a && b) ps ≡ only_if a (only_if b ps)
only_and true b ps = refl
only_and false b ps = refl

module _ {L P : Type 0} (carries : L → List P) (w : Wiring) (l a p b q : ℕ) (line : IsLine w l a p b q) where
  same_link : (k : LinkLine) (n : ℕ) → slice_get w.links n ≡ Some k → n ≡ l → k ≡ line.link
  same_link k n g h = some_same (sym g ∙ ap (slice_get w.links) h ∙ line.is)

  -- an event on the line is what its receiver takes in
  none_at : (e : Event L) → (e.key.class ≡ 2 → e.key.line ≡ l → ⊥) → wire_at carries l e ≡ []
  none_at e h = by_tests (eqb e.key.class 2) refl (eqb e.key.line l) refl
    where
      by_tests : (s : Bool) → eqb e.key.class 2 ≡ s → (t : Bool) → eqb e.key.line l ≡ t → only_if (s && t) (carried carries e.load) ≡ []
      by_tests true x true y = absurd (h (eqb-true e.key.class 2 x) (eqb-true e.key.line l y))
      by_tests true x false y = refl
      by_tests false x t y = refl

  pub wire_taken : (e : Event L) (c : ℕ) (why : Cause L) → ToldAs w e.key.class e.key.line e.load c why → wire_at carries l e ≡ only_if (eqb c b) (takes carries q why)
  wire_taken e c cause.Start k = none_at e (λ z h. absurd (omega (arith, k.0, z))) ∙ sym (only_nil (eqb c b))
  wire_taken e c (cause.Tick i) k = none_at e (λ z h. absurd (omega (arith, k.0, z))) ∙ sym (only_nil (eqb c b))
  wire_taken e c (cause.Own i x) k = none_at e (λ z h. false≢true (sym k.2 ∙ ap (λ n. ltb n (length w.links)) h ∙ link_within w l line.link line.is)) ∙ sym (only_nil (eqb c b))
  wire_taken e c (cause.Link port x) k =
      let f = link_of w e.key.line c port k.1 k.2 in
      let line_is : eqb e.key.line l ≡ (eqb c b && eqb port q)
      = and_iff (eqb e.key.line l) (eqb c b) (eqb port q)
      (λ h.
      let same = same_link f.0 e.key.line f.1 (eqb-true e.key.line l h) in
      (eq-eqb c b (sym f.2 ∙ ap (λ (k : LinkLine). k.receiver) same ∙ line.receiver), eq-eqb port q (sym f.3 ∙ ap (λ (k : LinkLine). k.in_port) same ∙ line.in_port)))
      (λ h g. eq-eqb e.key.line l (line.only e.key.line f.0 f.1 (f.2 ∙ eqb-true c b h) (f.3 ∙ eqb-true port q g))) in
      ap (λ t. only_if (t && eqb e.key.line l) (carried carries e.load)) (eq-eqb e.key.class 2 k.0)
      ∙ ap (λ o. only_if (eqb e.key.line l) (carried carries o)) k.3
      ∙ ap (λ t. only_if t (carries x)) line_is
      ∙ only_and (eqb c b) (eqb port q) (carries x)

  -- what another port sends
  sent_elsewhere : (c port at : ℕ) (x : L) (o : Option (ℕ × ℕ)) → link_at w c port ≡ o → (c ≡ a → port ≡ p → ⊥) → Each (λ e. is_on {L = L} l e ≡ false) (sent o at x)
  sent_elsewhere c port at x None e h = tt
  sent_elsewhere c port at x (Some (n, t)) e h =
      let f = link_at_found w c port n t e in
      (ne_eqb n l (λ k. h (sym f.sender ∙ ap (λ (z : LinkLine). z.sender) (same_link f.link n f.is k) ∙ line.sender) (sym f.out_port ∙ ap (λ (z : LinkLine). z.out_port) (same_link f.link n f.is k) ∙ line.out_port)), tt)

  own_elsewhere : (at : ℕ) (x : L) (c i : ℕ) (o : Option ℕ) → own_at w c i ≡ o → Each (λ e. is_on {L = L} l e ≡ false) (sent_own o at x)
  own_elsewhere at x c i None e = tt
  own_elsewhere at x c i (Some n) e = (ne_eqb n l (λ h. false≢true (sym (inner_past w n (inner.Own c i) (own_at_found w c i n e)) ∙ ap (λ k. ltb k (length w.links)) h ∙ link_within w l line.link line.is)), tt)

  on_elsewhere : (o : Option (ℕ × ℕ)) (now : ℕ) → Each (λ e. is_on {L = L} l e ≡ false) (turned_on o now)
  on_elsewhere None now = tt
  on_elsewhere (Some (n, t)) now = (refl, tt)

  again_clock_elsewhere : (o : Option (ℕ × ℕ)) (now : ℕ) → Each (λ e. is_on {L = L} l e ≡ false) (ticks_on o now)
  again_clock_elsewhere None now = tt
  again_clock_elsewhere (Some (n, t)) now = (refl, tt)

  pub again_elsewhere : (c now : ℕ) (why : Cause L) (acts : List (Action L)) → Elsewhere carries l (again w c now why acts)
  again_elsewhere c now cause.Start acts = tt
  again_elsewhere c now (cause.Link port x) acts = tt
  again_elsewhere c now (cause.Own i x) acts = tt
  again_elsewhere c now (cause.Tick i) acts = at_off (turns_off i acts)
    where
      at_off : (b : Bool) → Each (λ e. is_on {L = L} l e ≡ false) (cond b [] (ticks_on (clock_at w c i) now))
      at_off true = tt
      at_off false = again_clock_elsewhere (clock_at w c i) now

  made_elsewhere : (c now : ℕ) (act : Action L) → (c ≡ a → ⊥) → Elsewhere carries l (made w c now act)
  made_elsewhere c now (action.Send port extra x) h = sent_elsewhere c port (now + extra) x (link_at w c port) refl (λ e f. h e)
  made_elsewhere c now (action.SelfSend i delay x) h = own_elsewhere (now + delay) x c i (own_at w c i) refl
  made_elsewhere c now (action.ClockOn i) h = on_elsewhere (clock_at w c i) now
  made_elsewhere c now (action.ClockOff i) h = tt
  made_elsewhere c now (action.Print text) h = tt

  pub made_all_elsewhere : (c now : ℕ) (acts : List (Action L)) → (c ≡ a → ⊥) → Elsewhere carries l (made_all w c now acts)
  made_all_elsewhere c now [] h = tt
  made_all_elsewhere c now (act ∷ acts) h = elsewhere_append carries l (made w c now act) (made_all w c now acts) (made_elsewhere c now act h) (made_all_elsewhere c now acts h)

  -- after the sender's actions the line has what it had, and behind it what they send
  pub record Extended (xs ys : List (Event L)) (more : List P) (most : ℕ) : Type 0 where
    pub wire : wire_on carries l ys ≡ wire_on carries l xs ++ more
    pub bounded : AllBounded carries l most ys
    pub sorted : IsSorted ys

  abbrev lat : ℕ
  lat = line.link.latency

  -- other actions of the sender
  quietly : (es fs xs : List (Event L)) (more : List P) (free : ℕ) (most : ℕ) → Elsewhere carries l es → IsSorted xs → AllBounded carries l (free + lat) xs →
      ((ys : List (Event L)) → IsSorted ys → AllBounded carries l (free + lat) ys → Extended ys (insert_all fs ys) more most) → Extended xs (insert_all (es ++ fs) xs) more most
  quietly es fs xs more free most h s b ih =
      let r = ih (insert_all es xs) (IsSorted-insert_all es xs s) (elsewhere_bounded carries l (free + lat) es xs h b) in
      subst (λ z. Extended xs z more most) (sym (insert_all-append es fs xs))
      (record { wire = r.wire ∙ ap (λ z. z ++ more) (elsewhere_wire carries l es xs h); bounded = r.bounded; sorted = r.sorted })

  at_arrival : (at : ℕ) (x : L) → wire_at carries l (record { key = record { time = at; class = 2; line = l }; load = Some x }) ≡ carries x
  at_arrival at x = ap (λ b. only_if b (carries x)) (eq-eqb l l refl)

  pub sends_on : (now : ℕ) (acts : List (Action L)) (free free' : ℕ) (xs : List (Event L)) → IsSorted xs → AllBounded carries l (free + lat) xs → Leaves carries p now free acts free' →
      Extended xs (insert_all (made_all w a now acts) xs) (sends_all carries p acts) (free' + lat)
  sends_on now [] free free' xs s b h = record { wire = sym (append-nil (wire_on carries l xs)); bounded = raise carries l (free + lat) (free' + lat) xs (omega (arith, h)) b; sorted = s }
  sends_on now (action.SelfSend i delay x ∷ acts) free free' xs s b h = quietly (sent_own (own_at w a i) (now + delay) x) (made_all w a now acts) xs (sends_all carries p acts) free (free' + lat) (own_elsewhere (now + delay) x a i (own_at w a i) refl) s b (λ ys t c. sends_on now acts free free' ys t c h)
  sends_on now (action.ClockOn i ∷ acts) free free' xs s b h = quietly (turned_on (clock_at w a i) now) (made_all w a now acts) xs (sends_all carries p acts) free (free' + lat) (on_elsewhere (clock_at w a i) now) s b (λ ys t c. sends_on now acts free free' ys t c h)
  sends_on now (action.ClockOff i ∷ acts) free free' xs s b h = sends_on now acts free free' xs s b h
  sends_on now (action.Print text ∷ acts) free free' xs s b h = sends_on now acts free free' xs s b h
  sends_on now (action.Send port extra x ∷ acts) free free' xs s b h = by_port (eqb port p) refl h (λ f ys t c k. sends_on now acts f free' ys t c k)
    where
      -- the packet is there or not
      by_packet : (ps : List P) → carries x ≡ ps → Passing carries ps (now + extra) free (λ f. Leaves carries p now f acts free') → ((f : ℕ) (ys : List (Event L)) → IsSorted ys → AllBounded carries l (f + lat) ys → Leaves carries p now f acts free' → Extended ys (insert_all (made_all w a now acts) ys) (sends_all carries p acts) (free' + lat)) →
          Extended xs (insert_all (made_all w a now acts) (insert (record { key = record { time = now + extra + lat; class = 2; line = l }; load = Some x }) xs)) (ps ++ sends_all carries p acts) (free' + lat)
      by_packet [] e h ih =
          let ev : Event L = record { key = record { time = now + extra + lat; class = 2; line = l }; load = Some x } in
          let none : wire_at carries l ev ≡ [] = at_arrival (now + extra + lat) x ∙ e in
          let r = ih free (insert ev xs) (IsSorted-insert ev xs s) (each_insert carries l (IsBounded carries l (free + lat)) ev xs (inl none) b) h in
          record { wire = r.wire ∙ ap (λ z. z ++ sends_all carries p acts) (insert_none carries l ev xs none); bounded = r.bounded; sorted = r.sorted }
      by_packet (u ∷ ps) e h ih =
          let ev : Event L = record { key = record { time = now + extra + lat; class = 2; line = l }; load = Some x } in
          let here : wire_at carries l ev ≡ u ∷ ps = at_arrival (now + extra + lat) x ∙ e in
          let late : free + lat ≤ now + extra + lat = omega (arith, h.0) in
          let behind = each_map carries l (IsBounded carries l (free + lat)) (Behind carries l ev) (λ y. behind_bound carries l (free + lat) (now + extra + lat) (Some x) y late) xs b in
          let r = ih (now + extra) (insert ev xs) (IsSorted-insert ev xs s) (each_insert carries l (IsBounded carries l (now + extra + lat)) ev xs (inr (omega arith)) (raise carries l (free + lat) (now + extra + lat) xs late b)) h.1 in
          record {
            wire = r.wire ∙ ap (λ z. z ++ sends_all carries p acts) (insert_back carries l ev xs s behind ∙ ap (λ z. wire_on carries l xs ++ z) here) ∙ append_assoc (wire_on carries l xs) (u ∷ ps) (sends_all carries p acts);
            bounded = r.bounded;
            sorted = r.sorted;
          }

      by_port : (t : Bool) → eqb port p ≡ t → Passing carries (only_if t (carries x)) (now + extra) free (λ f. Leaves carries p now f acts free') →
          ((f : ℕ) (ys : List (Event L)) → IsSorted ys → AllBounded carries l (f + lat) ys → Leaves carries p now f acts free' → Extended ys (insert_all (made_all w a now acts) ys) (sends_all carries p acts) (free' + lat)) →
          Extended xs (insert_all (sent (link_at w a port) (now + extra) x ++ made_all w a now acts) xs) (only_if t (carries x) ++ sends_all carries p acts) (free' + lat)
      by_port true e h ih =
          let found : link_at w a port ≡ Some (l, lat) = ap (link_at w a) (eqb-true port p e) ∙ line.first in
          subst (λ o. Extended xs (insert_all (sent o (now + extra) x ++ made_all w a now acts) xs) (carries x ++ sends_all carries p acts) (free' + lat)) (sym found) (by_packet (carries x) refl h ih)
      by_port false e h ih =
          quietly (sent (link_at w a port) (now + extra) x) (made_all w a now acts) xs (sends_all carries p acts) free (free' + lat)
          (sent_elsewhere a port (now + extra) x (link_at w a port) refl (λ u v. eqb-false port p e v)) s b (λ ys t c. ih free ys t c h)
