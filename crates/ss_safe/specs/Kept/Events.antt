-- What events have that are to come, as more of them are put in and as actions make them.
use Rattle.std.proofs.Common.{◌≡◌, ℕ, ◌+◌, ◌≤◌, Bool, true, false, cond, List, [], ◌∷◌, ◌++◌, Option, Some, None, refl, arith}
use Rattle.ss_model.specs.declared.Key.{Key}
use Rattle.ss_model.specs.declared.Event.{Event}
use Rattle.ss_model.specs.declared.Cause.{Cause}
use Rattle.ss_model.specs.declared.Cause.TheVariants as cause
use Rattle.ss_model.specs.declared.Action.{Action}
use Rattle.ss_model.specs.declared.Action.TheVariants as action
use Rattle.ss_model.specs.Order.{key_before, insert, insert_all, NoneBefore}
use Rattle.ss_model.specs.Wiring.{Wiring, link_at, own_at, clock_at}
use Rattle.ss_model.specs.Step.{sent, sent_own, next_multiple, turned_on, made, made_all, turns_off, ticks_on, again}
use Rattle.ss_model.proofs.Keys.{before_time}
use Rattle.ss_safe.specs.Safe.{Each, total}

module _ {L : Type 0} (P : Event L → Type 0) where
  pub Each-append : (xs ys : List (Event L)) → Each P xs → Each P ys → Each P (xs ++ ys)
  Each-append [] ys f g = g
  Each-append (x ∷ xs) ys f g = (f.0, Each-append xs ys f.1 g)

  Each-insert : (e : Event L) (xs : List (Event L)) → P e → Each P xs → Each P (insert e xs)
  Each-insert e [] h f = (h, tt)
  Each-insert e (x ∷ xs) h f = put (key_before e.key x.key) (Each-insert e xs h f.1)
    where
      put : (b : Bool) → Each P (insert e xs) → Each P (cond b (e ∷ x ∷ xs) (x ∷ insert e xs))
      put true r = (h, f)
      put false r = (f.0, r)

  pub Each-insert_all : (es xs : List (Event L)) → Each P es → Each P xs → Each P (insert_all es xs)
  Each-insert_all [] xs g f = f
  Each-insert_all (e ∷ es) xs g f = Each-insert_all es (insert e xs) g.1 (Each-insert e xs g.0 f)

-- where each event that is no earlier than a key and has one property has another
pub Each-behind : {L : Type 0} (P Q : Event L → Type 0) (now : ℕ) → ((e : Event L) → now ≤ e.key.time → P e → Q e) → (k : Key) → k.time ≡ now → (es : List (Event L)) → NoneBefore k es → Each P es → Each Q es
Each-behind P Q now f k same [] n h = tt
Each-behind P Q now f k same (e ∷ es) n h = (f e (let b = before_time k e.key n.0 in omega (arith, b, same)) h.0, Each-behind P Q now f k same es n.1 h.1)

-- where each event with two properties has a third
pub Each-both : {L : Type 0} (A P Q : Event L → Type 0) → ((e : Event L) → A e → P e → Q e) → (es : List (Event L)) → Each A es → Each P es → Each Q es
Each-both A P Q f [] a h = tt
Each-both A P Q f (e ∷ es) a h = (f e a.0 h.0, Each-both A P Q f es a.1 h.1)

abbrev pub each_of : {L : Type 0} → (Action L → ℕ) → List (Action L) → ℕ
each_of of [] = 0
each_of of (a ∷ acts) = of a + each_of of acts

module _ {L : Type 0} (m : Event L → ℕ) where
  total-append : (xs ys : List (Event L)) → total m (xs ++ ys) ≡ total m xs + total m ys
  total-append [] ys = omega arith
  total-append (x ∷ xs) ys = omega (arith, total-append xs ys)

  total-insert : (e : Event L) (xs : List (Event L)) → total m (insert e xs) ≡ m e + total m xs
  total-insert e [] = refl
  total-insert e (x ∷ xs) = put (key_before e.key x.key) (total-insert e xs)
    where
      put : (b : Bool) → total m (insert e xs) ≡ m e + total m xs → total m (cond b (e ∷ x ∷ xs) (x ∷ insert e xs)) ≡ m e + (m x + total m xs)
      put true h = refl
      put false h = omega (arith, h)

  pub total-insert_all : (es xs : List (Event L)) → total m (insert_all es xs) ≡ total m es + total m xs
  total-insert_all [] xs = omega arith
  total-insert_all (e ∷ es) xs = omega (arith, total-insert_all es (insert e xs), total-insert e xs)

  pub total-zero : (es : List (Event L)) → Each (λ e. m e ≡ 0) es → total m es ≡ 0
  total-zero [] h = refl
  total-zero (e ∷ es) h = omega (arith, h.0, total-zero es h.1)

  -- what the actions make is what each makes
  pub total-made_all : (w : Wiring) (c now : ℕ) (of : Action L → ℕ) → ((a : Action L) → total m (made w c now a) ≡ of a) → (acts : List (Action L)) → total m (made_all w c now acts) ≡ each_of of acts
  total-made_all w c now of f [] = refl
  total-made_all w c now of f (a ∷ acts) = omega (arith, total-append (made w c now a) (made_all w c now acts), f a, total-made_all w c now of f acts)

-- ---- the events that actions make

abbrev pub AllActions : {L : Type 0} → (Action L → Type 0) → List (Action L) → Type 0
AllActions Q [] = Unit {0}
AllActions Q (a ∷ acts) = Q a × AllActions Q acts

abbrev pub arrival_event : {L : Type 0} → ℕ → ℕ → L → Event L
arrival_event at n x = record { key = record { time = at; class = 2; line = n }; load = Some x }

abbrev pub tick_event : {L : Type 0} → ℕ → ℕ → Event L
tick_event at n = record { key = record { time = at; class = 1; line = n }; load = None }

module _ {L : Type 0} (P : Event L → Type 0) (w : Wiring) (c now : ℕ) where
  -- a property of the events that component c makes by actions of a kind
  pub record Makes (Q : Action L → Type 0) : Type 0 where
    pub link : (p extra : ℕ) (x : L) (n latency : ℕ) → Q (action.Send p extra x) → link_at w c p ≡ Some (n, latency) → P (arrival_event (now + extra + latency) n x)
    pub own : (i delay : ℕ) (x : L) (n : ℕ) → Q (action.SelfSend i delay x) → own_at w c i ≡ Some n → P (arrival_event (now + delay) n x)
    pub on : (i n period : ℕ) → clock_at w c i ≡ Some (n, period) → P (tick_event (next_multiple now period) n)

  made_each : (Q : Action L → Type 0) → Makes Q → (a : Action L) → Q a → Each P (made w c now a)
  made_each Q f (action.Send p extra x) q = at_link (link_at w c p) refl
    where
      at_link : (o : Option (ℕ × ℕ)) → link_at w c p ≡ o → Each P (sent o (now + extra) x)
      at_link None e = tt
      at_link (Some (n, latency)) e = (f.link p extra x n latency q e, tt)
  made_each Q f (action.SelfSend i delay x) q = at_own (own_at w c i) refl
    where
      at_own : (o : Option ℕ) → own_at w c i ≡ o → Each P (sent_own o (now + delay) x)
      at_own None e = tt
      at_own (Some n) e = (f.own i delay x n q e, tt)
  made_each Q f (action.ClockOn i) q = at_clock (clock_at w c i) refl
    where
      at_clock : (o : Option (ℕ × ℕ)) → clock_at w c i ≡ o → Each P (turned_on o now)
      at_clock None e = tt
      at_clock (Some (n, period)) e = (f.on i n period e, tt)
  made_each Q f (action.ClockOff i) q = tt
  made_each Q f (action.Print text) q = tt

  pub made_all_each : (Q : Action L → Type 0) → Makes Q → (acts : List (Action L)) → AllActions Q acts → Each P (made_all w c now acts)
  made_all_each Q f [] q = tt
  made_all_each Q f (a ∷ acts) q = Each-append P (made w c now a) (made_all w c now acts) (made_each Q f a q.0) (made_all_each Q f acts q.1)

  pub again_each : (why : Cause L) (acts : List (Action L)) → ((i n period : ℕ) → why ≡ cause.Tick i → clock_at w c i ≡ Some (n, period) → P (tick_event (now + period) n)) → Each P (again w c now why acts)
  again_each cause.Start acts f = tt
  again_each (cause.Link p x) acts f = tt
  again_each (cause.Own i x) acts f = tt
  again_each (cause.Tick i) acts f = at_off (turns_off i acts)
    where
      at_clock : (o : Option (ℕ × ℕ)) → clock_at w c i ≡ o → Each P (ticks_on o now)
      at_clock None e = tt
      at_clock (Some (n, period)) e = (f i n period refl e, tt)

      at_off : (b : Bool) → Each P (cond b [] (ticks_on (clock_at w c i) now))
      at_off true = tt
      at_off false = at_clock (clock_at w c i) refl
