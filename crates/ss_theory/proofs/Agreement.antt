-- The bound that the windows come to is the run's.
use Rattle.std.proofs.Common.{◌≡◌, ℕ, zero, suc, ◌+◌, ◌<◌, ◌≤◌, List, [], ◌∷◌, Bool, true, false, cond, Option, Some, None, refl, sym, ap, ◌∙◌, subst, inl, inr, arith, ◌⊎◌}
use Rattle.std.specs.List.{AllByRecursion as Each}
use Rattle.std.proofs.lemmas.Bool.{cases_Bool, cases_lt, false≢true}
use Rattle.ss_theory.specs.World.{World, Global, time_of, HasBelow, NoneBelow, after, IsUntil, Laws, Ready}
use Rattle.ss_theory.specs.Rounds.{Cutting, CuttingLaws, Moment, window_end, end_at, Leads, IsOver, IsOpened, learned, first_time, Asking, AskingLaws, IsAsked, AgreesAt, IsBound, DoneLaws}
use Rattle.ss_theory.proofs.Theorems.{until_exists, until_append, after_append}
use Rattle.ss_theory.proofs.Rounds.{end_limit}
use Rattle.ss_theory.proofs.Bounds.{Reached, ready_on, done_on, goes_on, none_to, none_from, one_run, stands, from_less}

module _ {W X K E T : Type 0} (v : World W X K E T) (Safe : W → List E → Type 0) (look limit : ℕ) (laws : Laws v Safe look limit) (done : W → Bool) (keeps : DoneLaws v Safe limit done) (c : Cutting) (cl : CuttingLaws c look limit) (a : Asking) (al : AskingLaws a c) (start : Moment W E) (begins : Ready v Safe a.origin start.whole.state start.whole.pending) (starts : start.since ≡ cond (done start.whole.state) (Some a.origin) None) where
  ready : Ready v Safe 0 start.whole.state start.whole.pending
  ready = from_less v Safe look limit laws 0 a.origin start.whole.state start.whole.pending (omega arith) begins

  abbrev Opened : ℕ → Moment W E → Type 0
  Opened = IsOpened v done c start

  abbrev upto : Moment W E → ℕ
  upto = window_end v done c

  abbrev Agrees : ℕ → Type 0
  Agrees = AgreesAt v done a start.whole

  known_limit : (o : Option ℕ) → c.known o ≤ limit
  known_limit o = cl.early o

  -- what a run is, up to a time
  state_at : (q n : ℕ) → q ≤ limit → IsUntil v q n start.whole → Ready v Safe a.origin (after v n start.whole).state (after v n start.whole).pending
  state_at q n le u = ready_on v Safe look limit laws a.origin q n start.whole.state start.whole.pending le begins u

  -- where all was done earlier, it is done
  agreed_now : (q : ℕ) → q ≤ limit → Agrees q → (k : ℕ) (m : Moment W E) → Opened k m → NoneBelow v q m.whole.pending → done m.whole.state ≡ true
  agreed_now q le x k m o none =
      let s = stands v Safe look limit laws done c cl start ready k m o in
      let r = s.reached in
      let g = goes_on v Safe look limit laws q s.bound x.steps r.steps start.whole x.until r.until (subst (λ (z : Global W E). NoneBelow v q z.pending) r.is none) in
      let low : s.bound ≤ limit = let b : s.bound ≤ c.known m.since = s.below in let d : c.known m.since ≤ limit = cl.early m.since in omega arith in
      let at = after v x.steps start.whole in
      let now : done (after v g.more at).state ≡ true = done_on v Safe look limit laws done keeps a.origin s.bound g.more at.state at.pending low (state_at q x.steps le x.until) g.until x.agree in
      let is : m.whole ≡ after v g.more at = r.is ∙ ap (λ n. after v n start.whole) g.is ∙ after_append v Safe look limit laws x.steps g.more start.whole in
      ap (λ (z : Global W E). done z.state) is ∙ now

  -- and where all is done at a time, it is so at each later one
  agreed_later : (q r : ℕ) → q ≤ r → r ≤ limit → Agrees q → Agrees r
  agreed_later q r le lim x =
      let at = after v x.steps start.whole in
      let rd = state_at q x.steps (omega arith) x.until in
      let u = until_exists v Safe look limit laws a.origin r at lim rd in
      record {
        steps = x.steps + u.0;
        until = until_append v Safe look limit laws q r x.steps u.0 start.whole le x.until u.1;
        agree = ap (λ (z : Global W E). done z.state) (after_append v Safe look limit laws x.steps u.0 start.whole) ∙ done_on v Safe look limit laws done keeps a.origin r u.0 at.state at.pending lim rd u.1 x.agree;
      }

  -- what it means that all is done since the window of a time: before that time it was not, and by the bound that is known it is
  pub record SinceHolds (t : ℕ) : Type 0 where
    pub from : a.origin ≤ t
    pub never : (q : ℕ) → a.origin < q → q ≤ t → Agrees q → ⊥
    pub upon : ℕ
    pub below : upon ≤ c.known (Some t)
    pub agrees : Agrees upon

  abbrev IsSince : Option ℕ → Bool → Type 0
  IsSince None d = d ≡ false
  IsSince (Some t) d = SinceHolds t

  first_since : IsSince start.since (done start.whole.state)
  first_since =
      elim (cases_Bool (done start.whole.state)) [
        | inl h ↦ subst (λ o. IsSince o (done start.whole.state)) (sym (starts ∙ ap (λ b. cond b (Some a.origin) None) h))
            (record { from = omega arith; never = λ q lt le x. absurd (omega arith); upon = 0; below = omega arith; agrees = record { steps = 0; until = none_from v Safe look limit laws 0 start.whole.pending ready.none_before; agree = h } })
        | inr h ↦ subst (λ o. IsSince o (done start.whole.state)) (sym (starts ∙ ap (λ b. cond b (Some a.origin) None) h)) h
      ]

  -- no step, or a first event
  nothing_or : (b n : ℕ) (g : Global W E) → IsUntil v b n g → (after v n g ≡ g) ⊎ HasBelow v b g.pending
  nothing_or b zero g u = inl refl
  nothing_or b (suc n) g u = inr u.0

  next_since : (k : ℕ) (h m : Moment W E) (o : Opened k h) (l : Leads v done c h m) (s : Option ℕ) → h.since ≡ s → (xs : List E) → h.whole.pending ≡ xs → (b : Bool) → done (after v l.steps h.whole).state ≡ b →
      IsSince h.since (done h.whole.state) → IsSince (learned v s b (first_time v xs)) b
  next_since k h m o l (Some t) e xs f b d ih = subst (λ x. IsSince x (done h.whole.state)) e ih
  next_since k h m o l None e xs f false d ih = refl
  next_since k h m o l None e [] f true d ih =
      let was : done h.whole.state ≡ false = subst (λ x. IsSince x (done h.whole.state)) e ih in
      elim (nothing_or (upto h) l.steps h.whole l.until) [
        | inl same ↦ absurd (false≢true (sym (ap (λ (z : Global W E). done z.state) same ∙ was) ∙ d))
        | inr some ↦ absurd (subst (λ xs. HasBelow v (upto h) xs) f some)
      ]
  next_since k h m o l None e (x ∷ xs) f true d ih =
      let was : done h.whole.state ≡ false = subst (λ x. IsSince x (done h.whole.state)) e ih in
      let end : upto h ≡ c.upto (time_of v x) (c.known None) = ap (λ s. end_at v done c s h.whole.pending) e ∙ ap (end_at v done c None) f in
      let low : time_of v x < upto h = elim (nothing_or (upto h) l.steps h.whole l.until) [
        | inl same ↦ absurd (false≢true (sym (ap (λ (z : Global W E). done z.state) same ∙ was) ∙ d))
        | inr some ↦ subst (λ xs. HasBelow v (upto h) xs) f some
      ] in
      let lim : upto h ≤ limit = end_limit v Safe look limit laws done c cl start ready h in
      let s = stands v Safe look limit laws done c cl start ready k h o in
      let sl : s.bound ≤ limit = let p : s.bound ≤ c.known h.since = s.below in let q : c.known h.since ≤ limit = cl.early h.since in omega arith in
      let here : Each (λ e. a.origin ≤ time_of v e) (x ∷ xs) = subst (λ l. Each (λ e. a.origin ≤ time_of v e) l) f (subst (λ (z : Global W E). Each (λ e. a.origin ≤ time_of v e) z.pending) (sym s.reached.is) (state_at s.bound s.reached.steps sl s.reached.until).none_before) in
      let r = one_run v Safe look limit laws done c cl start ready k h m o l in
      record {
        from = here.0;
        never = λ q lt le y. false≢true (sym was ∙ agreed_now q (omega arith) y k h o (subst (λ l. NoneBelow v q l) (sym f) le));
        upon = upto h;
        below = let g : c.upto (time_of v x) (c.known None) ≤ c.known (Some (time_of v x)) = cl.falls (time_of v x) in omega arith;
        agrees = record { steps = r.steps; until = r.until; agree = ap (λ (z : Global W E). done z.state) (sym r.is ∙ ap (λ (z : Moment W E). z.whole) l.is) ∙ d };
      }

  since_is : (k : ℕ) (m : Moment W E) → Opened k m → IsSince m.since (done m.whole.state)
  since_is zero m o = subst (λ (x : Moment W E). IsSince x.since (done x.whole.state)) (sym o) first_since
  since_is (suc k) m o =
      let h = o.0 in
      let l = o.2 in
      subst (λ (x : Moment W E). IsSince x.since (done x.whole.state)) (sym l.is)
      (next_since k h m o.1 l h.since refl h.whole.pending refl (done (after v l.steps h.whole).state) refl (since_is k h o.1))

  abbrev Bound : Bool → ℕ → Type 0
  Bound = IsBound v done a start.whole

  stop_limit : a.stop ≤ limit
  stop_limit = let b : c.known None ≤ limit = cl.early None in let e : c.known None ≡ a.stop = al.running in omega arith

  -- the bound that is known once all is done is the run's
  known_least : (t : ℕ) → SinceHolds t → (f : Bool) (q : ℕ) → Bound f q → c.known (Some t) ≤ q
  known_least t s true q b =
      elim (cases_lt t q) [
        | inl lt ↦ al.first t q b.asked.asked lt
        | inr le ↦ absurd (s.never q b.asked.above le b.agrees)
      ]
  known_least t s false q b = let e : q ≡ a.stop = b.0 in let k : c.known (Some t) ≤ a.stop = al.stops t in omega arith

  known_most : (t : ℕ) → SinceHolds t → (f : Bool) (q : ℕ) → Bound f q → q ≤ c.known (Some t)
  known_most t s f q b = elim (cases_lt (c.known (Some t)) a.stop) [ inl lt ↦ early lt f b | inr le ↦ late f b le ]
    where
      late : (f : Bool) → Bound f q → a.stop ≤ c.known (Some t) → q ≤ c.known (Some t)
      late true b le = let k : q ≤ a.stop = b.asked.within in omega arith
      late false b le = let e : q ≡ a.stop = b.0 in omega arith

      is_asked : c.known (Some t) < a.stop → IsAsked v done a start.whole (c.known (Some t))
      is_asked lt = let p = al.asks t lt in let o : a.origin ≤ t = s.from in let u : t < c.known (Some t) = p.1 in record { asked = p.0; above = omega arith; within = omega arith }

      agrees_then : Agrees (c.known (Some t))
      agrees_then = agreed_later s.upon (c.known (Some t)) s.below (cl.early (Some t)) s.agrees

      early : c.known (Some t) < a.stop → (f : Bool) → Bound f q → q ≤ c.known (Some t)
      early lt true b = elim (cases_lt (c.known (Some t)) q) [ inl less ↦ absurd (b.first (c.known (Some t)) (is_asked lt) less agrees_then) | inr le ↦ le ]
      early lt false b = absurd (b.1 (c.known (Some t)) (is_asked lt) agrees_then)

  -- the bound as known is never below the bound
  pub never_below : (k : ℕ) (m : Moment W E) → Opened k m → (f : Bool) (q : ℕ) → Bound f q → q ≤ c.known m.since
  never_below k m o f q b = go m.since (since_is k m o)
    where
      stop_most : (f : Bool) → Bound f q → q ≤ a.stop
      stop_most true b = b.asked.within
      stop_most false b = let e : q ≡ a.stop = b.0 in omega arith

      go : (s : Option ℕ) → IsSince s (done m.whole.state) → q ≤ c.known s
      go None h = let e : c.known None ≡ a.stop = al.running in let k : q ≤ a.stop = stop_most f b in omega arith
      go (Some t) h = known_most t h f q b

  -- no window that has an event passes the bound
  pub not_past : (k : ℕ) (m : Moment W E) → Opened k m → HasBelow v (c.known m.since) m.whole.pending → (f : Bool) (q : ℕ) → Bound f q → upto m ≤ q
  not_past k m o some f q b = go m.since (since_is k m o) m.whole.pending refl some f b
    where
      go : (s : Option ℕ) → IsSince s (done m.whole.state) → (xs : List E) → m.whole.pending ≡ xs → HasBelow v (c.known s) xs → (f : Bool) → Bound f q → end_at v done c s xs ≤ q
      go s h [] e low f b = absurd low
      go (Some t) h (x ∷ xs) e low f b =
          let w : c.upto (time_of v x) (c.known (Some t)) ≤ c.known (Some t) = cl.within (time_of v x) (c.known (Some t)) in
          let k : c.known (Some t) ≤ q = known_least t h f q b in
          omega arith
      go None h (x ∷ xs) e low true b =
          elim (cases_lt (time_of v x) q) [
            | inl lt ↦ al.cut (time_of v x) (c.known None) q b.asked.asked lt
            | inr le ↦
                let w : q ≤ a.stop = b.asked.within in
                let l : a.stop ≤ limit = stop_limit in
                absurd (false≢true (sym h ∙ agreed_now q (omega arith) b.agrees k m o (subst (λ l. NoneBelow v q l) (sym e) le)))
          ]
      go None h (x ∷ xs) e low false b =
          let w : c.upto (time_of v x) (c.known None) ≤ c.known None = cl.within (time_of v x) (c.known None) in
          let r : c.known None ≡ a.stop = al.running in
          let e : q ≡ a.stop = b.0 in
          omega arith

  -- where the windows end, the bound as known is the bound, and the whole is what the run comes to
  pub over_bound : (k : ℕ) (m : Moment W E) → Opened k m → IsOver v done c m → (f : Bool) (q : ℕ) → Bound f q → c.known m.since ≡ q
  over_bound k m o over f q b = go m.since (since_is k m o) over f b
    where
      go : (s : Option ℕ) → IsSince s (done m.whole.state) → NoneBelow v (c.known s) m.whole.pending → (f : Bool) → Bound f q → c.known s ≡ q
      go (Some t) h none f b = let l : c.known (Some t) ≤ q = known_least t h f q b in let m : q ≤ c.known (Some t) = known_most t h f q b in omega arith
      go None h none true b =
          let e : c.known None ≡ a.stop = al.running in
          let w : q ≤ a.stop = b.asked.within in
          let l : a.stop ≤ limit = stop_limit in
          absurd (false≢true (sym h ∙ agreed_now q (omega arith) b.agrees k m o (none_to v Safe look limit laws q (c.known None) m.whole.pending (omega arith) none)))
      go None h none false b = al.running ∙ sym b.0

  pub comes_to_bound : (k : ℕ) (m : Moment W E) → Opened k m → IsOver v done c m → (f : Bool) (q : ℕ) → Bound f q → Reached v start.whole q m.whole
  comes_to_bound k m o over f q b =
      let s = stands v Safe look limit laws done c cl start ready k m o in
      let r = s.reached in
      let e : c.known m.since ≡ q = over_bound k m o over f q b in
      let none : NoneBelow v q (after v r.steps start.whole).pending = subst (λ (z : Global W E). NoneBelow v q z.pending) r.is (subst (λ t. NoneBelow v t m.whole.pending) e over) in
      let le : s.bound ≤ q = let p : s.bound ≤ c.known m.since = s.below in omega arith in
      let z : r.steps + 0 ≡ r.steps = omega arith in
      record { steps = r.steps; until = subst (λ n. IsUntil v q n start.whole) z (until_append v Safe look limit laws s.bound q r.steps 0 start.whole le r.until none); is = r.is }

  -- where the agreement sets the bound, all is done since a time before it
  pub agreed_since : (k : ℕ) (m : Moment W E) → Opened k m → IsOver v done c m → (q : ℕ) → Bound true q → (t : ℕ) × (m.since ≡ Some t) × (t < q)
  agreed_since k m o over q b = go m.since (since_is k m o) refl
    where
      none : NoneBelow v q m.whole.pending
      none = subst (λ t. NoneBelow v t m.whole.pending) (over_bound k m o over true q b) over

      go : (s : Option ℕ) → IsSince s (done m.whole.state) → m.since ≡ s → (t : ℕ) × (m.since ≡ Some t) × (t < q)
      go None h e = let w : q ≤ a.stop = b.asked.within in let l : a.stop ≤ limit = stop_limit in absurd (false≢true (sym h ∙ agreed_now q (omega arith) b.agrees k m o none))
      go (Some t) h e = (t, e, elim (cases_lt t q) [ inl lt ↦ lt | inr le ↦ absurd (h.never q b.asked.above le b.agrees) ])

  -- and otherwise no time at which it is asked, above the one since when all is done, is the bound
  pub not_agreed : (k : ℕ) (m : Moment W E) → Opened k m → IsOver v done c m → (q : ℕ) → Bound false q → (t : ℕ) → m.since ≡ Some t → a.asked q → t < q → ⊥
  not_agreed k m o over q b t e asked lt =
      let h : SinceHolds t = subst (λ s. IsSince s (done m.whole.state)) e (since_is k m o) in
      let same : c.known (Some t) ≡ q = ap c.known (sym e) ∙ over_bound k m o over false q b in
      let f : a.origin ≤ t = h.from in
      let s : q ≡ a.stop = b.0 in
      let agrees : Agrees q = subst (λ n. Agrees n) same (agreed_later h.upon (c.known (Some t)) h.below (cl.early (Some t)) h.agrees) in
      b.1 q (record { asked = asked; above = omega arith; within = omega arith }) agrees
