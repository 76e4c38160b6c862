-- The windows of a run, together, and the bound that they come to.
use Rattle.std.proofs.Common.{◌≡◌, ℕ, zero, suc, ◌+◌, ◌<◌, ◌≤◌, List, [], ◌∷◌, Bool, true, false, Option, Some, None, refl, sym, ap, ◌∙◌, subst, inl, inr, arith, ◌⊎◌}
use Rattle.std.specs.List.{AllByRecursion as Each}
use Rattle.std.proofs.lemmas.Bool.{cases_eq, cases_lt}
use Rattle.ss_theory.specs.Queue.{insert_all}
use Rattle.ss_theory.specs.World.{World, Global, before, time_of, HasBelow, NoneBelow, step, after, IsUntil, Laws, Ready}
use Rattle.ss_theory.specs.Rounds.{Cutting, CuttingLaws, Moment, window_end, end_at, Leads, IsOpened, HasWindows, learned, first_time, DoneLaws}
use Rattle.ss_theory.proofs.Lists.{each_map}
use Rattle.ss_theory.proofs.Steps.{may, ready_step}
use Rattle.ss_theory.proofs.Windows.{whole}
use Rattle.ss_theory.proofs.Theorems.{ready_after, until_append, after_append}
use Rattle.ss_theory.proofs.Rounds.{not_both, one_opened, opened_ready, follows_on, end_limit}

-- what happened up to a moment
pub record Reached {W X K E T : Type 0} (v : World W X K E T) (start : Global W E) (bound : ℕ) (g : Global W E) : Type 0 where
  pub steps : ℕ
  pub until : IsUntil v bound steps start
  pub is : g ≡ after v steps start

module _ {W X K E T : Type 0} (v : World W X K E T) (Safe : W → List E → Type 0) (look limit : ℕ) (laws : Laws v Safe look limit) where
  -- a run is ready for as long as it goes on
  pub ready_on : (least bound n : ℕ) (w : W) (pending : List E) → bound ≤ limit → Ready v Safe least w pending → IsUntil v bound n (whole v Safe look limit laws w pending) →
      Ready v Safe least (after v n (whole v Safe look limit laws w pending)).state (after v n (whole v Safe look limit laws w pending)).pending
  ready_on least bound zero w pending under r u = r
  ready_on least bound (suc n) w [] under r u = absurd u.0
  ready_on least bound (suc n) w (e ∷ rest) under r u =
      let below : time_of v e < bound = u.0 in
      ready_on least bound n (v.act w e).after (insert_all (before v) (v.act w e).sends rest) under (ready_step v Safe look limit laws least w e rest r (omega arith)) u.1

  -- what is done stays done
  pub done_on : (done : W → Bool) → DoneLaws v Safe limit done → (least bound n : ℕ) (w : W) (pending : List E) → bound ≤ limit → Ready v Safe least w pending → IsUntil v bound n (whole v Safe look limit laws w pending) → done w ≡ true → done (after v n (whole v Safe look limit laws w pending)).state ≡ true
  done_on done d least bound zero w pending under r u h = h
  done_on done d least bound (suc n) w [] under r u h = absurd u.0
  done_on done d least bound (suc n) w (e ∷ rest) under r u h =
      let below : time_of v e < bound = u.0 in
      let lim : time_of v e < limit = omega arith in
      done_on done d least bound n (v.act w e).after (insert_all (before v) (v.act w e).sends rest) under (ready_step v Safe look limit laws least w e rest r lim) u.1 (d.stays w e rest (may v Safe look limit laws least w e rest r lim) h)

  -- a run to a time goes on to a later one
  pub record GoesOn (n m bound : ℕ) (s : Global W E) : Type 0 where
    pub more : ℕ
    pub is : m ≡ n + more
    pub until : IsUntil v bound more (after v n s)

  pub goes_on : (q b n m : ℕ) (s : Global W E) → IsUntil v q n s → IsUntil v b m s → NoneBelow v q (after v m s).pending → GoesOn n m b s
  goes_on q b zero m s h k none = record { more = m; is = omega arith; until = k }
  goes_on q b (suc n) zero s h k none = absurd (not_both v q s.pending none h.0)
  goes_on q b (suc n) (suc m) s h k none =
      let a = goes_on q b n m (step v s) h.1 k.1 none in
      let e : m ≡ n + a.more = a.is in
      record { more = a.more; is = omega arith; until = a.until }

  pub none_to : (q b : ℕ) (xs : List E) → q ≤ b → NoneBelow v b xs → NoneBelow v q xs
  none_to q b [] le h = tt
  none_to q b (x ∷ xs) le h = omega arith

  pub none_from : (t : ℕ) (xs : List E) → Each (λ e. t ≤ time_of v e) xs → NoneBelow v t xs
  none_from t [] h = tt
  none_from t (x ∷ xs) h = h.0

  pub from_less : (t u : ℕ) (w : W) (xs : List E) → t ≤ u → Ready v Safe u w xs → Ready v Safe t w xs
  from_less t u w xs le r = record { safe = r.safe; ordered = r.ordered; none_before = each_map (λ e. u ≤ time_of v e) (λ e. t ≤ time_of v e) (λ e h. let k : u ≤ time_of v e = h in omega arith) xs r.none_before }

  module _ (done : W → Bool) (c : Cutting) (cl : CuttingLaws c look limit) (start : Moment W E) (begins : Ready v Safe 0 start.whole.state start.whole.pending) where
    abbrev Opened : ℕ → Moment W E → Type 0
    Opened = IsOpened v done c start

    abbrev upto : Moment W E → ℕ
    upto = window_end v done c

    -- a window's end is no later than the bound that is known after it
    pub up_known : (h m : Moment W E) → Leads v done c h m → upto h ≤ c.known m.since
    up_known h m l = subst (λ (x : Moment W E). upto h ≤ c.known x.since) (sym l.is) (go h.since h.whole.pending (done (after v l.steps h.whole).state))
      where
        go : (o : Option ℕ) (xs : List E) (b : Bool) → end_at v done c o xs ≤ c.known (learned v o b (first_time v xs))
        go (Some t) [] b = omega arith
        go (Some t) (x ∷ xs) b = cl.within (time_of v x) (c.known (Some t))
        go None [] true = omega arith
        go None [] false = omega arith
        go None (x ∷ xs) true = cl.falls (time_of v x)
        go None (x ∷ xs) false = cl.within (time_of v x) (c.known None)

    led_later : (t : ℕ) (h m : Moment W E) → Ready v Safe t h.whole.state h.whole.pending → Leads v done c h m → Ready v Safe (upto h) m.whole.state m.whole.pending
    led_later t h m r l =
        subst (λ (x : Moment W E). Ready v Safe (upto h) x.whole.state x.whole.pending) (sym l.is)
        (ready_after v Safe look limit laws t (upto h) l.steps h.whole.state h.whole.pending (end_limit v Safe look limit laws done c cl start begins h) r l.until)

    -- so windows end one after another
    rises : (k : ℕ) (h m : Moment W E) → Opened k h → Leads v done c h m → upto h ≤ upto m
    rises k h m o l =
        go m.whole.pending (led_later (opened_ready v Safe look limit laws done c cl start begins k h o).0 h m (opened_ready v Safe look limit laws done c cl start begins k h o).1 l).none_before
      where
        go : (xs : List E) → Each (λ e. upto h ≤ time_of v e) xs → upto h ≤ end_at v done c m.since xs
        go [] e = up_known h m l
        go (x ∷ xs) e = cl.least (upto h) (time_of v x) (c.known m.since) e.0 (up_known h m l)

    -- the windows up to one are the run up to that one's end
    pub one_run : (k : ℕ) (h m : Moment W E) → Opened k h → Leads v done c h m → Reached v start.whole (upto h) m.whole
    one_run zero h m o l = record {
      steps = l.steps;
      until = subst (λ (x : Moment W E). IsUntil v (upto h) l.steps x.whole) o l.until;
      is = ap (λ (x : Moment W E). x.whole) l.is ∙ ap (λ (x : Moment W E). after v l.steps x.whole) o;
    }
    one_run (suc k) h m o l =
        let g = o.0 in
        let r = one_run k g h o.1 o.2 in
        record {
          steps = r.steps + l.steps;
          until = until_append v Safe look limit laws (upto g) (upto h) r.steps l.steps start.whole (rises k g h o.1 o.2) r.until (subst (λ (x : Global W E). IsUntil v (upto h) l.steps x) r.is l.until);
          is = ap (λ (x : Moment W E). x.whole) l.is ∙ ap (after v l.steps) r.is ∙ sym (after_append v Safe look limit laws r.steps l.steps start.whole);
        }

    -- each moment is one of the run, before its bound as known
    pub record Stands (m : Moment W E) : Type 0 where
      pub bound : ℕ
      pub below : bound ≤ c.known m.since
      pub before : bound ≤ upto m
      pub reached : Reached v start.whole bound m.whole

    pub stands : (k : ℕ) (m : Moment W E) → Opened k m → Stands m
    stands zero m o = record { bound = 0; below = omega arith; before = omega arith; reached = record { steps = 0; until = none_from 0 start.whole.pending begins.none_before; is = ap (λ (x : Moment W E). x.whole) o } }
    stands (suc k) m o = record { bound = upto o.0; below = up_known o.0 m o.2; before = rises k o.0 m o.1 o.2; reached = one_run k o.0 m o.1 o.2 }

    -- there are moments for all windows
    pub opened : (k : ℕ) → (m : Moment W E) × Opened k m
    opened zero = (start, refl)
    opened (suc k) =
        let a = opened k in
        let b = follows_on v Safe look limit laws done c cl start begins k a.0 a.1 in
        (b.0, (a.0, a.1, b.1))

    -- and all of them but finitely many are over
    is_over : (b : ℕ) (xs : List E) → NoneBelow v b xs ⊎ HasBelow v b xs
    is_over b [] = inl tt
    is_over b (x ∷ xs) = elim (cases_lt (time_of v x) b) [ inl h ↦ inr h | inr h ↦ inl h ]

    abbrev NotYet : ℕ → Type 0
    NotYet k = (j : ℕ) (m : Moment W E) → j < k → Opened j m → HasBelow v (c.known m.since) m.whole.pending

    abbrev Ends : Type 0
    Ends = (k : ℕ) × HasWindows v done c start k × (k ≤ limit)

    not_yet : (k : ℕ) (m : Moment W E) → Opened k m → NotYet k → HasBelow v (c.known m.since) m.whole.pending → NotYet (suc k)
    not_yet k m o before h j n lt p =
        elim (cases_eq j k) [
          | inl e ↦ subst (λ (x : Moment W E). HasBelow v (c.known x.since) x.whole.pending) (one_opened v Safe look limit laws done c cl start begins k m n o (subst (λ i. Opened i n) e p)) h
          | inr ne ↦ before j n (omega arith) p
        ]

    goes_up : (o : Option ℕ) (t : ℕ) (xs : List E) → HasBelow v (c.known o) xs → Each (λ e. t ≤ time_of v e) xs → (t < limit) × (t < end_at v done c o xs)
    goes_up o t [] h e = absurd h
    goes_up o t (x ∷ xs) h e =
        let a : time_of v x < c.known o = h in
        let b : t ≤ time_of v x = e.0 in
        let d : c.known o ≤ limit = cl.early o in
        let f : time_of v x < c.upto (time_of v x) (c.known o) = cl.later (time_of v x) (c.known o) h in
        (omega arith, omega arith)

    search_windows : (fuel k t : ℕ) (m : Moment W E) → Opened k m → NotYet k → Ready v Safe t m.whole.state m.whole.pending → k ≤ t → t ≤ limit → limit ≤ t + fuel → Ends
    search_windows zero k t m o before r kt tl le =
        elim (is_over (c.known m.since) m.whole.pending) [
          | inl h ↦ (k, record { last = m; opened = o; over = h; first = before }, omega arith)
          | inr h ↦ let a : t < limit = (goes_up m.since t m.whole.pending h r.none_before).0 in absurd (omega arith)
        ]
    search_windows (suc fuel) k t m o before r kt tl le =
        elim (is_over (c.known m.since) m.whole.pending) [
          | inl h ↦ (k, record { last = m; opened = o; over = h; first = before }, omega arith)
          | inr h ↦
              let a : t < limit = (goes_up m.since t m.whole.pending h r.none_before).0 in
              let up : t < upto m = (goes_up m.since t m.whole.pending h r.none_before).1 in
              let b = follows_on v Safe look limit laws done c cl start begins k m o in
              search_windows fuel (suc k) (suc t) b.0 (m, o, b.1) (not_yet k m o before h)
              (from_less (suc t) (upto m) b.0.whole.state b.0.whole.pending (omega arith) (led_later t m b.0 r b.1))
              (omega arith) (omega arith) (omega arith)
        ]

    pub windows_end : Ends
    windows_end = search_windows limit 0 0 start refl (λ j m lt o. absurd (omega arith)) begins (omega arith) (omega arith) (omega arith)

    -- how many there are is determined
    pub one_count : (j k : ℕ) → HasWindows v done c start j → HasWindows v done c start k → j ≡ k
    one_count j k a b = by_order (cases_lt j k) (cases_lt k j)
      where
        by_order : (j < k) ⊎ (k ≤ j) → (k < j) ⊎ (j ≤ k) → j ≡ k
        by_order (inl h) q = absurd (not_both v (c.known a.last.since) a.last.whole.pending a.over (b.first j a.last h a.opened))
        by_order (inr h) (inl q) = absurd (not_both v (c.known b.last.since) b.last.whole.pending b.over (a.first k b.last q b.opened))
        by_order (inr h) (inr q) = omega arith

    -- a window's steps, behind those before it, are the run up to its end
    pub up_to : (k : ℕ) (h m : Moment W E) (o : Opened k h) (l : Leads v done c h m) →
        IsUntil v (upto h) ((stands k h o).reached.steps + l.steps) start.whole × (m.whole ≡ after v ((stands k h o).reached.steps + l.steps) start.whole)
    up_to k h m o l =
        let s = stands k h o in
        let r = s.reached in (
          until_append v Safe look limit laws s.bound (upto h) r.steps l.steps start.whole s.before r.until (subst (λ (x : Global W E). IsUntil v (upto h) l.steps x) r.is l.until),
          ap (λ (x : Moment W E). x.whole) l.is ∙ ap (after v l.steps) r.is ∙ sym (after_append v Safe look limit laws r.steps l.steps start.whole),
        )
